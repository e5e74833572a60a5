-- `aids::marks::enter` meets its contract.
use mathlib.Core.Path.{refl}
use Rattle.aids.proofs.Stores.{marked_entered}
use Rattle.aids.proofs.marks.enter.Goals as goal

pub returns : goal.returns
returns c = record { counts_after = refl; marked = marked_entered c.requires.0 c.args.row c.requires.1 c.args.count c.mark.ensures c.mark-2.ensures }
