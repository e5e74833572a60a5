-- `aids::marks::remove` meets its contract. Where the row's word has no mark any more, the word's mark is turned too.
use mathlib.Core.Path.{refl}
use native.Mathlib.Omega.{arith}
use Rattle.aids.proofs.Stores.{marked_emptied, marked_removed}
use Rattle.aids.proofs.marks.remove.Goals as goal

pub returns-then-unmark-eq0 : goal.returns-then-unmark-eq0
returns-then-unmark-eq0 c = let first = c.unmark.ensures in record { counts_after = refl; marked = marked_emptied c.requires.0 c.args.row c.requires.1 first.0 (omega (arith, first.1, c.if-unmark-eq0.true)) c.unmark-then-unmark-eq0.ensures.0 }

pub returns-else-unmark-eq0 : goal.returns-else-unmark-eq0
returns-else-unmark-eq0 c = record { counts_after = refl; marked = marked_removed c.requires.0 c.args.row c.requires.1 c.unmark.ensures.0 c.requires.2 }
