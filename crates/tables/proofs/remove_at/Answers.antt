-- `tables::remove_at` meets its contract.
use Rattle.tables.proofs.Shifts.{taken_at_copied}
use Rattle.tables.proofs.remove_at.Goals as goal

pub returns : goal.returns
returns c = rw c.copy_within.ensures.after (taken_at_copied c.args.t.now c.args.used c.args.at c.requires.0 c.requires.1)
