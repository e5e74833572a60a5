-- `tables::insert_at` meets its contract.
use Rattle.tables.proofs.Shifts.{put_in_copied}
use Rattle.tables.proofs.insert_at.Goals as goal

pub returns : goal.returns
returns c = rw c.copy_within.ensures.after (put_in_copied c.args.t.now c.args.used c.args.at c.args.x c.requires.0 c.requires.1)
