-- `summary::is_listed` meets its contract: a row is in a list where its first place is among the used ones.
use lib.ListN.{take}
use lib.Seq.{length-take-le}
use Rattle.summary.proofs.Entries.Columns.{in_rows_place}
use Rattle.summary.proofs.is_listed.Goals as goal

pub returns : goal.returns
returns c = rw (in_rows_place c.args.row (take c.args.used c.args.list.now), length-take-le c.args.used c.args.list.now c.requires, ← c.first_equal.ensures)
