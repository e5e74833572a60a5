-- `writer::survey` meets its contract. The invariant: none of the answers so far is faulty, and their bytes are added up.
use Rattle.std.proofs.Common.{rules}
use Rattle.writer.proofs.Faults.{surveyed_next}
use Rattle.writer.proofs.survey.Goals as goal

pub answers-preserved : goal.answers-preserved
answers-preserved c = surveyed_next _ c.answers.invariant c.answers-test.true (search rules) c.rows_behind-rows.ensures c.width.ensures c.saturating_add-bytes.ensures
