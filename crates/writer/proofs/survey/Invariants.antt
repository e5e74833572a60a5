-- `writer::survey` meets its contract. The invariant: none of the answers so far is faulty, and their bytes are added up.
use Rattle.writer.proofs.Faults.{Surveyed}
use Rattle.writer.proofs.survey.Given as goal

abbrev pub invariant-answers : goal.invariant-answers
invariant-answers l = Surveyed l.answers l.answer-index l.rows l.bytes
