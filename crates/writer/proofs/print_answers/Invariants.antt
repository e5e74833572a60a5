-- `writer::print_answers` meets its contract. The invariant: the answers so far are written.
use Rattle.writer.proofs.Prints.{Printed}
use Rattle.writer.proofs.print_answers.Given as goal

abbrev pub invariant-answers : goal.invariant-answers
invariant-answers l = Printed l.answers l.answer-index l.initial.text l.text l.at
