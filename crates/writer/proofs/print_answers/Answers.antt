-- `writer::print_answers` meets its contract. The invariant: the answers so far are written.
use Rattle.writer.proofs.Prints.{next_fits, printed_all}
use Rattle.writer.proofs.print_answers.Goals as goal

pub print_answer-at-requires : goal.print_answer-at-requires
print_answer-at-requires c = next_fits _ c.answers.invariant c.answers-test.true c.requires

pub returns : goal.returns
returns c = printed_all c.answers.invariant c.answers-test.false
