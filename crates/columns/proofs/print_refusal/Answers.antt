-- `columns::print_refusal` meets its contract: a byte, two numbers and a byte, each right behind the last.
use Rattle.columns.specs.Output.{refusal_line}
use Rattle.columns.proofs.Output.{prints_then}
use Rattle.columns.proofs.print_refusal.Goals as goal

pub returns : goal.returns
unfolding refusal_line
returns c =
    let print_byte = c.print_byte-numbers in
    let print_columns = c.print_columns-refusal in
    let print_columns2 = c.print_columns-end in
    prints_then
    (prints_then
    (prints_then print_byte.ensures print_columns.ensures)
    print_columns2.ensures)
    c.print_byte.ensures
