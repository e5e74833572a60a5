-- `steps::print::print_refresh` meets its contract: a byte, two numbers, the rows and a byte, each right behind the last.
use native.Mathlib.Omega.{arith}
use lib.Seq.{length-take-le}
use Rattle.columns.proofs.Numbers.Printed.{length_printed}
use Rattle.steps.specs.Output.{refresh_line}
use Rattle.columns.proofs.Output.{prints_then, length_number_columns_take}
use Rattle.steps.proofs.print.print_refresh.Goals as goal

pub print_columns-rows-requires : goal.print_columns-rows-requires
print_columns-rows-requires c = omega (arith, length_printed 6 c.args.e)

pub print_numbers-end-requires : goal.print_numbers-end-requires
print_numbers-end-requires c =
    let a = c.args in
    (omega arith, omega (arith, length_printed 6 a.e, length_printed 6 a.count))

pub print_byte-requires : goal.print_byte-requires
print_byte-requires c =
    let a = c.args in
    omega (arith, length_printed 6 a.e, length_printed 6 a.count, length_number_columns_take a.picks.now a.count (omega arith))

pub returns : goal.returns
unfolding refresh_line
returns c =
    let print_byte = c.print_byte-events in
    let print_columns = c.print_columns-number in
    let print_columns2 = c.print_columns-rows in
    let print_numbers = c.print_numbers-end in
    let a = c.args in
    rw (length-take-le a.count a.picks.now (omega (arith, c.requires)))
    (prints_then
    (prints_then
    (prints_then
    (prints_then print_byte.ensures print_columns.ensures)
    print_columns2.ensures)
    print_numbers.ensures)
    c.print_byte.ensures)
