-- `spelling::print_line` meets its contract: a letter, numbers and a byte 10.
use native.Mathlib.Omega.{arith}
use lib.Seq.{take-length}
use Rattle.canonical.specs.Spelling.{spelled_line}
use Rattle.columns.proofs.Output.{length_number_columns, prints_then}
use Rattle.spelling.proofs.print_line.Goals as goal

pub print_byte-requires : goal.print_byte-requires
print_byte-requires c =
    let numbers = c.args.numbers.now in
    let printed = rw (take-length numbers) at c.print_numbers-end.ensures in
    omega (arith, printed.behind, length_number_columns numbers)

pub returns : goal.returns
unfolding spelled_line
returns c =
    let printed = rw (take-length c.args.numbers.now) at c.print_numbers-end.ensures in
    prints_then (prints_then c.print_byte-place.ensures printed) c.print_byte.ensures
