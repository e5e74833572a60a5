-- `steps::print::print_bound` meets its contract: a byte, two numbers and a byte, each right behind the last.
use native.Mathlib.Omega.{arith}
use Prim.Native.Nat.{◌*◌}
use Rattle.columns.proofs.Numbers.Printed.{length_printed}
use Rattle.steps.specs.Output.{bound_line}
use Rattle.columns.proofs.Output.{prints_then}
use Rattle.steps.proofs.print.print_bound.Goals as goal

pub print_columns-end-requires : goal.print_columns-end-requires
print_columns-end-requires c = omega (arith, length_printed 10 c.args.h)

pub print_byte-requires : goal.print_byte-requires
print_byte-requires c =
    let h = c.args.h in
    omega (arith, length_printed 10 h, length_printed 10 (2 * h))

pub returns : goal.returns
unfolding bound_line
returns c =
    let print_byte = c.print_byte-numbers in
    let print_columns = c.print_columns-twice in
    let print_columns2 = c.print_columns-end in
    prints_then
    (prints_then
    (prints_then print_byte.ensures print_columns.ensures)
    print_columns2.ensures)
    c.print_byte.ensures
