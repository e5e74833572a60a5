-- `columns::print_numbers` meets its contract. The invariant: the numbers so far are printed.
use native.Mathlib.Omega.{arith}
use lib.ListN.{take}
use lib.Seq.{length-take-le}
use Rattle.columns.specs.Output.{number_columns}
use Rattle.columns.proofs.Output.{prints_nothing, prints_then, length_number_columns_take, number_columns_more}
use Rattle.columns.proofs.print_numbers.Goals as goal

pub loop-n-init : goal.loop-n-init
unfolding number_columns
loop-n-init c = prints_nothing _ _ (omega arith)

pub print_columns-place-requires : goal.print_columns-place-requires
print_columns-place-requires c =
    let l = c.loop-n in
    let a = c.args in
    omega (arith, length-take-le a.count a.numbers.now c.requires.0, length_number_columns_take (take a.count a.numbers.now) l.n-index (omega arith))

pub loop-n-preserved : goal.loop-n-preserved
loop-n-preserved c =
    rw (number_columns_more (take c.args.count c.args.numbers.now) c.loop-n.n-index c.loop-n-test.true) (prints_then c.loop-n.invariant c.print_columns-place.ensures)
