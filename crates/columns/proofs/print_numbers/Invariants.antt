-- `columns::print_numbers` meets its contract. The invariant: the numbers so far are printed.
use lib.ListN.{take}
use Rattle.columns.specs.Output.{number_columns, Prints}
use Rattle.columns.proofs.print_numbers.Given as goal

abbrev pub invariant-loop-n : goal.invariant-loop-n
invariant-loop-n l = Prints l.initial.out l.at (number_columns (take l.n-index l.n-items)) l.out l.place
