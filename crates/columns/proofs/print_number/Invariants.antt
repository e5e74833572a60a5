-- `columns::print_number` meets its contract. The invariant: with the columns in front of i still to be written, the buffer is as it is to be.
use mathlib.Core.Path.{◌≡◌}
use Prim.Native.Nat.{◌≤◌}
use Rattle.columns.proofs.Numbers.Printed.{with_columns_before}
use Rattle.columns.proofs.print_number.Given as goal

abbrev pub invariant-loop-i : goal.invariant-loop-i
invariant-loop-i l =
    record {
      same : with_columns_before l.out l.at l.i l.left ≡ with_columns_before l.initial.out l.at l.initial.i l.initial.left;
      least : l.at ≤ l.i;
    }
