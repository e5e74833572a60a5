-- `state::ascending_rows` meets its contract. The invariant: the test of the rows that are left, with the low that is reached, says
-- what the whole test says.
use mathlib.Core.Path.{◌≡◌}
use lib.ListN.{drop}
use Rattle.state.specs.State.{ascending}
use Rattle.state.proofs.ascending_rows.Given as goal

abbrev pub invariant-loop-row : goal.invariant-loop-row
invariant-loop-row l = ascending l.low l.high (drop l.row-index l.rows) ≡ ascending 0 l.high l.rows
