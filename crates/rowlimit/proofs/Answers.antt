-- No figure comes near 2^63, so that every answer can be said as one signed number of 64 bits.
use mathlib.Core.List.{List}
use Prim.Native.Nat.{ℕ}
use native.Mathlib.Omega.{arith}
use Rattle.device.specs.declared.Settings.{Settings}
use Rattle.device.specs.Refusal.{accepted, first_failed}
use Rattle.device.specs.Remap.{physical}
use Rattle.device.proofs.Acceptance.{accepted_settings}
use Rattle.bound.specs.Answers.{Small}
use Rattle.bound.proofs.Answers.{small_tested}
use Rattle.bound.proofs.Totals.Bound.{bound_lt}
use Rattle.state.specs.declared.Position.{Position}
use Rattle.limit.specs.ByRow.{row_figure}
use Rattle.limit.proofs.ByRow.{row_figure_le}
use Rattle.rowlimit.specs.Answers.{row_limit_tests, row_limit_answer}
use Rattle.rowlimit.proofs.Tests.{row_limit_passed, row_limit_refusal_le}

pub small_row_limit_answer : (s : Settings) (remap : List ℕ) (row : ℕ) (p : Position) → Small (row_limit_answer s remap row p)
unfolding row_limit_answer Small
small_row_limit_answer s remap row p =
    small_tested (first_failed (row_limit_tests s remap row p)) (accepted (row_figure s p.events (physical remap row)))
    (omega (arith, row_limit_refusal_le s remap row p))
    (λ none.
    let o = row_limit_passed s remap row p none in
    omega (arith, row_figure_le s (physical remap row) o.early, bound_lt s (accepted_settings s o.settled).others))
