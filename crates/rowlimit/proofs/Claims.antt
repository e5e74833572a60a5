-- The claims, each under its statement's name.
use mathlib.Core.Path.{◌≡◌}
use mathlib.Core.Bool.{true}
use mathlib.Core.List.{List}
use Prim.Native.Nat.{ℕ}
use borrow.Author.Tests.{lt-ltb}
use Rattle.device.specs.declared.Settings.{Settings}
use Rattle.device.specs.Refusal.{first_failed, refuse, accepted}
use Rattle.device.specs.Remap.{physical}
use Rattle.device.proofs.Acceptance.{accepted_settings}
use Rattle.device.proofs.Tests.{tested_passed, or_later_zero}
use Rattle.device.proofs.Remap.{physical_below}
use Rattle.state.specs.State.{State, state_of, position_allowed}
use Rattle.state.proofs.PositionAllowed.{facts_position}
use Rattle.limit.specs.Exact.{Happened, exact}
use Rattle.limit.specs.Run.{state_after}
use Rattle.limit.specs.ByRow.{row_figure}
use Rattle.limit.specs.Claims.{RowFigureLimits}
use Rattle.limit.proofs.Run.{begun_accepted, plain_held, state_inv_run}
use Rattle.limit.proofs.Answered.{answered_run}
use Rattle.limit.proofs.Claims.{row_figure_limits}
use Rattle.rowlimit.specs.Answers.{row_limit_tests, row_limit_answer}
use Rattle.rowlimit.specs.Claims.{Limits, CallLimits, CallLimitsOfAnswers}
use Rattle.rowlimit.proofs.Tests.{row_limit_tested}

pub call_limits : CallLimits
unfolding CallLimits RowFigureLimits row_limit_answer refuse state_of
call_limits s st b calls remap row allowed inside =
    let k = state_inv_run b calls in
    let ok = begun_accepted b in
    let held = plain_held s ok k.inv in
    let p = (state_after s calls st).position in
    let figure : ℕ = row_figure s p.events (physical remap row) in
    let sound : position_allowed s p ≡ true =
    rw k.stored
    (facts_position s (state_of s k.events k.activations k.sum).position
    (record { early = held.early; within = held.within; fits = held.sound.fits; spillover_le = held.spillover_le })) in
    let none : first_failed (row_limit_tests s remap row p) ≡ 0 =
    rw (row_limit_tested s remap row p, or_later_zero _ _ ok, lt-ltb row s.rows inside, allowed, sound) in
    record {
      figure = figure;
      given = tested_passed (accepted figure) none;
      at_most =
          row_figure_limits s st b calls (physical remap row)
          (physical_below remap allowed s.rows row (accepted_settings s ok).others.rows_whole inside);
    }

-- a state and what was told, by other names
limits_at : (s : Settings) (remap : List ℕ) (row : ℕ) (st st' : State) (told told' : List Happened) → st ≡ st' → told ≡ told' → Limits (row_limit_answer s remap row st'.position) ((exact s told').disturbance (physical remap row)) → Limits (row_limit_answer s remap row st.position) ((exact s told).disturbance (physical remap row))
limits_at s remap row st st' told told' leads tells l = rw (leads, tells) l

pub call_limits_of_answers : CallLimitsOfAnswers
unfolding CallLimitsOfAnswers CallLimits
call_limits_of_answers s st told a remap row allowed inside r meets =
    let k = answered_run a in
    rw meets
    (limits_at s remap row st _ told _ k.leads k.tells (call_limits s k.begun k.starts k.calls remap row allowed inside))
