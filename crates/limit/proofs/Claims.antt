-- The claims, each under its statement's name.
use mathlib.Core.Path.{◌≡◌, refl, sym}
use mathlib.Core.Bool.{Bool, true, false, not}
use mathlib.Core.List.{[], ◌∷◌}
use Prim.Native.Nat.{◌+◌}
use native.Mathlib.Omega.{arith}
use lib.Dec.{ltb, leb}
use lib.ListN.{length}
use Rattle.device.specs.Refusal.{refuse}
use Rattle.device.specs.Remap.{remap_allowed, physical}
use Rattle.device.specs.Hold.{hold_allowed, repeated}
use Rattle.device.proofs.Acceptance.{accepted_settings}
use Rattle.device.proofs.Hold.{repeated_sum}
use Rattle.bound.specs.Totals.{bound_of}
use Rattle.state.specs.State.{state_of}
use Rattle.state.proofs.StateOf.{read_back}
use Rattle.tracker.specs.Calls.{activation_to, refresh_to}
use Rattle.tracker.proofs.Calls.SoundTests.{activation_refusals, refresh_refusals}
use Rattle.summary.specs.Steps.{besides}
use Rattle.limit.specs.Exact.{zeroed, disturbed_by, once, restored, renewed, after}
use Rattle.limit.specs.Claims.{Demand3, Demand3OfAnswers, UnitsCounted, ExampleCounted, Never21, EventsModulo, Estimated, WindowFigure, OwnBlock, RowLimit, RowLimitOfAnswers, RowFigureLimits, FiguresCloser}
use Rattle.limit.proofs.Example.{counted_by_computing}
use Rattle.limit.proofs.Invariant.{inv_limit, inv_first, inv_present}
use Rattle.limit.proofs.Run.{begun_accepted, plain_held, state_inv_run}
use Rattle.limit.proofs.Answered.{answered_run}
use Rattle.limit.proofs.ByRow.{own_early, own_holds, own_only, inv_row_limited, row_limited_figure, first_figure_le, row_figure_le}

pub demand_3 : Demand3
unfolding Demand3 bound_of
demand_3 s st b calls row inside =
    let ok = accepted_settings s (begun_accepted b) in
    let i = (state_inv_run b calls).inv in
    (omega (arith, inv_limit s ok i row inside), λ first. inv_first s ok i first row inside)

pub demand_3_of_answers : Demand3OfAnswers
unfolding Demand3OfAnswers Demand3
demand_3_of_answers s st told a row inside =
    let k = answered_run a in
    let limited = demand_3 s k.begun k.starts k.calls row inside in
    rw k.tells (omega (arith, limited.0), limited.1)

pub units_counted : UnitsCounted
unfolding UnitsCounted after repeated renewed restored zeroed disturbed_by once besides
units_counted s remap row x = (
  λ h k. repeated_sum h k (renewed s (physical remap row ∷ []) []) x,
  λ v. refl,
)

pub example_counted : ExampleCounted
example_counted = counted_by_computing

not_21 : (outside beyond other full : Bool) → refuse outside 9 (refuse beyond 15 (refuse other 14 (refuse full 22 0))) ≡ 21 → ⊥
unfolding refuse
not_21 true beyond other full e = omega arith
not_21 false true other full e = omega arith
not_21 false false true full e = omega arith
not_21 false false false true e = omega arith
not_21 false false false false e = omega arith

pub never_21 : Never21
unfolding Never21 activation_to refresh_to refuse
never_21 s st b calls =
    let k = state_inv_run b calls in
    let ok = begun_accepted b in
    let sound = plain_held s ok k.inv in (
      (λ remap row hold e.
          not_21 (not (ltb row s.rows)) (not (hold_allowed hold)) (not (remap_allowed remap)) (not (leb (k.activations + hold) s.interval))
          (rw (k.stored, activation_refusals s k.events k.activations k.sum ok sound remap row hold) at e)),
      (λ picks e.
          short_21 (not (leb s.volume (length picks)))
          (rw (k.stored, refresh_refusals s k.events k.activations k.sum ok sound picks) at e)),
    )
  where
    short_21 : (short : Bool) → refuse short 10 0 ≡ 21 → ⊥
    short_21 true e = omega arith
    short_21 false e = omega arith

pub events_modulo : EventsModulo
unfolding EventsModulo state_of
events_modulo s st b calls = let k = state_inv_run b calls in rw k.stored (sym k.inv.counted)

pub estimated : Estimated
unfolding Estimated
estimated s st b calls row =
    let k = state_inv_run b calls in
    rw (k.stored, read_back s k.events k.activations k.sum) (k.inv.window.estimates row)

pub window_figure : WindowFigure
unfolding WindowFigure state_of
window_figure s st b calls row =
    let k = state_inv_run b calls in
    rw k.stored (inv_present s (accepted_settings s (begun_accepted b)) k.inv row)

pub own_block : OwnBlock
unfolding OwnBlock
own_block s e row inside =
    let ok = accepted_settings s e in
    (own_early s ok row inside, own_holds s ok row inside, own_only s ok row inside)

pub row_limit : RowLimit
unfolding RowLimit
row_limit s st b calls row inside =
    inv_row_limited s (accepted_settings s (begun_accepted b)) row inside (state_inv_run b calls).inv

pub row_limit_of_answers : RowLimitOfAnswers
unfolding RowLimitOfAnswers RowLimit
row_limit_of_answers s st told a row inside =
    let k = answered_run a in
    rw k.tells (row_limit s k.begun k.starts k.calls row inside)

pub row_figure_limits : RowFigureLimits
unfolding RowFigureLimits RowLimit EventsModulo
row_figure_limits s st b calls row inside =
    rw (events_modulo s st b calls) (row_limited_figure s _ row (row_limit s st b calls row inside))

pub figures_closer : FiguresCloser
unfolding FiguresCloser
figures_closer s e row early = (first_figure_le s early, row_figure_le s row early)
