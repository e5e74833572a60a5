-- Reachable states: setting up reaches one, and so does one more call; their calls are refused with 9, 15, 14, 22 or 10 only.
use mathlib.Core.Path.{◌≡◌, refl, sym, ◌∙◌, ap}
use mathlib.Core.Bool.{not}
use mathlib.Core.List.{List, [], ◌∷◌, ◌++◌}
use Prim.Native.Nat.{ℕ, ◌+◌, ◌≤◌}
use lib.Dec.{ltb, leb}
use lib.ListN.{length}
use Rattle.device.specs.declared.Settings.{Settings}
use Rattle.device.specs.Refusal.{first_failed, refuse}
use Rattle.device.specs.Acceptance.{settings_tests}
use Rattle.device.specs.Remap.{remap_allowed}
use Rattle.device.specs.Hold.{hold_allowed}
use Rattle.summary.specs.Steps.{Summary}
use Rattle.state.specs.State.{State, state_of}
use Rattle.tracker.specs.Calls.{activation_on, refresh_on, activation_tests, refresh_tests}
use Rattle.tracker.proofs.Calls.SoundTests.{Held, activation_refusals, refresh_refusals}
use Rattle.limit.specs.Run.{Command, activation_of, refresh_into, left_by, state_after, Begun}
use Rattle.limit.specs.Reachable.{Reached}
use Rattle.limit.proofs.Run.{state_after_append, begun_accepted, plain_held, state_inv_run}

pub reached_set_up : {s : Settings} {st : State} → Begun s st → Reached s st
unfolding state_after
reached_set_up {s} {st} b = record { begun = st; starts = b; calls = []; leads = refl }

reached_call : {s : Settings} {st : State} (c : Command) → Reached s st → Reached s (left_by s c st)
unfolding state_after
reached_call {s} {st} c r =
    record {
      begun = r.begun;
      starts = r.starts;
      calls = r.calls ++ c ∷ [];
      leads = ap (λ (x : State). left_by s c x) r.leads ∙ sym (state_after_append s r.calls (c ∷ []) r.begun);
    }

pub reached_activation : {s : Settings} {st : State} (remap : List ℕ) (row hold : ℕ) → Reached s st → Reached s (activation_on s remap st row hold).state
unfolding left_by
reached_activation remap row hold r = reached_call (activation_of remap row hold) r

pub reached_refresh : {s : Settings} {st : State} (picks : List ℕ) → Reached s st → Reached s (refresh_on s st picks).state
unfolding left_by
reached_refresh picks r = reached_call (refresh_into picks) r

pub reached_accepted : {s : Settings} {st : State} → Reached s st → first_failed (settings_tests s) ≡ 0
reached_accepted r = begun_accepted r.starts

-- the summary that a reached state holds
record SumOf (s : Settings) (st : State) : Type 0 where
  events : ℕ
  activations : ℕ
  sum : Summary
  stored : st ≡ state_of s events activations sum
  holds : Held s events activations sum

reached_sum : {s : Settings} {st : State} → Reached s st → SumOf s st
reached_sum {s} {st} r =
    let k = state_inv_run r.starts r.calls in
    record {
      events = k.events;
      activations = k.activations;
      sum = k.sum;
      stored = r.leads ∙ k.stored;
      holds = plain_held s (reached_accepted r) k.inv;
    }

pub activation_refused_with : {s : Settings} {st : State} → Reached s st → (remap : List ℕ) (row hold : ℕ) → first_failed (activation_tests s remap st row hold) ≡ refuse (not (ltb row s.rows)) 9 (refuse (not (hold_allowed hold)) 15 (refuse (not (remap_allowed remap)) 14 (refuse (not (leb (st.position.activations + hold) s.interval)) 22 0)))
unfolding state_of
activation_refused_with {s} r remap row hold =
    let k = reached_sum r in
    rw k.stored (activation_refusals s k.events k.activations k.sum (reached_accepted r) k.holds remap row hold)

-- no more units than the interval has
pub reached_within : {s : Settings} {st : State} → Reached s st → st.position.activations ≤ s.interval
unfolding state_of
reached_within r =
    let k = reached_sum r in
    rw k.stored k.holds.within

pub refresh_refused_with : {s : Settings} {st : State} → Reached s st → (picks : List ℕ) → first_failed (refresh_tests s st picks) ≡ refuse (not (leb s.volume (length picks))) 10 0
refresh_refused_with {s} r picks =
    let k = reached_sum r in
    rw k.stored (refresh_refusals s k.events k.activations k.sum (reached_accepted r) k.holds picks)
