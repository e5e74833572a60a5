-- Runs of calls: the invariant of the plain tracker holds after setting up and after any list of calls. Every event is a regular one, so that a
-- window has n of them, and an event leaves no activations.
use mathlib.Core.Path.{◌≡◌, refl, sym, ap}
use mathlib.Core.Bool.{true, false}
use mathlib.Core.List.{List, [], ◌∷◌, ◌++◌}
use Prim.Native.Nat.{ℕ, zero, suc, ◌+◌, ◌%◌}
use native.Mathlib.Omega.{arith}
use borrow.Author.Tests.{ltb-true, leb-true}
use lib.Dec.{ltb, leb}
use lib.ListN.{length, take, drop}
use lib.Seq.{take_at}
use Rattle.device.specs.declared.Settings.{Settings}
use Rattle.device.specs.Refusal.{first_failed, refuse, accepted, tested}
use Rattle.device.specs.Acceptance.{settings_tests}
use Rattle.device.specs.Remap.{remap_allowed, physical}
use Rattle.device.specs.Hold.{hold_allowed, repeated}
use Rattle.laws.proofs.Cases.{split, zero_one}
use Rattle.device.proofs.Remap.{physical_below}
use Rattle.device.proofs.Acceptance.{Accepted, accepted_settings as accepted_facts}
use Rattle.summary.specs.Steps.{Summary, empty, activation, picked, event}
use Rattle.state.specs.declared.Position.{Position}
use Rattle.state.specs.State.{State, state_of}
use Rattle.state.proofs.StateOf.{read_back}
use Rattle.tracker.specs.Calls.{kept_unless, set_up_tests, set_up_to, activation_to, refresh_to, block_rows, ends_window, next_event, victims_in}
use Rattle.tracker.proofs.Calls.Ready.{set_up_ready}
use Rattle.tracker.proofs.Calls.SoundTests.{Held, activation_refusals, refresh_refusals}
use Rattle.limit.specs.Exact.{Happened, Exact, at_rest, after, after_all, exact}
use Rattle.limit.specs.Present.{cleared, next_window, present_after_all, present}
use Rattle.limit.specs.Run.{Command, activation_of, refresh_into, left_by, told_by, state_after, happened, Begun}
use Rattle.limit.proofs.Invariant.{Inv, inv_begins, inv_held, inv_units, inv_refreshed, inv_ended}

-- a list of calls behind another: the state that it leaves, and what happened
pub state_after_append : (s : Settings) (cs ds : List Command) (st : State) → state_after s (cs ++ ds) st ≡ state_after s ds (state_after s cs st)
unfolding state_after
state_after_append s [] ds st = refl
state_after_append s (c ∷ cs) ds st = state_after_append s cs ds (left_by s c st)

pub happened_append : (s : Settings) (cs ds : List Command) (st : State) → happened s (cs ++ ds) st ≡ happened s cs st ++ happened s ds (state_after s cs st)
unfolding happened state_after
happened_append s [] ds st = refl
happened_append s (c ∷ cs) ds st = ap (λ (hs : List Happened). told_by s c st ∷ hs) (happened_append s cs ds (left_by s c st))

-- the invariant, at e events and a units of activations
abbrev pub PlainInv : Settings → ℕ → ℕ → Summary → Exact → Exact → Type 0
PlainInv s e a sum x y = Inv s s.window e e a sum x y

-- a state holds a summary of which the invariant holds; x: the exact disturbance, y: that of the present window
pub record StateInv (s : Settings) (st : State) (x y : Exact) : Type 0 where
  pub events : ℕ
  pub activations : ℕ
  pub sum : Summary
  pub stored : st ≡ state_of s events activations sum
  pub inv : PlainInv s events activations sum x y

-- the invariant after a call: of the state it leaves, the exact disturbance and that of the present window
abbrev CallInv : Settings → Command → State → Exact → Exact → Type 0
CallInv s c st x y =
    StateInv s (left_by s c st) (after s (told_by s c st) x) (after s (told_by s c st) (next_window s (told_by s c st) y))

module _ (s : Settings) (ok : first_failed (settings_tests s) ≡ 0) where
  facts : Accepted s
  facts = accepted_facts s ok

  pub plain_held : {e a : ℕ} {sum : Summary} {x y : Exact} → PlainInv s e a sum x y → Held s e a sum
  plain_held i = inv_held s facts i (omega (arith, facts.others.window.most))

  -- a call that is refused leaves everything as it came
  state_inv_refused : {e a : ℕ} {sum : Summary} {x y : Exact} → PlainInv s e a sum x y → StateInv s (state_of s e a sum) x y
  state_inv_refused {e} {a} {sum} i = record { events = e; activations = a; sum = sum; stored = refl; inv = i }

  state_inv_activation : (remap : List ℕ) (row hold e a : ℕ) (sum : Summary) (x y : Exact) → PlainInv s e a sum x y → CallInv s (activation_of remap row hold) (state_of s e a sum) x y
  unfolding left_by told_by activation_to kept_unless refuse after next_window state_of
  state_inv_activation remap row hold e a sum x y i =
      let refusals = activation_refusals s e a sum ok (plain_held i) remap row hold in
      split (ltb row s.rows)
      (λ inside.
      split (hold_allowed hold)
      (λ held.
      split (remap_allowed remap)
      (λ allowed.
      let below = physical_below remap allowed s.rows row facts.others.rows_whole (ltb-true row s.rows inside) in
      split (leb (a + hold) s.interval)
      (λ spare.
      rw (refusals, inside, held, allowed, spare, read_back s e a sum)
      (record {
        events = e;
        activations = a + hold;
        sum = repeated hold (activation s.counters (victims_in s) (physical remap row)) sum;
        stored = refl;
        inv = inv_units s facts i (physical remap row) below hold (leb-true (a + hold) s.interval spare);
      }))
      (λ full. rw (refusals, inside, held, allowed, full) (state_inv_refused i)))
      (λ other. rw (refusals, inside, held, other) (state_inv_refused i)))
      (λ beyond. rw (refusals, inside, beyond) (state_inv_refused i)))
      (λ outside. rw (refusals, outside) (state_inv_refused i))

  state_inv_refresh : (picks : List ℕ) (e a : ℕ) (sum : Summary) (x y : Exact) → PlainInv s e a sum x y → CallInv s (refresh_into picks) (state_of s e a sum) x y
  unfolding left_by told_by refresh_to kept_unless refuse after next_window cleared state_of next_event
  state_inv_refresh picks e a sum x y i =
      let refusals = refresh_refusals s e a sum ok (plain_held i) picks in
      let named = picked s.volume sum in
      let told : take (length named) (named ++ drop (length named) picks) ≡ named = take_at named (drop (length named) picks) (length named) refl in
      let here : y.refreshes % s.window ≡ e = rw i.together i.counted in
      split (leb s.volume (length picks))
      (λ room.
      split (ends_window s e)
      (λ ends.
      rw (refusals, room, read_back s e a sum, told, here, i.counted, ends, here)
      (record {
        events = 0;
        activations = 0;
        sum = event s.counters (victims_in s) s.volume (block_rows s e) true sum;
        stored = refl;
        inv = inv_ended s facts i 0 (omega arith) ends;
      }))
      (λ goes_on.
      rw (refusals, room, read_back s e a sum, told, here, i.counted, goes_on, here)
      (record {
        events = e + 1;
        activations = 0;
        sum = event s.counters (victims_in s) s.volume (block_rows s e) false sum;
        stored = refl;
        inv = inv_refreshed s facts i 0 (omega arith) goes_on;
      })))
      (λ short. rw (refusals, short) (state_inv_refused i))

  -- any call, and any list of calls
  state_inv_call : (c : Command) {st : State} {x y : Exact} → StateInv s st x y → CallInv s c st x y
  state_inv_call (activation_of remap row hold) {st} {x} {y} k = rw k.stored (state_inv_activation remap row hold k.events k.activations k.sum x y k.inv)
  state_inv_call (refresh_into picks) {st} {x} {y} k = rw k.stored (state_inv_refresh picks k.events k.activations k.sum x y k.inv)

  state_inv_calls : (calls : List Command) {st : State} {x y : Exact} → StateInv s st x y → StateInv s (state_after s calls st) (after_all s (happened s calls st) x) (present_after_all s (happened s calls st) y)
  unfolding state_after happened after_all present_after_all
  state_inv_calls [] k = k
  state_inv_calls (c ∷ cs) k = state_inv_calls cs (state_inv_call c k)

-- setting up
tested_accepted : (k : ℕ) (p q : Position) → tested k (accepted p) ≡ accepted q → (k ≡ 0) × (p ≡ q)
unfolding tested
tested_accepted zero p q e = (refl, cc)
tested_accepted (suc k) p q e = zero_one (cc)

module _ {s : Settings} {st : State} (b : Begun s st) where
  set_up_tests_passed : (first_failed (set_up_tests s b.remap b.rows b.counts) ≡ 0) × ((state_of s 0 0 empty).position ≡ st.position)
  unfolding set_up_to
  set_up_tests_passed =
      tested_accepted (first_failed (set_up_tests s b.remap b.rows b.counts)) (state_of s 0 0 empty).position st.position b.accepts

  pub begun_accepted : first_failed (settings_tests s) ≡ 0
  begun_accepted = (set_up_ready s b.remap b.rows b.counts set_up_tests_passed.0).0.settled

  begun_state : st ≡ state_of s 0 0 empty
  unfolding set_up_to kept_unless
  begun_state =
      let rows : st.rows ≡ (state_of s 0 0 empty).rows = rw set_up_tests_passed.0 at b.rows_left in
      let counts : st.counts ≡ (state_of s 0 0 empty).counts = rw set_up_tests_passed.0 at b.counts_left in
      λ i. record { rows = rows i; counts = counts i; position = sym set_up_tests_passed.1 i }

  state_inv_set_up : StateInv s st at_rest at_rest
  state_inv_set_up =
      record {
        events = 0;
        activations = 0;
        sum = empty;
        stored = begun_state;
        inv = inv_begins s s.window (accepted_facts s begun_accepted) (omega arith);
      }

  -- the invariant after any list of calls
  pub state_inv_run : (calls : List Command) → StateInv s (state_after s calls st) (exact s (happened s calls st)) (present s (happened s calls st))
  unfolding exact present
  state_inv_run calls = state_inv_calls s begun_accepted calls state_inv_set_up
