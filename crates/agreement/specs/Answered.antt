-- Sequences of answers of `set_up`, `activate` and `refresh`. Of an answer only its function's contract is known: each constructor's
-- equation is the `ensures` in crates/tracker/src/lib.rt, with the memory that the answer before left.
use Rattle.std.specs.Prelude.{ℕ, ◌≡◌, List, [], ◌∷◌, Result}
use Rattle.device.specs.declared.Settings.{Settings}
use Rattle.device.specs.declared.refusal.Refusal.{Refusal}
use Rattle.device.specs.Refusal.{outcome}
use Rattle.state.specs.declared.Position.{Position}
use Rattle.state.specs.State.{State, given}
use Rattle.tracker.specs.declared.Refused.{Refused}
use Rattle.tracker.specs.declared.Refreshed.{Refreshed}
use Rattle.tracker.specs.Calls.{set_up, activation_on, refresh_on}
use Rattle.tracker.specs.Answers.{set_up_call, activation_call, activation_position, refresh_call, refresh_position}
use Rattle.agreement.specs.Later.{Brought, settings_by, remap_by, Call, set_up_by, activation_by, refresh_by, position_after}

-- what came of a call: the answer itself, and what both tables and, of an event, the lent list hold
pub data Came : Type 0 where
  set_up_came : Result Position Refusal → List ℕ → List ℕ → Came
  activation_came : Result Position Refused → List ℕ → List ℕ → Came
  refresh_came : Result Refreshed Refused → List ℕ → List ℕ → List ℕ → Came

-- a sequence of answers to a list of calls, from a memory on
pub data Answered (s : Settings) (remap : List ℕ) : State → List Call → List Came → Type 0 where
  no_call : {st : State} → Answered s remap st [] []
  set_up_answered : {st : State} {calls : List Call} {came : List Came} (b : Brought) (r : Result Position Refusal) (rows counts : List ℕ)
      → set_up_call r rows counts ≡ set_up (settings_by s b) (remap_by remap b) st.rows st.counts
      → Answered s remap (given rows counts (position_after (outcome r) st.position)) calls came
      → Answered s remap st (set_up_by b ∷ calls) (set_up_came r rows counts ∷ came)
  activation_answered : {st : State} {calls : List Call} {came : List Came} (b : Brought) (row hold : ℕ) (r : Result Position Refused) (rows counts : List ℕ)
      → activation_call r rows counts ≡ activation_on (settings_by s b) (remap_by remap b) st row hold
      → Answered s remap (given rows counts (activation_position r)) calls came
      → Answered s remap st (activation_by b row hold ∷ calls) (activation_came r rows counts ∷ came)
  refresh_answered : {st : State} {calls : List Call} {came : List Came} (b : Brought) (list₀ : List ℕ) (r : Result Refreshed Refused) (rows counts list : List ℕ)
      → refresh_call r rows counts list ≡ refresh_on (settings_by s b) st list₀
      → Answered s remap (given rows counts (refresh_position r)) calls came
      → Answered s remap st (refresh_by b list₀ ∷ calls) (refresh_came r rows counts list ∷ came)
