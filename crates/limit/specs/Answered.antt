-- Sequences of answers of `set_up`, `activate` and `refresh`. Of an answer only its function's contract is known: each
-- constructor's first equation is the `ensures` in crates/tracker/src/lib.rt, with the tables and position that the answer before left.
use Rattle.std.specs.Prelude.{ℕ, ◌≡◌, List, [], ◌∷◌, ◌++◌, take, Result}
use Rattle.device.specs.declared.Settings.{Settings}
use Rattle.device.specs.declared.refusal.Refusal.{Refusal}
use Rattle.device.specs.Refusal.{accepted, outcome}
use Rattle.state.specs.declared.Position.{Position}
use Rattle.state.specs.State.{State, given}
use Rattle.tracker.specs.declared.Refused.{Refused}
use Rattle.tracker.specs.declared.Refreshed.{Refreshed}
use Rattle.tracker.specs.Calls.{set_up, activation_on, refresh_on}
use Rattle.tracker.specs.Answers.{set_up_call, activation_call, activation_accepts, activation_position, refresh_call, refresh_accepts, refresh_count, refresh_position}
use Rattle.limit.specs.Exact.{Happened, activated, refreshed}

-- a sequence of answers: the tables and position that the last one left, and what the counter was told
pub data Answered (s : Settings) : State → List Happened → Type 0 where
  -- 'an accepted setting up', whatever remap it brought and the lent tables held: no call yet
  set_up_answered : (r : Result Position Refusal) (p : Position) (remap rows₀ counts₀ rows counts : List ℕ)
      → set_up_call r rows counts ≡ set_up s remap rows₀ counts₀ → outcome r ≡ accepted p
      → Answered s (given rows counts p) []
  -- an activation of any logical row with any remap and hold: the counter is told all three and 'whether the call was accepted'
  activation_answered : {st : State} {told : List Happened} → Answered s st told → (remap : List ℕ) (row hold : ℕ) (r : Result Position Refused) (rows counts : List ℕ)
      → activation_call r rows counts ≡ activation_on s remap st row hold
      → Answered s (given rows counts (activation_position r)) (told ++ activated remap row hold (activation_accepts r) ∷ [])
  -- an event with any lent list: it is told 'whether the call was accepted' and 'the rows .. from the lent list's front, as many as its answer says'
  refresh_answered : {st : State} {told : List Happened} → Answered s st told → (list₀ : List ℕ) (r : Result Refreshed Refused) (rows counts list : List ℕ)
      → refresh_call r rows counts list ≡ refresh_on s st list₀
      → Answered s (given rows counts (refresh_position r)) (told ++ refreshed (refresh_accepts r) (take (refresh_count r) list) ∷ [])
