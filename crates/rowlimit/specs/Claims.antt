-- What the figure is worth: where a tracker stands after an accepted setting up, it limits the row's disturbance. proofs/Claims.antt proves each under the
-- same name.
use Rattle.std.specs.Prelude.{ℕ, ◌≤◌, ◌<◌, ◌≡◌, true, List, Result}
use Rattle.device.specs.declared.Settings.{Settings}
use Rattle.device.specs.declared.refusal.Refusal.{Refusal}
use Rattle.device.specs.Refusal.{Outcome, accepted, outcome}
use Rattle.device.specs.Remap.{remap_allowed, physical}
use Rattle.state.specs.State.{State}
use Rattle.limit.specs.Exact.{Happened, exact}
use Rattle.limit.specs.Run.{Command, Begun, state_after, happened}
use Rattle.limit.specs.Answered.{Answered}
use Rattle.rowlimit.specs.Answers.{row_limit_answer}

-- an answer is a figure, and a number is at most that
pub record Limits (answer : Outcome ℕ) (d : ℕ) : Type 0 where
  pub figure : ℕ
  pub given : answer ≡ accepted figure
  pub at_most : d ≤ figure

-- after every list of calls: the call's figure of a row, by any remap that is accepted and the position that the list left, limits the exact
-- disturbance of the physical row
unfoldable pub CallLimits : Type 0
CallLimits =
    (s : Settings) (st : State) → Begun s st → (calls : List Command) →
    (remap : List ℕ) (row : ℕ) → remap_allowed remap ≡ true → row < s.rows →
    Limits (row_limit_answer s remap row (state_after s calls st).position) ((exact s (happened s calls st)).disturbance (physical remap row))

-- the same of the library: after any sequence of answers of `set_up`, `activate` and `refresh`, every answer of `row_limit` that meets its contract
unfoldable pub CallLimitsOfAnswers : Type 0
CallLimitsOfAnswers =
    (s : Settings) (st : State) (told : List Happened) → Answered s st told →
    (remap : List ℕ) (row : ℕ) → remap_allowed remap ≡ true → row < s.rows →
    (r : Result ℕ Refusal) → outcome r ≡ row_limit_answer s remap row st.position →
    Limits (outcome r) ((exact s told).disturbance (physical remap row))
