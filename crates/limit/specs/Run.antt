-- Runs: 'the lists of activations and refresh events that can follow an accepted setting up'.
use Rattle.std.specs.Prelude.{ℕ, ◌≡◌, List, [], ◌∷◌, take}
use Rattle.device.specs.declared.Settings.{Settings}
use Rattle.device.specs.Refusal.{accepted}
use Rattle.state.specs.State.{State}
use Rattle.tracker.specs.Calls.{set_up, activation_on, refresh_on}
use Rattle.limit.specs.Exact.{Happened, activated, refreshed}

-- a call of the list: an activation with any remap ('each call may bring any fold'), any logical row ('bus row') and any hold, or an event with any lent list
pub data Command : Type 0 where
  activation_of : List ℕ → ℕ → ℕ → Command
  refresh_into : List ℕ → Command

-- the state that a call leaves
unfoldable pub left_by : Settings → Command → State → State
left_by s (activation_of remap row hold) st = (activation_on s remap st row hold).state
left_by s (refresh_into picks) st = (refresh_on s st picks).state

-- what the counter 'is fed' of a call: its remap, row and hold, 'whether the call was accepted, and the rows that an accepted event named: from the lent list's
-- front, as many as its answer says'
unfoldable pub told_by : Settings → Command → State → Happened
told_by s (activation_of remap row hold) st = activated remap row hold (activation_on s remap st row hold).accepts
told_by s (refresh_into picks) st =
    let call = refresh_on s st picks in
    refreshed call.accepts (take call.count call.picks)

-- 'the first call gets the tables and the position that setting up left, each later one those that the call before left'
unfoldable pub state_after : Settings → List Command → State → State
state_after s [] st = st
state_after s (c ∷ cs) st = state_after s cs (left_by s c st)

-- what it is fed of the list, 'each call in order'
unfoldable pub happened : Settings → List Command → State → List Happened
happened s [] st = []
happened s (c ∷ cs) st = told_by s c st ∷ happened s cs (left_by s c st)

-- 'an accepted setting up', whatever remap it brought and the lent tables held, and the state that it left
pub record Begun (s : Settings) (st : State) : Type 0 where
  pub remap : List ℕ
  pub rows : List ℕ
  pub counts : List ℕ
  pub accepts : (set_up s remap rows counts).answer ≡ accepted st.position
  pub rows_left : st.rows ≡ (set_up s remap rows counts).rows
  pub counts_left : st.counts ≡ (set_up s remap rows counts).counts
