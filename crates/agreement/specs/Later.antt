-- 'The same calls for ever after, each call being given the memory that the one before left': lists of calls and the answers to them.
use Rattle.std.specs.Prelude.{ℕ, List, [], ◌∷◌}
use Rattle.device.specs.declared.Settings.{Settings}
use Rattle.device.specs.Refusal.{Outcome, accepted, refused}
use Rattle.state.specs.declared.Position.{Position}
use Rattle.state.specs.State.{State, given}
use Rattle.tracker.specs.Calls.{SetUpCall, ActivationCall, RefreshCall, set_up, activation_on, refresh_on}

-- the settings and remap ('fold') that a call brings: those of the tracker that was compared, whatever was brought since, or any others
pub data Brought : Type 0 where
  own : Brought
  others : Settings → List ℕ → Brought

-- the settings of these
unfoldable pub settings_by : Settings → Brought → Settings
settings_by s own = s
settings_by s (others s' remap') = s'

-- and the remap
unfoldable pub remap_by : List ℕ → Brought → List ℕ
remap_by remap own = remap
remap_by remap (others s' remap') = remap'

-- a call that may alter a tracker's memory: setting up, an activation of any logical row with any hold, or an event with any lent list
pub data Call : Type 0 where
  set_up_by : Brought → Call
  activation_by : Brought → ℕ → ℕ → Call
  refresh_by : Brought → List ℕ → Call

-- its answer, with all that it leaves: accepted or refused and with which number, the number and rows picked, position, tables and list
pub data Answer : Type 0 where
  set_up_answer : SetUpCall → Answer
  activation_answer : ActivationCall → Answer
  refresh_answer : RefreshCall → Answer

-- the answer to a call on this memory
unfoldable pub answer_to : Settings → List ℕ → State → Call → Answer
answer_to s remap st (set_up_by b) = set_up_answer (set_up (settings_by s b) (remap_by remap b) st.rows st.counts)
answer_to s remap st (activation_by b row hold) = activation_answer (activation_on (settings_by s b) (remap_by remap b) st row hold)
answer_to s remap st (refresh_by b picks) = refresh_answer (refresh_on (settings_by s b) st picks)

-- the position to go on with: 'a refused setting up has no position to hand back', so the one that there was stays
unfoldable pub position_after : Outcome Position → Position → Position
position_after (accepted p) before = p
position_after (refused k) before = before

-- 'the memory that the one before left'
unfoldable pub memory_after : State → Answer → State
memory_after st (set_up_answer r) = given r.rows r.counts (position_after r.answer st.position)
memory_after st (activation_answer r) = r.state
memory_after st (refresh_answer r) = r.state

-- the answers to a list of calls on a tracker of these settings, this remap and this memory
unfoldable pub answers : Settings → List ℕ → State → List Call → List Answer
answers s remap st [] = []
answers s remap st (c ∷ cs) = answer_to s remap st c ∷ answers s remap (memory_after st (answer_to s remap st c)) cs

-- the memory behind them: with settings and remap all that a call that alters nothing, as agreement or a row's figure, is given of a tracker
unfoldable pub memory_behind : Settings → List ℕ → State → List Call → State
memory_behind s remap st [] = st
memory_behind s remap st (c ∷ cs) = memory_behind s remap (memory_after st (answer_to s remap st c)) cs
