-- Two trackers that 'agreed on every estimate and then named different rows': set up alike, each with one activation since. Each tracks one row, 'whose
-- count equalled the spill'.
use Rattle.std.specs.Prelude.{ℕ, [], ◌∷◌}
use Rattle.device.specs.declared.Settings.{Settings}
use Rattle.device.specs.Remap.{own_remap}
use Rattle.state.specs.State.{State, given}
use Rattle.tracker.specs.Calls.{refresh_on, RefreshCall}
use Rattle.agreement.specs.Later.{own, set_up_by, activation_by, memory_behind}

-- a bank of 16 rows with one counter
unfoldable pub one_counter : Settings
one_counter =
    record { rows = 16; blast_diameter = 2; volume = 1; counters = 1; interval = 4; window = 4; block = 4 }

-- tables of one place, not yet set up
unfoldable pub one_place : State
one_place =
    given (7 ∷ []) (7 ∷ []) (record { events = 0; activations = 0; tracked = 0; spillover = 0 })

-- set up with our own remap, then one activation of a row
unfoldable pub once_activated : ℕ → State
once_activated row = memory_behind one_counter own_remap one_place (set_up_by own ∷ activation_by own row 1 ∷ [])

-- the event that follows, with a list of one place
unfoldable pub event_after : ℕ → RefreshCall
event_after row = refresh_on one_counter (once_activated row) (0 ∷ [])
