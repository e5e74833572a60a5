-- What the calls' answers say: 'a definition gives this paper's number and values for every case of the enum'. The number is 0 where a call is
-- accepted; otherwise 'every refusal hands back its number, and the position and all lent memory as they came'.
use Rattle.std.specs.Prelude.{ℕ, Bool, true, false, List, Result, Ok, Err}
use Rattle.laws.specs.Lent.{Lent}
use Rattle.device.specs.declared.refusal.Refusal.{Refusal}
use Rattle.device.specs.Refusal.{number, outcome}
use Rattle.state.specs.declared.Position.{Position}
use Rattle.state.specs.State.{given}
use Rattle.tracker.specs.Calls.{SetUpCall, ActivationCall, RefreshCall}
use Rattle.tracker.specs.declared.Refused.{Refused}
use Rattle.tracker.specs.declared.Refreshed.{Refreshed}

-- an activation: 'whether the call was accepted'
unfoldable pub activation_accepts : Result Position Refused → Bool
activation_accepts (Ok p) = true
activation_accepts (Err r) = false

-- its number ('every refusal hands back its number')
unfoldable pub activation_refusal : Result Position Refused → ℕ
activation_refusal (Ok p) = 0
activation_refusal (Err r) = number r.refusal

-- the position that it leaves, as it came where it is refused
unfoldable pub activation_position : Result Position Refused → Position
activation_position (Ok p) = p
activation_position (Err r) = r.position

-- an event: 'whether the call was accepted'
unfoldable pub refresh_accepts : Result Refreshed Refused → Bool
refresh_accepts (Ok r) = true
refresh_accepts (Err r) = false

-- its number
unfoldable pub refresh_refusal : Result Refreshed Refused → ℕ
refresh_refusal (Ok r) = 0
refresh_refusal (Err r) = number r.refusal

-- 'the number picked', 0 where it is refused
unfoldable pub refresh_count : Result Refreshed Refused → ℕ
refresh_count (Ok r) = r.count
refresh_count (Err r) = 0

-- the position that it leaves
unfoldable pub refresh_position : Result Refreshed Refused → Position
refresh_position (Ok r) = r.position
refresh_position (Err r) = r.position

-- a call's answer with what it left in the lent tables and, of an event, in the 'lent list'
unfoldable pub set_up_call : Result Position Refusal → List ℕ → List ℕ → SetUpCall
set_up_call r rows counts = record { answer = outcome r; rows = rows; counts = counts }

unfoldable pub activation_call : Result Position Refused → List ℕ → List ℕ → ActivationCall
activation_call r rows counts =
    record {
      accepts = activation_accepts r;
      refusal = activation_refusal r;
      state = given rows counts (activation_position r);
    }

unfoldable pub refresh_call : Result Refreshed Refused → List ℕ → List ℕ → List ℕ → RefreshCall
refresh_call r rows counts picks =
    record {
      accepts = refresh_accepts r;
      refusal = refresh_refusal r;
      count = refresh_count r;
      state = given rows counts (refresh_position r);
      picks = picks;
    }

-- the same of a call's parameters: setting up, an activation, an event, and an event that no test refuses
abbrev pub set_up_left : Result Position Refusal → Lent → Lent → SetUpCall
set_up_left r rows counts = set_up_call r rows.exit.now counts.exit.now

abbrev pub activation_left : Result Position Refused → Lent → Lent → ActivationCall
activation_left r rows counts = activation_call r rows.exit.now counts.exit.now

abbrev pub refresh_left : Result Refreshed Refused → Lent → Lent → Lent → RefreshCall
refresh_left r rows counts picks = refresh_call r rows.exit.now counts.exit.now picks.exit.now

abbrev pub event_left : Refreshed → Lent → Lent → Lent → RefreshCall
event_left r rows counts picks = refresh_left (Ok r) rows counts picks
