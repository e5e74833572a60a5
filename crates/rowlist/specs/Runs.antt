-- What a run of the program is.
use Rattle.std.specs.Prelude.{Bool, List, ℕ, Result, Ok, Err, is_ok}
use Rattle.laws.specs.Lent.{Lent}
use Rattle.input.specs.Runs.{Ran}
use Rattle.turns.specs.Turns.{Turned, first_turned, turn_left, more_in, Chain}
use Rattle.turns.specs.declared.Turn.{Turn}
use Rattle.rowlist.specs.declared.Unwritten.{Unwritten}

-- from the first read on, whatever the memory held, to such a last state, and all was written or not
abbrev pub RanFrom : List ℕ → List ℕ → List ℕ → Turned → Bool → Type 0
RanFrom counts text buffer last written = Ran more_in (Chain (first_turned counts text buffer)) last written

-- what the last step left, whether all was written or not
abbrev pub last_turn : Result Turn Unwritten → Turn
last_turn (Ok turn) = turn
last_turn (Err last) = last.turn

-- the same of the code's parameters
abbrev pub RanIn : Result Turn Unwritten → Lent → Lent → Lent → Type 0
RanIn r counts text out =
    RanFrom counts.entry.now text.entry.now out.entry.now (turn_left (last_turn r) counts text out) (is_ok r)
