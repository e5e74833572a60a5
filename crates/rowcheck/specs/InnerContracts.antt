-- What the program's functions ask and promise each other: that what is said lies within the buffers, and steps and runs of the code's parameters.
use Rattle.std.specs.Prelude.{ℕ, ◌+◌, ◌≤◌, ◌<◌, ◌≡◌, List, length, replicate}
use Rattle.laws.specs.Lent.{Lent}
use Rattle.input.specs.declared.Input.{Input}
use Rattle.input.specs.AtHand.{Within}
use Rattle.turns.specs.Turns.{turn_in}
use Rattle.rowcheck.specs.declared.Check.{Check}
use Rattle.rowcheck.specs.declared.Step.{Step}
use Rattle.rowcheck.specs.Turns.{behind_listing, ReadBeside, State, first_state, Stepped, Ran}

-- a read of the listing, as it is compared: within what is required, which both buffers hold
pub record Comparable (k : Check) (end : ℕ) (input : Input) (required given : List ℕ) : Type 0 where
  pub most : k.at < end → Within input k.at end
  pub required_long : end ≤ length required
  pub given_long : end ≤ length given
  pub few : k.lines + length given ≤ 18446744073709551615

-- as many lines as all reads can pass over: 35,184,372,088,832 reads of 339,968 bytes
abbrev pub most_lines : ℕ
most_lines = 11961560610296037376

-- a read of the listing, whatever it brought, and what lies behind it
pub record ListingChecked (k k' : Check) (required : List ℕ) (end : ℕ) (before after : List ℕ) : Type 0 where
  pub input : Input
  pub came : ReadBeside input k.at end before after
  pub same : k' ≡ behind_listing k required end after input

-- how far a run is, as the code holds it
abbrev pub state_of : Step → List ℕ → List ℕ → List ℕ → State
state_of s counts text out = record { turn = turn_in s.turn counts text out; check = s.check }

-- a step and a run, of the code's parameters
abbrev pub SteppedIn : Step → Step → Lent → Lent → Lent → Lent → Type 0
SteppedIn s r counts text out given =
    Stepped (state_of s counts.entry.now text.entry.now out.entry.now) (state_of r counts.exit.now text.exit.now out.exit.now)
    given.entry.now given.exit.now

abbrev pub RanIn : Check → Lent → Lent → Lent → Lent → Type 0
RanIn r counts text out given =
    Ran (first_state counts.entry.now text.entry.now out.entry.now) given.entry.now r

-- a run in memory that is all 0 at first
abbrev pub RanFresh : Check → Type 0
RanFresh r = Ran (first_state (replicate 262144 0) (replicate 6144 0) (replicate 339968 0)) (replicate 339968 0) r
