-- Refusals: tests in an order, each with its number; the first that failed decides.
use Rattle.std.specs.Prelude.{ℕ, zero, suc, Bool, true, false, not, List, [], ◌∷◌, Result, Ok, Err}
use Rattle.device.specs.declared.refusal.Refusal.{Refusal}
use Rattle.device.specs.declared.refusal.Refusal.TheVariants.{Rows, BlastDiameter, Volume, Counters, Interval, Window, Block, Tables, Row, Picks, Line, NoCount, Room, Remap, Hold, State, IntervalFull}

-- 'the refusals' and their numbers
abbrev pub number : Refusal → ℕ
number Rows = 1
number BlastDiameter = 2
number Volume = 3
number Counters = 4
number Interval = 5
number Window = 6
number Block = 7
number Tables = 8
number Row = 9
number Picks = 10
number Line = 11
number NoCount = 12
number Room = 13
number Remap = 14
number Hold = 15
number State = 21
number IntervalFull = 22

-- what the code's tests came to, as a number: 0 where none failed
abbrev pub refusal_number : {A : Type 0} → Result A Refusal → ℕ
refusal_number (Ok x) = 0
refusal_number (Err r) = number r

-- a test of the input: the refusal that it earns, and whether it failed
pub record Test : Type 0 where
  pub number : ℕ
  pub failed : Bool

-- refusal k unless something is so
unfoldable pub unless : Bool → ℕ → Test
unless allowed k = record { number = k; failed = not allowed }

-- k where a test failed, else what the later tests say
unfoldable pub refuse : Bool → ℕ → ℕ → ℕ
refuse true k later = k
refuse false k later = later

-- 'refusal k': the number of the first test that failed, and 0 where none did
unfoldable pub first_failed : List Test → ℕ
first_failed [] = 0
first_failed (t ∷ ts) = refuse t.failed t.number (first_failed ts)

-- an answer: accepted with what it carries, or refused with k
pub data Outcome (A : Type 0) : Type 0 where
  accepted : A → Outcome A
  refused : ℕ → Outcome A

-- refused where the tests' word is a refusal, else the answer
unfoldable pub tested : {A : Type 0} → ℕ → Outcome A → Outcome A
tested zero answer = answer
tested (suc k) answer = refused (suc k)

-- what the code's answer says: accepted with its value, or refused with the paper's number
unfoldable pub outcome : {A : Type 0} → Result A Refusal → Outcome A
outcome (Ok x) = accepted x
outcome (Err r) = refused (number r)
