-- 'The writer: from records to text': what it turns away, and what it leaves in the lent text.
use Rattle.std.specs.Prelude.{ℕ, zero, suc, cond, List, [], ◌∷◌, eqb, leb, ltb, length}
use Rattle.std.proofs.Math.Option.{Option, none, some}
use Rattle.device.specs.Refusal.{Outcome, accepted, refused, unless, first_failed}
use Rattle.device.specs.Acceptance.{most_rows, settings_tests_to}
use Rattle.trace.specs.declared.Record.{Record}
use Rattle.trace.specs.declared.Record.TheVariants.{Set, Remap, Activate, Refresh, Blank}
use Rattle.device.specs.Remap.{remap_allowed}
use Rattle.device.specs.Hold.{hold_allowed}
use Rattle.columns.specs.Numbers.{written}
use Rattle.trace.specs.Records.{sixteen_of}
use Rattle.canonical.specs.Spelling.{spelling}

-- N of 'the settings last before' what follows an answer, if any stand: all that is held against them is a row
unfoldable pub standing_behind : Option ℕ → Outcome Record → Option ℕ
standing_behind standing (accepted (Set s)) = some s.rows
standing_behind standing (accepted (Remap t)) = standing
standing_behind standing (accepted (Activate row hold)) = standing
standing_behind standing (accepted Refresh) = standing
standing_behind standing (accepted Blank) = standing
standing_behind standing (refused k) = standing

-- behind a list of answers
unfoldable pub standing_after : Option ℕ → List (Outcome Record) → Option ℕ
standing_after standing [] = standing
standing_after standing (o ∷ os) = standing_after (standing_behind standing o) os

-- 'a row is held against the settings last before it': 9; 'a row before any settings gets 11'; 15, 'a hold outside 1 to 16', 'right after 9'
unfoldable pub activation_fault : Option ℕ → ℕ → ℕ → ℕ
activation_fault none row hold = 11
activation_fault (some rows) row hold = first_failed (unless (ltb row rows) 9 ∷ unless (hold_allowed hold) 15 ∷ [])

-- 'an event before any settings gets 11'
unfoldable pub event_fault : Option ℕ → ℕ
event_fault none = 11
event_fault (some rows) = 0

-- the refusal that an answer earns where N may be up to the most, 0 for none: settings 1 to 7; a remap 14, 'a number is missing or repeated'; 'a refusal among the records gets 11'
unfoldable pub fault_to : ℕ → Option ℕ → Outcome Record → ℕ
fault_to most standing (accepted (Set s)) = first_failed (settings_tests_to most s)
fault_to most standing (accepted (Remap t)) = first_failed (unless (remap_allowed (sixteen_of t)) 14 ∷ [])
fault_to most standing (accepted (Activate row hold)) = activation_fault standing row hold
fault_to most standing (accepted Refresh) = event_fault standing
fault_to most standing (accepted Blank) = 0
fault_to most standing (refused k) = 11

-- 'the first faulty record deciding'
unfoldable pub first_fault_to : ℕ → Option ℕ → List (Outcome Record) → ℕ
first_fault_to most standing [] = 0
first_fault_to most standing (o ∷ os) =
    cond (eqb (fault_to most standing o) 0) (first_fault_to most (standing_behind standing o) os) (fault_to most standing o)

-- the answers before the first faulty one
unfoldable pub before_fault_to : ℕ → Option ℕ → List (Outcome Record) → List (Outcome Record)
before_fault_to most standing [] = []
before_fault_to most standing (o ∷ os) =
    cond (eqb (fault_to most standing o) 0) (o ∷ before_fault_to most (standing_behind standing o) os) []

-- '13, the lent text is too short for the whole .. It follows the refusals of the settings and rows being written'
unfoldable pub room_fault : ℕ → ℕ → ℕ → ℕ
room_fault zero needed room = first_failed (unless (leb needed room) 13 ∷ [])
room_fault (suc k) needed room = suc k

-- what the whole list earns in a lent text of so many bytes
unfoldable pub writing_fault_to : ℕ → List (Outcome Record) → ℕ → ℕ
writing_fault_to most os room = room_fault (first_fault_to most none os) (length (spelling os)) room

-- what the writer answers, and what it leaves in the lent text
pub record Writing : Type 0 where
  pub answer : Outcome ℕ
  pub text : List ℕ

-- 'the number of bytes written, and the places behind them keep what they had'; turned away, 'nothing is written'
unfoldable pub writing_by : ℕ → List ℕ → List ℕ → Writing
writing_by zero bytes text = record { answer = accepted (length bytes); text = written text 0 bytes }
writing_by (suc k) bytes text = record { answer = refused (suc k); text = text }

-- 'the writer', given the reader's answers and a lent text
unfoldable pub writing_to : ℕ → List (Outcome Record) → List ℕ → Writing
writing_to most os text = writing_by (writing_fault_to most os (length text)) (spelling os) text

-- the same with N up to `most_rows`
abbrev pub fault : Option ℕ → Outcome Record → ℕ
fault standing o = fault_to most_rows standing o

abbrev pub first_fault : Option ℕ → List (Outcome Record) → ℕ
first_fault standing os = first_fault_to most_rows standing os

abbrev pub before_fault : Option ℕ → List (Outcome Record) → List (Outcome Record)
before_fault standing os = before_fault_to most_rows standing os

abbrev pub writing : List (Outcome Record) → List ℕ → Writing
writing os text = writing_to most_rows os text
