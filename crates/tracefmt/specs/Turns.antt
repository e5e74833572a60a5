-- The program's turns: what lies between two reads, a read with what lies behind it, and what all turns write.
use Rattle.std.specs.Prelude.{ℕ, suc, ◌≤◌, ◌≡◌, Bool, true, false, Option as Maybe, Some, None, Result, Ok, Err, is_ok, List, [], ◌∷◌, ◌++◌, eqb, length, take, drop}
use Rattle.laws.specs.Lent.{Lent}
use Rattle.trace.specs.Lines.{ended}
use Rattle.trace.specs.Texts.{whole, most_kept}
use Rattle.columns.specs.Output.{Prints}
use Rattle.device.specs.declared.refusal.Refusal.{Refusal}
use Rattle.device.specs.Refusal.{number}
use Rattle.spelling.specs.Answers.{standing_of}
use Rattle.input.specs.declared.Input.{Input}
use Rattle.input.specs.declared.Input.TheVariants.{Bytes, End, Failed}
use Rattle.input.specs.AtHand.{Within, Came, brought}
use Rattle.input.specs.Runs.{Ran, Whole}
use Rattle.tracefmt.specs.declared.Place.{Place}
use Rattle.input.specs.declared.Next.TheVariants.{More}
use Rattle.tracefmt.specs.declared.Turn.{Turn}
use Rattle.tracefmt.specs.declared.Unwritten.{Unwritten}
use Rattle.input.specs.Next.{reads_on, has_failed}
use Rattle.tracefmt.specs.Rewriting.{Progress, rewriting, after, end_of}

-- the number of a refusal, 0 where there is none
unfoldable pub refusal_of : Maybe Refusal → ℕ
refusal_of (Some r) = number r
refusal_of None = 0

-- where the rewriting is, as the code holds it
unfoldable pub progress_of : Place → Progress
progress_of p = record { standing = standing_of p.rows; count = p.lines; refusal = refusal_of p.refusal }

-- lines at the front of a text are taken, so many bytes: where none was faulty, all that have ended
pub record Takes (g : Progress) (text : List ℕ) (g' : Progress) (taken : ℕ) : Type 0 where
  pub lines : whole (take taken text) ≡ true
  pub leaves : g' ≡ after g (take taken text)
  pub all : g'.refusal ≡ 0 → ended (drop taken text) ≡ false

-- they are rewritten from the front of a buffer on
pub record Rewrites (g : Progress) (text buffer buffer' : List ℕ) (g' : Progress) (taken end : ℕ) : Type 0 where
  pub takes : Takes g text g' taken
  pub prints : Prints buffer 0 (rewriting g (take taken text)) buffer' end

-- what they write, and the first 128 bytes of those behind them, which are left
pub record Moves (g : Progress) (text written : List ℕ) (g' : Progress) (left : List ℕ) : Type 0 where
  pub taken : ℕ
  pub takes : Takes g text g' taken
  pub writes : written ≡ rewriting g (take taken text)
  pub keeps : left ≡ take most_kept (drop taken text)

-- what a turn leaves, by what the read before it came to: it goes on while no line was faulty
unfoldable pub Turned : Progress → List ℕ → ℕ → Input → Turn → List ℕ → List ℕ → Type 0
Turned g text kept (Bytes len) r text' out =
    Moves g (take len text) (take r.end out) (progress_of r.place) (take r.kept text') × (reads_on r.next ≡ eqb (progress_of r.place).refusal 0) × (has_failed r.next ≡ false)
Turned g text kept End r text' out = (progress_of r.place ≡ end_of g kept) × (r.end ≡ 0) × (reads_on r.next ≡ false) × (has_failed r.next ≡ false)
Turned g text kept Failed r text' out = (progress_of r.place ≡ g) × (r.end ≡ 0) × (reads_on r.next ≡ false) × (has_failed r.next ≡ true)

-- no more is kept than the text holds, and no more to be written than the buffer
pub record Held (r : Turn) (text out : List ℕ) : Type 0 where
  pub few : r.kept ≤ length text
  pub fits : r.end ≤ length out

-- the same of the code's parameters: what is asked for a turn, and what it leaves
pub record Readable (from : Turn) (input : Input) (text out : List ℕ) : Type 0 where
  pub within : Within input from.kept (length text)
  pub few : from.kept ≤ length text
  pub room : length text ≤ length out

abbrev pub TurnLeaves : Turn → Lent → Input → Lent → Turn → Type 0
TurnLeaves from text input out r =
    Turned (progress_of from.place) text.entry.now from.kept input r text.exit.now out.exit.now ×
    Held r text.exit.now out.exit.now

-- how far a run is: what lies between two reads left, with text and buffer
pub record State : Type 0 where
  pub turn : Turn
  pub text : List ℕ
  pub buffer : List ℕ

-- before the first read
unfoldable pub first_turn : Turn
first_turn =
    record {
      place = record { rows = None; lines = 0; refusal = None };
      kept = 0;
      end = 0;
      next = More;
    }

unfoldable pub first_state : List ℕ → List ℕ → State
first_state text buffer = record { turn = first_turn; text = text; buffer = buffer }

-- a read, whatever it brought, and what lies behind it
pub record Stepped (from to : State) : Type 0 where
  pub input : Input
  pub text : List ℕ
  pub came : Came input from.turn.kept from.text text
  pub turned : Turned (progress_of from.turn.place) text from.turn.kept input to.turn to.text to.buffer
  pub held : Held to.turn to.text to.buffer

-- so many such steps, each from where the one before left off, while there is more to read: the parts that the reads brought, and all that is to be written
pub data Chain (first : State) : ℕ → State → List (List ℕ) → List ℕ → Type 0 where
  none_yet : Chain first 0 first [] []
  one_more : {n : ℕ} {from to : State} {parts : List (List ℕ)} {out : List ℕ}
      → Chain first n from parts out → reads_on from.turn.next ≡ true → (s : Stepped from to)
      → Chain first (suc n) to (parts ++ brought s.input from.turn.kept s.text) (out ++ take to.turn.end to.buffer)

-- whether there is more to read, and whether the last read failed
abbrev pub more_in : State → Bool
more_in q = reads_on q.turn.next

abbrev pub failed_in : State → Bool
failed_in q = has_failed q.turn.next

-- a run from the first read on, to such a last state, and all was written or not; and steps that came to a faulty line or to the input's end
abbrev pub RanFrom : List ℕ → List ℕ → State → Bool → Type 0
RanFrom text buffer last written = Ran more_in (Chain (first_state text buffer)) last written

abbrev pub WholeFrom : List ℕ → List ℕ → List (List ℕ) → List ℕ → Type 0
WholeFrom text buffer parts out = Whole more_in failed_in (Chain (first_state text buffer)) parts out

-- the same of the code's parameters
abbrev pub state_before : Turn → Lent → Lent → State
state_before from text out = record { turn = from; text = text.entry.now; buffer = out.entry.now }

abbrev pub state_left : Turn → Lent → Lent → State
state_left r text out = record { turn = r; text = text.exit.now; buffer = out.exit.now }

-- what the last step left, whether all was written or not
abbrev pub last_turn : Result Turn Unwritten → Turn
last_turn (Ok turn) = turn
last_turn (Err last) = last.turn

abbrev pub RanIn : Result Turn Unwritten → Lent → Lent → Type 0
RanIn r text out = RanFrom text.entry.now out.entry.now (state_left (last_turn r) text out) (is_ok r)

-- turns, each on what the one before left: the parts that the reads brought, all that is to be written, and where the rewriting has come to. Of a
-- read and of what lies behind it only the contracts of `read_from` and `between_reads` are known
pub data Turns : Progress → List ℕ → ℕ → List (List ℕ) → List ℕ → Progress → Type 0 where
  -- a read brought a part, and the program goes on
  goes_on : {g : Progress} {text : List ℕ} {kept : ℕ} (text₁ : List ℕ) (len : ℕ) (r : Turn) (text₂ buffer : List ℕ) {parts : List (List ℕ)} {out : List ℕ} {last : Progress}
      → Came (Bytes len) kept text text₁ → Turned g text₁ kept (Bytes len) r text₂ buffer → reads_on r.next ≡ true
      → Turns (progress_of r.place) text₂ r.kept parts out last
      → Turns g text kept (drop kept (take len text₁) ∷ parts) (take r.end buffer ++ out) last
  -- a line was faulty, and the program reads no further, whatever is still to come
  stops : {g : Progress} {text : List ℕ} {kept : ℕ} (text₁ : List ℕ) (len : ℕ) (r : Turn) (text₂ buffer : List ℕ) (parts : List (List ℕ))
      → Came (Bytes len) kept text text₁ → Turned g text₁ kept (Bytes len) r text₂ buffer → reads_on r.next ≡ false
      → Turns g text kept (drop kept (take len text₁) ∷ parts) (take r.end buffer) (progress_of r.place)
  -- a read found the input's end
  ends : {g : Progress} {text : List ℕ} {kept : ℕ} (text₁ : List ℕ) (r : Turn) (text₂ buffer : List ℕ)
      → kept ≤ length text → Came End kept text text₁ → Turned g text₁ kept End r text₂ buffer
      → Turns g text kept [] (take r.end buffer) (progress_of r.place)
