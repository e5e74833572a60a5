-- The program's steps: a read of the trace or of the listing and what lies behind it, chains of them, and what all reads come to.
use Rattle.std.specs.Prelude.{ℕ, suc, Result, Ok, Err, ◌+◌, ◌*◌, ◌≤◌, ◌<◌, ◌≡◌, Bool, true, false, ◌&&◌, cond, List, [], ◌∷◌, ◌++◌, leb, ltb, length, take, drop}
use Rattle.std.proofs.Math.Option.{Option, none, some}
use Rattle.steps.specs.Memory.{start_place}
use Rattle.listing.specs.Chunks.{line_room}
use Rattle.input.specs.declared.Input.{Input}
use Rattle.input.specs.declared.Input.TheVariants.{Bytes, End, Failed}
use Rattle.input.specs.declared.Next.TheVariants.{More}
use Rattle.input.specs.AtHand.{Within, Came, brought}
use Rattle.turns.specs.Turns.{Turned, turn_of, first_turned}
use Rattle.turns.specs.Turns.{Stepped as TurnStepped}
use Rattle.checker.specs.Comparison.{compared}
use Rattle.rowcheck.specs.declared.Answer.{Answer}
use Rattle.rowcheck.specs.declared.Answer.TheVariants.{Open, Passes, Departs, TraceFailed, ListingFailed}
use Rattle.rowcheck.specs.declared.Check.{Check}
use Rattle.rowcheck.specs.declared.Step.{Step}

-- nothing is answered yet
unfoldable pub open_so_far : Answer → Bool
open_so_far Open = true
open_so_far Passes = false
open_so_far Departs = false
open_so_far TraceFailed = false
open_so_far ListingFailed = false

-- behind a read of the trace, which failed or not: what it requires is to be compared from its start on
unfoldable pub behind_trace : Check → Bool → Check
behind_trace k false = record { at = 0; lines = k.lines; answer = Open }
behind_trace k true = record { at = 0; lines = k.lines; answer = TraceFailed }

-- what a comparison comes to: the lines that have ended among the bytes that were alike, and a departing line where not all were
abbrev pub lines_among : Result ℕ ℕ → ℕ
lines_among (Ok lines) = lines
lines_among (Err lines) = lines

abbrev pub answer_among : Result ℕ ℕ → Answer
answer_among (Ok lines) = Open
answer_among (Err lines) = Departs

-- what bytes of the listing come to: where some are required, they are compared with these; where none is, they are surplus
unfoldable pub given_beside : Check → List ℕ → ℕ → List ℕ → ℕ → Check
given_beside k required end given len =
    let c = compared k.lines (drop k.at (take len required)) (drop k.at (take len given)) in
    cond (ltb k.at end)
    (record { at = len; lines = lines_among c; answer = answer_among c })
    (record { at = k.at; lines = k.lines; answer = Departs })

-- behind a read of the listing, so many bytes being required: at its end the first line of those that are missing departs, or nothing does
unfoldable pub behind_listing : Check → List ℕ → ℕ → List ℕ → Input → Check
behind_listing k required end given (Bytes len) = given_beside k required end given len
behind_listing k required end given End = record { at = k.at; lines = k.lines; answer = cond (ltb k.at end) Departs Passes }
behind_listing k required end given Failed = record { at = k.at; lines = k.lines; answer = ListingFailed }

-- where a read of the listing puts its bytes: beside those that are required and not yet compared, if any
unfoldable pub beside : ℕ → ℕ → ℕ
beside at end = cond (ltb at end) at 0

-- what such a read comes to: no more bytes than are required, if any
pub record ReadBeside (input : Input) (at end : ℕ) (before after : List ℕ) : Type 0 where
  pub came : Came input (beside at end) before after
  pub most : at < end → Within input at end

-- how far a run is: what lies between two reads of the trace left, and how far the comparison is
pub record State : Type 0 where
  pub turn : Turned
  pub check : Check

-- before the first read
unfoldable pub first_step : Step
first_step =
    record {
      turn = record { place = start_place; kept = 0; end = 0; next = More };
      check = record { at = 0; lines = 0; answer = Open };
    }

-- the same with what the memory holds
unfoldable pub first_state : List ℕ → List ℕ → List ℕ → State
first_state counts text buffer =
    record { turn = first_turned counts text buffer; check = record { at = 0; lines = 0; answer = Open } }

-- the trace is read again once all that it required is compared; else the listing is, to the end of what is required or, behind the trace's end, to its own
unfoldable pub wants_trace : State → Bool
wants_trace q = q.turn.more && leb q.turn.end q.check.at

-- behind a read of the trace, and behind one of the listing
unfoldable pub after_trace : State → List ℕ → Input → State
after_trace q text input =
    let t = turn_of q.turn.memory text q.turn.kept input q.turn.buffer in
    record { turn = t; check = behind_trace q.check t.failed }

unfoldable pub after_listing : State → List ℕ → Input → State
after_listing q given input =
    record { turn = q.turn; check = behind_listing q.check q.turn.buffer q.turn.end given input }

-- a read of the file that is wanted, whatever it brought, and what lies behind it; with the buffer for the listing before and after, which a read of the
-- trace leaves as it is
pub data Stepped (from to : State) (before after : List ℕ) : Type 0 where
  of_trace : wants_trace from ≡ true → (s : TurnStepped from.turn to.turn) → to.check ≡ behind_trace from.check to.turn.failed
      → after ≡ before → Stepped from to before after
  of_listing : wants_trace from ≡ false → (input : Input) → ReadBeside input from.check.at from.turn.end before after
      → to ≡ after_listing from after input → Stepped from to before after

-- the part of the trace that it brought, if any, and the part of the listing
unfoldable pub trace_part : {from to : State} {before after : List ℕ} → Stepped from to before after → List (List ℕ)
trace_part {from} (of_trace wants s same untouched) = brought s.input from.turn.kept s.text
trace_part (of_listing wants input came same) = []

unfoldable pub listing_part : {from to : State} {before after : List ℕ} → Stepped from to before after → List (List ℕ)
listing_part (of_trace wants s same untouched) = []
listing_part {from} {after = after} (of_listing wants input came same) = brought input (beside from.check.at from.turn.end) after

-- so many such steps, each from where the one before left off, while nothing is answered: the parts of the trace and those of the listing that the reads brought
pub data Chain (first : State) (buffer : List ℕ) : ℕ → State → List ℕ → List (List ℕ) → List (List ℕ) → Type 0 where
  none_yet : Chain first buffer 0 first buffer [] []
  one_more : {n : ℕ} {from to : State} {before after : List ℕ} {parts given : List (List ℕ)}
      → Chain first buffer n from before parts given → open_so_far from.check.answer ≡ true → (s : Stepped from to before after)
      → Chain first buffer (suc n) to after (parts ++ trace_part s) (given ++ listing_part s)

-- as many reads as a run makes at most
abbrev pub most_reads : ℕ
most_reads = 35184372088832

-- a run came to such a check, the buffer for the listing holding this at first: a chain of steps that went on until something was answered, or as many reads
-- were made as a run makes at most
pub record Ran (first : State) (buffer : List ℕ) (k : Check) : Type 0 where
  pub reads : ℕ
  pub last : State
  pub left : List ℕ
  pub parts : List (List ℕ)
  pub given : List (List ℕ)
  pub chain : Chain first buffer reads last left parts given
  pub came : last.check ≡ k
  pub ends : open_so_far k.answer ≡ true → reads ≡ most_reads

-- a run, read by read: the parts of the trace and those of the listing that are still to come, and what it answers: none where the listing passes, else
-- the number of the line that departs. Of a read and of what lies behind it only the contracts of the functions are known
pub data Runs : State → List (List ℕ) → List (List ℕ) → Option ℕ → Type 0 where
  -- a read of the trace brings a part, or finds its end
  reads_trace : {q : State} (text : List ℕ) (len : ℕ) {parts given : List (List ℕ)} {answer : Option ℕ}
      → q.check.answer ≡ Open → wants_trace q ≡ true
      → Came (Bytes len) q.turn.kept q.turn.text text → 55 * length text + line_room ≤ length q.turn.buffer
      → Runs (after_trace q text (Bytes len)) parts given answer
      → Runs q (drop q.turn.kept (take len text) ∷ parts) given answer
  ends_trace : {q : State} (text : List ℕ) {given : List (List ℕ)} {answer : Option ℕ}
      → q.check.answer ≡ Open → wants_trace q ≡ true
      → Came End q.turn.kept q.turn.text text → line_room ≤ length q.turn.buffer
      → Runs (after_trace q text End) [] given answer
      → Runs q [] given answer
  -- a read of the listing brings a part, or finds its end
  reads_listing : {q : State} (before after : List ℕ) (len : ℕ) {parts given : List (List ℕ)} {answer : Option ℕ}
      → q.check.answer ≡ Open → wants_trace q ≡ false
      → ReadBeside (Bytes len) q.check.at q.turn.end before after
      → Runs (after_listing q after (Bytes len)) parts given answer
      → Runs q parts (drop (beside q.check.at q.turn.end) (take len after) ∷ given) answer
  ends_listing : {q : State} (before after : List ℕ) {parts : List (List ℕ)} {answer : Option ℕ}
      → q.check.answer ≡ Open → wants_trace q ≡ false
      → ReadBeside End q.check.at q.turn.end before after
      → Runs (after_listing q after End) parts [] answer
      → Runs q parts [] answer
  -- all was the same, to both ends
  passes : {q : State} → q.check.answer ≡ Passes → Runs q [] [] none
  -- a line departs, whatever is still to come
  departs : {q : State} (parts given : List (List ℕ)) → q.check.answer ≡ Departs → Runs q parts given (some (suc q.check.lines))
