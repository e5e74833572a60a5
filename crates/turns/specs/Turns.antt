-- Turns: what lies between two reads of a trace, a read with what lies behind it, and what all turns print.
use Rattle.std.specs.Prelude.{ℕ, suc, ◌+◌, ◌*◌, ◌≤◌, ◌≡◌, Bool, true, false, List, [], ◌∷◌, ◌++◌, length, take, drop}
use Rattle.laws.specs.Lent.{Lent}
use Rattle.columns.specs.Numbers.{written}
use Rattle.steps.specs.Memory.{Memory, memory, memory_of, start_place, next_number}
use Rattle.listing.specs.Chunks.{line_room, chunk, last_line}
use Rattle.input.specs.declared.Input.{Input}
use Rattle.input.specs.declared.Input.TheVariants.{Bytes, End, Failed}
use Rattle.input.specs.AtHand.{Within, Came, brought}
use Rattle.turns.specs.declared.Turn.{Turn}
use Rattle.input.specs.Next.{reads_on, has_failed}

-- what lies between two reads leaves: memory, text and buffer, how many bytes are kept and how many are to be written, whether to read again, and whether the
-- read failed
pub record Turned : Type 0 where
  pub memory : Memory
  pub text : List ℕ
  pub kept : ℕ
  pub buffer : List ℕ
  pub end : ℕ
  pub more : Bool
  pub failed : Bool

-- bytes came in: their lines are listed; the input has ended: what is left of its last line is; or the read failed
unfoldable pub turn_of : Memory → List ℕ → ℕ → Input → List ℕ → Turned
turn_of m text kept (Bytes len) buffer =
    let q = chunk m text len buffer in
    record {
      memory = q.memory;
      text = q.text;
      kept = q.kept;
      buffer = q.buffer;
      end = q.end;
      more = true;
      failed = false;
    }
turn_of m text kept End buffer =
    let prints = last_line (next_number m.lines) (take kept text) (length buffer) in
    record {
      memory = m;
      text = text;
      kept = kept;
      buffer = written buffer 0 prints;
      end = length prints;
      more = false;
      failed = false;
    }
turn_of m text kept Failed buffer =
    record {
      memory = m;
      text = text;
      kept = kept;
      buffer = buffer;
      end = 0;
      more = false;
      failed = true;
    }

-- the same of the code's parameters: a turn from the one before it, what is asked for it, and what an answer says with what it left
abbrev pub turn_from : Turn → Lent → Lent → Input → Lent → Turned
turn_from from counts text input out =
    turn_of (memory_of from.place counts.entry.now) text.entry.now from.kept input out.entry.now

pub record Readable (from : Turn) (input : Input) (text out : List ℕ) : Type 0 where
  pub within : Within input from.kept (length text)
  pub few : from.kept ≤ length text
  pub room : 55 * length text + line_room ≤ length out

abbrev pub turn_in : Turn → List ℕ → List ℕ → List ℕ → Turned
turn_in t counts text buffer =
    record {
      memory = memory t.place counts;
      text = text;
      kept = t.kept;
      buffer = buffer;
      end = t.end;
      more = reads_on t.next;
      failed = has_failed t.next;
    }

abbrev pub turn_before : Turn → Lent → Lent → Lent → Turned
turn_before from counts text out = turn_in from counts.entry.now text.entry.now out.entry.now

abbrev pub turn_left : Turn → Lent → Lent → Lent → Turned
turn_left r counts text out = turn_in r counts.exit.now text.exit.now out.exit.now

-- whether there is more to read, and whether the last read failed
abbrev pub more_in : Turned → Bool
more_in q = q.more

abbrev pub failed_in : Turned → Bool
failed_in q = q.failed

-- before the first read, whatever the memory holds
unfoldable pub first_turned : List ℕ → List ℕ → List ℕ → Turned
first_turned counts text buffer =
    record {
      memory = memory start_place counts;
      text = text;
      kept = 0;
      buffer = buffer;
      end = 0;
      more = true;
      failed = false;
    }

-- a read, whatever it brought, and what lies behind it
pub record Stepped (from to : Turned) : Type 0 where
  pub input : Input
  pub text : List ℕ
  pub came : Came input from.kept from.text text
  pub room : 55 * length text + line_room ≤ length from.buffer
  pub same : to ≡ turn_of from.memory text from.kept input from.buffer

-- so many such steps, each from where the one before left off, while there is more to read: the parts that the reads brought, and all that is to be written
pub data Chain (first : Turned) : ℕ → Turned → List (List ℕ) → List ℕ → Type 0 where
  none_yet : Chain first 0 first [] []
  one_more : {n : ℕ} {from to : Turned} {parts : List (List ℕ)} {out : List ℕ}
      → Chain first n from parts out → from.more ≡ true → (s : Stepped from to)
      → Chain first (suc n) to (parts ++ brought s.input from.kept s.text) (out ++ take to.end to.buffer)

-- turns, each on what the one before left, until the input ends: the parts that the reads brought, and all that is to be written. Of a read and
-- of what lies behind it only the contracts of `read_from` and `between_reads` are known
pub data Turns : Memory → List ℕ → ℕ → List (List ℕ) → List ℕ → Type 0 where
  -- a read brought a part, and the program goes on
  goes_on : {m : Memory} {text : List ℕ} {kept : ℕ} (text₁ buffer : List ℕ) (len : ℕ) (q : Turned) {parts : List (List ℕ)} {out : List ℕ}
      → Came (Bytes len) kept text text₁ → 55 * length text₁ + line_room ≤ length buffer → q ≡ turn_of m text₁ kept (Bytes len) buffer
      → Turns q.memory q.text q.kept parts out
      → Turns m text kept (drop kept (take len text₁) ∷ parts) (take q.end q.buffer ++ out)
  -- a read found the input's end
  stops : {m : Memory} {text : List ℕ} {kept : ℕ} (text₁ buffer : List ℕ) (q : Turned)
      → Came End kept text text₁ → line_room ≤ length buffer → q ≡ turn_of m text₁ kept End buffer
      → Turns m text kept [] (take q.end q.buffer)
