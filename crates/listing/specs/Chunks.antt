-- Lines taken from the front of the bytes at hand: while there is room to print in, and all that have ended between two reads.
use Rattle.std.specs.Prelude.{ℕ, ◌+◌, Bool, ◌&&◌, cond, List, [], ◌∷◌, ◌++◌, leb, ltb, length, take, drop}
use Rattle.laws.specs.Lent.{Lent}
use Rattle.columns.specs.Numbers.{written}
use Rattle.trace.specs.Lines.{ended}
use Rattle.listing.specs.declared.Part.{Part}
use Rattle.listing.specs.declared.Chunk.{Chunk}
use Rattle.columns.specs.Output.{refusal_line}
use Rattle.trace.specs.Texts.{lines, read, kept_bytes}
use Rattle.steps.specs.Memory.{Memory, memory_of, step_in, next_in}

-- the room before a line: the longest that is printed has 110 bytes
abbrev pub line_room : ℕ
line_room = 200

-- how far a listing has come in a text and in a buffer: the bytes taken, and the place behind what was printed
pub record Going : Type 0 where
  pub memory : Memory
  pub taken : ℕ
  pub buffer : List ℕ
  pub end : ℕ

-- one line further
unfoldable pub gone : Going → List ℕ → Going
gone q line =
    let prints = (step_in q.memory (read line)).prints in
    record {
      memory = next_in q.memory (read line);
      taken = q.taken + length line;
      buffer = written q.buffer q.end prints;
      end = q.end + length prints;
    }

-- a line is taken if it has ended and there is room to print in
unfoldable pub takes : Going → List ℕ → Bool
takes q line = ended line && leb (q.end + line_room) (length q.buffer)

-- lines are taken until one is not
unfoldable pub going : Going → List (List ℕ) → Going
going q [] = q
going q (line ∷ lines) = cond (takes q line) (going (gone q line) lines) q

-- the lines at the front of a text, printed from the front of a buffer on
unfoldable pub part : Memory → List ℕ → List ℕ → Going
part m text buffer = going (record { memory = m; taken = 0; buffer = buffer; end = 0 }) (lines text)

-- what lies between two reads leaves: the memory, the buffer with what was printed, the text with the kept bytes at its front, and how many
pub record Chunked : Type 0 where
  pub memory : Memory
  pub buffer : List ℕ
  pub end : ℕ
  pub text : List ℕ
  pub kept : ℕ

-- the lines of the first bytes of a text are listed, and of the line that has not ended 128 bytes are kept
unfoldable pub chunk : Memory → List ℕ → ℕ → List ℕ → Chunked
chunk m text len buffer =
    let q = part m (take len text) buffer in
    let kept = kept_bytes q.taken len text in
    record {
      memory = q.memory;
      buffer = q.buffer;
      end = q.end;
      text = kept ++ drop (length kept) text;
      kept = length kept;
    }

-- what the end of a trace prints: a last line that has not ended is refused, if a byte of it is left and 18 are there to print in
unfoldable pub last_line : ℕ → List ℕ → ℕ → List ℕ
last_line number [] room = []
last_line number (b ∷ bs) room = cond (ltb room 18) [] (refusal_line number 11)

-- what the calls' answers say, with what they left in the lent memory: of the tables, the tracker that they hold
abbrev pub part_left : Part → Lent → Lent → Going
part_left r counts out =
    record { memory = memory_of r.place counts.exit.now; taken = r.taken; buffer = out.exit.now; end = r.end }

abbrev pub chunk_left : Chunk → Lent → Lent → Lent → Chunked
chunk_left r counts text out =
    record {
      memory = memory_of r.place counts.exit.now;
      buffer = out.exit.now;
      end = r.end;
      text = text.exit.now;
      kept = r.kept;
    }
