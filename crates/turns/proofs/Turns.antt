-- What a turn begins with and leaves: memory that is a listing's, no more to write than the buffer holds, and no more kept than the text holds.
use mathlib.Core.Path.{◌≡◌}
use mathlib.Core.Bool.{true, false}
use mathlib.Core.List.{List}
use Prim.Native.Nat.{ℕ, ◌≤◌}
use native.Mathlib.Nat.{zero-add}
use native.Mathlib.Omega.{arith}
use lib.ListN.{length, take}
use Rattle.columns.specs.Output.{Prints}
use Rattle.aids.specs.Marks.{Marked}
use Rattle.aids.specs.Bounds.{all_bounds}
use Rattle.steps.specs.Memory.{Memory, Ready, start_place, next_number}
use Rattle.listing.specs.Chunks.{Chunked, chunk, last_line}
use Rattle.steps.proofs.Memory.Progress.{represents_start}
use Rattle.steps.proofs.Memory.Zeros.{banked_start}
use Rattle.listing.proofs.Parts.Moves.{steady_chunk}
use Rattle.listing.proofs.Chunks.LastLine.{length_last_line}
use Rattle.input.specs.declared.Input.{Input}
use Rattle.input.specs.declared.Input.TheVariants.{Bytes, End, Failed}
use Rattle.input.specs.AtHand.{Within}
use Rattle.input.specs.declared.Next.TheVariants.{More}
use Rattle.turns.specs.Turns.{Turned, turn_of}
use Rattle.turns.specs.InnerContracts.{Carried}

pub record Steady (most room : ℕ) (q : Turned) : Type 0 where
  pub ready : Ready q.memory
  pub few : q.kept ≤ most
  pub fits : q.end ≤ room

steady_turn : (m : Memory) (text : List ℕ) (kept : ℕ) (input : Input) (buffer : List ℕ) → Ready m → kept ≤ length text → Within input kept (length text) → Steady (length text) (length buffer) (turn_of m text kept input buffer)
unfolding Within turn_of
steady_turn m text kept (Bytes len) buffer r few within =
    let t = steady_chunk m text len buffer r within.1 in
    record { ready = t.0; few = t.1; fits = t.2 }
steady_turn m text kept End buffer r few within =
    record { ready = r; few = few; fits = length_last_line (next_number m.lines) (take kept text) (length buffer) }
steady_turn m text kept Failed buffer r few within = record { ready = r; few = few; fits = omega arith }

-- so is what a turn's answer says
pub steady_turn_left : (q : Turned) (m : Memory) (text : List ℕ) (kept : ℕ) (input : Input) (buffer : List ℕ) → q ≡ turn_of m text kept input buffer → Ready m → kept ≤ length text → Within input kept (length text) → Steady (length text) (length buffer) q
steady_turn_left q m text kept input buffer e r few within = rw e (steady_turn m text kept input buffer r few within)

-- a turn by what the listing's calls left
pub turn_chunk : (m : Memory) (text : List ℕ) (kept len : ℕ) (buffer : List ℕ) (q : Chunked) → q ≡ chunk m text len buffer → record { memory = q.memory; text = q.text; kept = q.kept; buffer = q.buffer; end = q.end; more = true; failed = false } ≡ turn_of m text kept (Bytes len) buffer
unfolding turn_of
turn_chunk m text kept len buffer q e = rw e

pub turn_end : (m : Memory) (text : List ℕ) (kept : ℕ) (buffer : List ℕ) {buffer' : List ℕ} {end : ℕ} → Prints buffer 0 (last_line (next_number m.lines) (take kept text) (length buffer)) buffer' end → record { memory = m; text = text; kept = kept; buffer = buffer'; end = end; more = false; failed = false } ≡ turn_of m text kept End buffer
unfolding turn_of
turn_end m text kept buffer p = rw (p.holds, p.behind, zero-add)

-- before the first read the tables track nothing
pub carried_first : {counts marks bounds text out : List ℕ} → Marked counts marks → length bounds ≡ all_bounds → length text ≡ 6144 → length out ≡ 339968 → Carried (record { place = start_place; kept = 0; end = 0; next = More }) counts marks bounds text out
carried_first {counts} marked bounds_long text_long out_long =
    record {
      ready = (represents_start counts).ready;
      banked = banked_start marked bounds_long;
      text_long = text_long;
      out_long = out_long;
      kept_few = omega arith;
      end_few = omega arith;
    }
