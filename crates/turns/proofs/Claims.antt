-- All that the turns of a run hand to be written is the listing of all that its reads brought; chains of steps are turns, and there are some.
use mathlib.Core.Path.{◌≡◌, refl, ◌∙◌, ap}
use mathlib.Core.Bool.{true, false}
use mathlib.Core.List.{List, [], ◌∷◌, ◌++◌, append-nil}
use Prim.Native.Nat.{ℕ, ◌+◌, ◌*◌, ◌≤◌, ◌<◌}
use native.Mathlib.Omega.{arith}
use lib.ListN.{length, take, drop, replicate, length-take, length-replicate}
use lib.Seq.{take_at, take-take, take-length}
use Rattle.columns.specs.Numbers.{written}
use Rattle.trace.specs.Lines.{ended}
use Rattle.trace.specs.Texts.{joined}
use Rattle.columns.proofs.Output.{prints_long}
use Rattle.steps.specs.Steps.{Progress, start}
use Rattle.listing.specs.Texts.{listing}
use Rattle.steps.specs.Memory.{Memory, Represents, memory, start_place, next_number}
use Rattle.listing.specs.Chunks.{last_line, line_room, chunk}
use Rattle.listing.specs.Parts.{Printed, comes}
use Rattle.listing.specs.Claims.{PartsJoined, ChunkMoves, EndMoves}
use Rattle.steps.proofs.Memory.Progress.{represents_start}
use Rattle.listing.proofs.Parts.Moves.{ended_kept, steady_chunk}
use Rattle.listing.proofs.Chunks.Lines.{done_part}
use Rattle.listing.proofs.Claims.{parts_joined, chunk_moves, end_moves}
use Rattle.input.specs.declared.Input.{Input}
use Rattle.input.specs.declared.Input.TheVariants.{Bytes, End, Failed}
use Rattle.input.specs.AtHand.{Within, Came, brought}
use Rattle.input.proofs.AtHand.{at_hand}
use Rattle.turns.specs.Turns.{Turned, turn_of, first_turned, Stepped, Chain, none_yet, one_more, Turns, goes_on, stops}
use Rattle.turns.specs.Claims.{TurnsListed, WholeFrom, ChainTurns, Begins, ChainBegins, ChainsExist}
use Rattle.turns.proofs.Chains.{chain_goes_on, chain_ends}

turns_printed : {m : Memory} {g : Progress} {text : List ℕ} {kept : ℕ} {parts : List (List ℕ)} {out : List ℕ} → Represents m g → ended (take kept text) ≡ false → Turns m text kept parts out → Printed g (take kept text) parts out
unfolding ChunkMoves EndMoves turn_of Within written
turns_printed {m} {g} {text} {kept} r e (goes_on text₁ buffer len q {parts} {out} came room same later) =
    let c = chunk_moves m g text₁ len buffer r came.within.1 (omega (arith, came.within.1)) in
    let unended = ended_kept m g text₁ len buffer r came.within.1 (omega (arith, came.within.1)) in
    let represents : Represents q.memory c.next = rw same c.represents in
    let kept_so : ended (take q.kept q.text) ≡ false = rw same unended in
    let printed = rw same at (turns_printed represents kept_so later) in
    rw same (comes (drop kept (take len text₁)) (rw (at_hand came) at (c.moves parts out printed)))
turns_printed {m} {g} {text} {kept} r e (stops text₁ buffer q came room same) =
    let prints : List ℕ = last_line (next_number m.lines) (take kept text) (length buffer) in
    rw (same, came.front, take_at prints (drop (0 + length prints) buffer) (length prints) refl)
    (end_moves m g (take kept text) (length buffer) r e (omega arith))

pub turns_listed : TurnsListed
unfolding TurnsListed PartsJoined ended
turns_listed counts text parts out run =
    parts_joined _ [] parts out (turns_printed (represents_start counts) refl run)

pub chain_turns : ChainTurns
unfolding ChainTurns first_turned
chain_turns counts text buffer parts out w = chain_ends w.chain refl w.no_more w.none_failed

-- while there is more to read, the input's end could be next
module _ (counts text buffer : List ℕ) where
  begins_open : {n : ℕ} {q : Turned} {parts : List (List ℕ)} {out : List ℕ} → Chain (first_turned counts text buffer) n q parts out → q.more ≡ true → Begins out (listing start (joined parts))
  unfolding first_turned TurnsListed Within
  begins_open {q = q} {parts = parts} {out = out} chain on =
      let room : List ℕ = replicate line_room 0 in
      let last : Turned = turn_of q.memory q.text q.kept End room in
      let ends = stops {m = q.memory} {text = q.text} {kept = q.kept} q.text room last (record { front = refl; within = tt }) (omega (arith, length-replicate {A = ℕ} line_room 0)) refl in
      let listed = turns_listed counts text _ _ (chain_goes_on chain on ends) in
      record { rest = take last.end last.buffer; joins = rw append-nil at listed }

  begins_behind : {n : ℕ} {from : Turned} {parts : List (List ℕ)} {out : List ℕ} (to : Turned) (input : Input) (read : List ℕ) → Chain (first_turned counts text buffer) n from parts out → from.more ≡ true → Came input from.kept from.text read → 55 * length read + line_room ≤ length from.buffer → to ≡ turn_of from.memory read from.kept input from.buffer → Begins (out ++ take to.end to.buffer) (listing start (joined (parts ++ brought input from.kept read)))
  unfolding first_turned turn_of brought TurnsListed
  begins_behind to (Bytes len) read chain on came room same =
      begins_open (one_more chain on (record { input = Bytes len; text = read; came = came; room = room; same = same })) (ap (λ (q : Turned). q.more) same)
  begins_behind {out = out} to End read chain on came room same =
      let ended = one_more chain on (record { input = End; text = read; came = came; room = room; same = same }) in
      record { rest = []; joins = append-nil _ ∙ turns_listed counts text _ _ (chain_ends ended refl (ap (λ (q : Turned). q.more) same) (ap (λ (q : Turned). q.failed) same)) }
  begins_behind {parts = parts} {out = out} to Failed read chain on came room same =
      let before = begins_open chain on in
      let nothing : take to.end to.buffer ≡ [] = ap (λ (q : Turned). take q.end q.buffer) same in
      rw (nothing, append-nil out, append-nil parts) before

pub chain_begins : ChainBegins
unfolding ChainBegins first_turned
chain_begins counts text buffer reads last parts out none_yet = record { rest = listing start (joined []); joins = refl }
chain_begins counts text buffer reads last parts out (one_more chain on s) =
    begins_behind counts text buffer last s.input s.text chain on s.came s.room s.same

-- a read that brings a whole text, and one that finds its end
module _ (counts text buffer part : List ℕ) (some_bytes : 0 < length part) (room : 55 * length part + line_room ≤ length buffer) where
  abbrev first : Turned
  first = first_turned counts text buffer

  abbrev behind_part : Turned
  behind_part = turn_of first.memory part first.kept (Bytes (length part)) first.buffer

  abbrev left : List ℕ
  left = take behind_part.kept behind_part.text

  reads_part : Stepped first behind_part
  unfolding first_turned Within
  reads_part = record { input = Bytes (length part); text = part; came = record { front = refl; within = (some_bytes, omega arith) }; room = room; same = refl }

  reads_end : Stepped behind_part (turn_of behind_part.memory left behind_part.kept End behind_part.buffer)
  unfolding first_turned turn_of chunk Within
  reads_end =
      let started = represents_start counts in
      let steady = steady_chunk (memory start_place counts) part (length part) buffer started.ready (omega arith) in
      let long = prints_long (done_part (take (length part) part) buffer started).took.prints in
      record {
        input = End;
        text = left;
        came = record { front = take-take behind_part.kept behind_part.kept behind_part.text (omega arith); within = tt };
        room = omega (arith, long, steady.1, length-take behind_part.kept behind_part.text);
        same = refl;
      }

  whole_part : WholeFrom counts text buffer (part ∷ []) (listing start part)
  unfolding first_turned turn_of brought joined TurnsListed reads_part reads_end
  whole_part =
      let chain = one_more (one_more none_yet refl reads_part) refl reads_end in
      let parts : drop 0 (take (length part) part) ∷ [] ≡ part ∷ [] = ap (λ (front : List ℕ). front ∷ []) (take-length part) in
      let listed = turns_listed counts text _ _ (chain_ends chain refl refl refl) in
      let out = listed ∙ ap (λ (ps : List (List ℕ)). listing start (joined ps)) parts ∙ ap (listing start) (append-nil part) in
      record {
        reads = 2;
        last = turn_of behind_part.memory left behind_part.kept End behind_part.buffer;
        chain = rw (← parts, ← out) chain;
        no_more = refl;
        none_failed = refl;
      }

pub chains_exist : ChainsExist
unfolding ChainsExist
chains_exist counts text buffer part some_bytes room = whole_part counts text buffer part some_bytes room
