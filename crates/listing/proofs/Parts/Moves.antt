-- What the listing's calls promise are the moves of a text that comes in parts.
use mathlib.Core.Path.{◌≡◌, refl}
use mathlib.Core.Bool.{false}
use mathlib.Core.List.{List, ◌++◌}
use Prim.Native.Nat.{ℕ, ◌+◌, ◌*◌, ◌≤◌}
use native.Mathlib.Omega.{arith}
use lib.ListN.{length, take, drop, length-take, length-drop, take-append-drop}
use lib.Seq.{take_at, length-take-le}
use Rattle.trace.specs.Lines.{ended}
use Rattle.columns.proofs.Output.{take_printed}
use Rattle.steps.specs.Steps.{Progress}
use Rattle.listing.specs.Texts.{after}
use Rattle.steps.specs.Memory.{Memory, Ready, Represents}
use Rattle.trace.specs.Texts.{most_kept, kept_bytes}
use Rattle.listing.specs.Chunks.{Going, part, Chunked, chunk}
use Rattle.listing.specs.Parts.{Printed, lists}
use Rattle.steps.proofs.Memory.Progress.{represents_memory}
use Rattle.listing.proofs.Chunks.Lines.{Taken, done_part, all_taken}
use Rattle.trace.proofs.Texts.Cuts.{ended_less}

module _ {g : Progress} {text buffer : List ℕ} {q : Going} (t : Taken g text buffer q) where
  pub printed_taken : (parts : List (List ℕ)) (out : List ℕ) → Printed (after g (take q.taken text)) (drop q.taken text) parts out → Printed g text parts (take q.end q.buffer ++ out)
  printed_taken parts out later =
      let move = lists (take q.taken text) (drop q.taken text) t.ends later in
      rw (take_printed t.prints) (rw (take-append-drop q.taken text) at move)

-- what lies between two reads, by what listing and keeping left
pub chunk_parts : (m : Memory) (text : List ℕ) (len : ℕ) (buffer : List ℕ) {q : Going} {kept : ℕ} {text' : List ℕ} → q ≡ part m (take len text) buffer → kept ≡ length (kept_bytes q.taken len text) → text' ≡ kept_bytes q.taken len text ++ drop kept text → ◌≡◌ {A = Chunked} (record { memory = q.memory; buffer = q.buffer; end = q.end; text = text'; kept = kept }) (chunk m text len buffer)
unfolding chunk
chunk_parts m text len buffer e k t = rw (t, k, e)

-- the bytes kept are those of a line that has not ended
pub ended_kept : (m : Memory) (g : Progress) (text : List ℕ) (len : ℕ) (buffer : List ℕ) → Represents m g → len ≤ length text → 55 * len + 200 ≤ length buffer → ended (take (chunk m text len buffer).kept (chunk m text len buffer).text) ≡ false
unfolding chunk kept_bytes
ended_kept m g text len buffer r h room =
    let at_hand : List ℕ = take len text in
    let rest : List ℕ = drop (part m at_hand buffer).taken at_hand in
    let unended = all_taken (done_part at_hand buffer r) (rw (length-take-le len text h) room) in
    rw (take_at (take most_kept rest) (drop (length (take most_kept rest)) text) (length (take most_kept rest)) refl) (ended_less most_kept rest unended)

-- the memory stays a listing's, no more is kept than the text holds, and no more printed than the buffer
pub steady_chunk : (m : Memory) (text : List ℕ) (len : ℕ) (buffer : List ℕ) → Ready m → len ≤ length text → Ready (chunk m text len buffer).memory × ((chunk m text len buffer).kept ≤ length text) × ((chunk m text len buffer).end ≤ length buffer)
unfolding chunk kept_bytes
steady_chunk m text len buffer ready h =
    let at_hand : List ℕ = take len text in
    let t = (done_part at_hand buffer (represents_memory ready)).took in
    let rest : List ℕ = drop (part m at_hand buffer).taken at_hand in (
      t.represents.ready,
      omega (arith, length-take most_kept rest, length-drop (part m at_hand buffer).taken at_hand, length-take-le len text h),
      omega (arith, t.prints.fits, t.prints.behind),
    )
