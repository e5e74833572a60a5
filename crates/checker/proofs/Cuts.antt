-- The listing of a text begins with what the lines at its front print, and goes on with the listing of what is left.
use mathlib.Core.Path.{◌≡◌, refl, sym, ◌∙◌, ap}
use mathlib.Core.Bool.{false}
use mathlib.Core.List.{List, ◌++◌, append_assoc}
use Prim.Native.Nat.{ℕ, ◌+◌, ◌*◌, ◌≤◌}
use native.Mathlib.Omega.{arith}
use lib.ListN.{length, take, drop, take-append-drop}
use lib.Seq.{take_at, length-take-le}
use Rattle.trace.specs.Lines.{ended}
use Rattle.trace.specs.Texts.{most_kept, kept_bytes}
use Rattle.columns.proofs.Output.{take_printed, prints_long}
use Rattle.steps.specs.Steps.{Progress}
use Rattle.listing.specs.Texts.{listing, after}
use Rattle.steps.specs.Memory.{Memory, Represents}
use Rattle.listing.specs.Chunks.{Going, part, Chunked, chunk}
use Rattle.listing.proofs.Texts.{listing_cut, listing_kept}
use Rattle.listing.proofs.Chunks.Lines.{done_part, all_taken}
use Rattle.listing.proofs.Parts.Moves.{ended_kept}

pub record Cut (g : Progress) (text buffer : List ℕ) (q : Going) : Type 0 where
  pub next : Progress
  pub represents : Represents q.memory next
  pub within : q.taken ≤ length text
  pub lists : listing g text ≡ take q.end q.buffer ++ listing next (drop q.taken text)
  pub small : q.end ≤ length buffer
  pub fits : q.end ≤ length q.buffer
  pub spent : q.end ≤ 55 * q.taken
  pub roomy : q.end + 200 ≤ length buffer → ended (drop q.taken text) ≡ false

cut_here : {m : Memory} {g : Progress} (text buffer : List ℕ) → Represents m g → Cut g text buffer (part m text buffer)
cut_here {m} {g} text buffer r =
    let q : Going = part m text buffer in
    let d = done_part text buffer r in
    let t = d.took in
    record {
      next = after g (take q.taken text);
      represents = t.represents;
      within = t.within;
      lists =
          ap (listing g) (sym (take-append-drop q.taken text)) ∙ listing_cut g (take q.taken text) (drop q.taken text) t.ends ∙
          ap (λ (printed : List ℕ). printed ++ listing (after g (take q.taken text)) (drop q.taken text)) (sym (take_printed t.prints));
      small = omega (arith, t.prints.fits, t.prints.behind);
      fits = omega (arith, t.prints.fits, t.prints.behind, prints_long t.prints);
      spent = t.spent;
      roomy = d.roomy;
    }

-- as a call of `list_part` leaves it
pub cut_part : {m : Memory} {g : Progress} {q : Going} (text buffer : List ℕ) → Represents m g → q ≡ part m text buffer → Cut g text buffer q
cut_part text buffer r e = rw e (cut_here text buffer r)

-- what lies between two reads, whatever follows: what it printed, and behind it the listing of the kept bytes and of what follows
pub record ChunkCut (g : Progress) (text : List ℕ) (len : ℕ) (q : Chunked) : Type 0 where
  pub next : Progress
  pub represents : Represents q.memory next
  pub unended : ended (take q.kept q.text) ≡ false
  pub lists : (rest : List ℕ) → listing g (take len text ++ rest) ≡ take q.end q.buffer ++ listing next (take q.kept q.text ++ rest)
  pub fits : q.end ≤ length q.buffer

pub cut_chunk : {m : Memory} {g : Progress} (text : List ℕ) (len : ℕ) (buffer : List ℕ) → Represents m g → len ≤ length text → 55 * len + 200 ≤ length buffer → ChunkCut g text len (chunk m text len buffer)
unfolding chunk kept_bytes
cut_chunk {m} {g} text len buffer r h room =
    let at_hand : List ℕ = take len text in
    let q : Going = part m at_hand buffer in
    let d = done_part at_hand buffer r in
    let t = d.took in
    let front : List ℕ = take q.taken at_hand in
    let left : List ℕ = drop q.taken at_hand in
    let kept : List ℕ = take most_kept left in
    let unended = all_taken d (rw (length-take-le len text h) room) in
    record {
      next = after g front;
      represents = t.represents;
      unended = ended_kept m g text len buffer r h room;
      lists = λ rest.
          ap (λ (all : List ℕ). listing g (all ++ rest)) (sym (take-append-drop q.taken at_hand)) ∙ ap (listing g) (append_assoc front left rest) ∙
          listing_cut g front (left ++ rest) t.ends ∙
          ap (λ (printed : List ℕ). printed ++ listing (after g front) (left ++ rest)) (sym (take_printed t.prints)) ∙
          ap (λ (more : List ℕ). take q.end q.buffer ++ more)
          (listing_kept (after g front) left rest unended ∙
          ap (λ (first : List ℕ). listing (after g front) (first ++ rest)) (sym (take_at kept (drop (length kept) text) (length kept) refl)));
      fits = omega (arith, t.prints.fits, t.prints.behind, prints_long t.prints);
    }
