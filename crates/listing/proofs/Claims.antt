-- The claims of specs/Claims.antt, each under its own name.
use mathlib.Core.Path.{◌≡◌, refl, ap, sym, ◌∙◌}
use mathlib.Core.Bool.{true}
use mathlib.Core.List.{List, [], ◌∷◌, ◌++◌, append_assoc, append-nil}
use Prim.Native.Nat.{ℕ}
use lib.ListN.{length, take, drop}
use lib.Seq.{take_at, length-take-le}
use Rattle.device.specs.Refusal.{Outcome}
use Rattle.device.specs.Remap.{remap_allowed}
use Rattle.device.proofs.Remap.{own_allowed}
use Rattle.trace.specs.declared.Record.{Record}
use Rattle.listing.specs.Texts.{passed, listing_to, listing, after}
use Rattle.trace.specs.Texts.{outcomes, most_kept, kept_bytes, joined}
use Rattle.listing.specs.Chunks.{part, chunk}
use Rattle.listing.specs.Parts.{comes, lists, keeps, ends}
use Rattle.steps.specs.Steps.{Progress, start, next_to, next}
use Rattle.listing.specs.Claims.{PartsJoined, PartMoves, ChunkMoves, EndMoves, LoadedAllowed, ListingsStay}
use Rattle.steps.proofs.Steps.Alike.{StandingAlike, step_above}
use Rattle.steps.proofs.Memory.Progress.{loadable_behind}
use Rattle.listing.proofs.Texts.{listing_cut, listing_kept, listed_alike}
use Rattle.listing.proofs.Chunks.Lines.{done_part, all_taken}
use Rattle.listing.proofs.Chunks.LastLine.{last_line_listing}
use Rattle.listing.proofs.Parts.Moves.{printed_taken}

pub parts_joined : PartsJoined
unfolding PartsJoined joined
parts_joined g text _ out (comes part {parts = parts} later) =
    parts_joined g (text ++ part) parts out later ∙ ap (listing g) (append_assoc text part (joined parts))
parts_joined g _ parts _ (lists a text {out = out} h later) =
    ap (λ (o : List ℕ). listing g a ++ o) (parts_joined (after g a) text parts out later) ∙
    sym (listing_cut g a (text ++ joined parts) h) ∙ ap (listing g) (sym (append_assoc a text (joined parts)))
parts_joined g _ parts out (keeps text e later) =
    parts_joined g (take most_kept text) parts out later ∙ sym (listing_kept g text (joined parts) e)
parts_joined g _ _ _ (ends text e) = ap (listing g) (sym (append-nil text))

pub part_moves : PartMoves
unfolding PartMoves
part_moves m g text buffer r =
    let d = done_part text buffer r in
    record {
      next = after g (take (part m text buffer).taken text);
      represents = d.took.represents;
      moves = printed_taken d.took;
    }

pub end_moves : EndMoves
unfolding EndMoves
end_moves m g text room r e h = rw (last_line_listing m g text room r e h) (ends text e)

pub chunk_moves : ChunkMoves
unfolding ChunkMoves chunk kept_bytes
chunk_moves m g text len buffer r h room =
    let at_hand : List ℕ = take len text in
    let d = done_part at_hand buffer r in
    let rest : List ℕ = drop (part m at_hand buffer).taken at_hand in
    let unended = all_taken d (rw (length-take-le len text h) room) in
    record {
      next = after g (take (part m at_hand buffer).taken at_hand);
      represents = d.took.represents;
      moves = λ parts out later.
          printed_taken d.took parts out
          (keeps rest unended (rw (take_at (take most_kept rest) (drop (length (take most_kept rest)) text) (length (take most_kept rest)) refl) at later));
    }

passed_loadable : (g : Progress) (os : List (Outcome Record)) → remap_allowed g.loaded ≡ true → remap_allowed (passed g os).loaded ≡ true
unfolding passed next_to
passed_loadable g [] ok = ok
passed_loadable g (o ∷ os) ok = passed_loadable (next g o) os (loadable_behind g.loaded o ok)

pub loaded_allowed : LoadedAllowed
unfolding LoadedAllowed after start
loaded_allowed text = passed_loadable start (outcomes text) own_allowed

pub listings_stay : ListingsStay
unfolding ListingsStay listing_to start StandingAlike
listings_stay most = (λ text all. listed_alike most start (outcomes text) tt all, step_above most)
