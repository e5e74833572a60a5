-- A read of the trace leaves what is to be answered as it was.
use mathlib.Core.Path.{◌≡◌, sym, ◌∙◌, ap}
use mathlib.Core.Bool.{true}
use mathlib.Core.List.{List, [], ◌∷◌, ◌++◌, append_assoc, append-nil}
use Prim.Native.Nat.{ℕ, ◌+◌, ◌*◌, ◌≤◌}
use native.Mathlib.Omega.{arith}
use borrow.Author.Tests.{leb-true}
use lib.Dec.{leb}
use lib.ListN.{length, take, drop, length-take}
use Rattle.laws.proofs.Cases.{clash, and_both}
use Rattle.columns.specs.Numbers.{written}
use Rattle.trace.specs.Texts.{joined}
use Rattle.columns.proofs.Output.{take_written}
use Rattle.steps.specs.Steps.{Progress}
use Rattle.listing.specs.Texts.{listing}
use Rattle.steps.specs.Memory.{next_number}
use Rattle.listing.specs.Chunks.{line_room, chunk, last_line}
use Rattle.listing.proofs.Chunks.LastLine.{last_line_listing}
use Rattle.input.specs.declared.Input.TheVariants.{Bytes, End}
use Rattle.input.specs.AtHand.{Within, Came}
use Rattle.input.proofs.AtHand.{at_hand}
use Rattle.turns.specs.Turns.{turn_of}
use Rattle.checker.specs.Departure.{departing}
use Rattle.checker.proofs.Cuts.{ChunkCut, cut_chunk}
use Rattle.rowcheck.specs.declared.Answer.TheVariants.{Open}
use Rattle.rowcheck.specs.Turns.{behind_trace, State, wants_trace, after_trace}
use Rattle.rowcheck.proofs.Wanted.{behind, required, to_answer, wanted, Fine, none_behind}

-- before it all that was required is compared: only the listing of what is left of the trace is
module _ (q : State) (wants : wants_trace q ≡ true) where
  wants_both : (q.turn.more ≡ true) × (leb q.turn.end q.check.at ≡ true)
  unfolding wants_trace
  wants_both = and_both q.turn.more (leb q.turn.end q.check.at) wants

  wanted_before : (g : Progress) (parts given : List (List ℕ)) → q.check.answer ≡ Open → wanted q g parts given ≡ departing q.check.lines (listing g (take q.turn.kept q.turn.text ++ joined parts)) (joined given)
  unfolding wanted required behind to_answer
  wanted_before g parts given open_yet =
      rw (
        open_yet,
        wants_both.0,
        none_behind q.check.at q.turn.end q.turn.buffer (leb-true q.turn.end q.check.at wants_both.1),
      )

-- it brings a part
module _ (q : State) {g : Progress} (f : Fine q.turn g) (text : List ℕ) (len : ℕ) (came : Came (Bytes len) q.turn.kept q.turn.text text) (room : 55 * length text + line_room ≤ length q.turn.buffer) where
  pub chunk_read : ChunkCut g text len (chunk q.turn.memory text len q.turn.buffer)
  unfolding Within
  chunk_read =
      cut_chunk text len q.turn.buffer f.represents came.within.1 (omega (arith, came.within.1))

  pub fine_read : Fine (after_trace q text (Bytes len)).turn chunk_read.next
  unfolding after_trace turn_of
  fine_read =
      record { represents = chunk_read.represents; unended = λ on. chunk_read.unended; fits = chunk_read.fits }

  pub wanted_read : (parts given : List (List ℕ)) → q.check.answer ≡ Open → wants_trace q ≡ true → wanted (after_trace q text (Bytes len)) chunk_read.next parts given ≡ wanted q g (drop q.turn.kept (take len text) ∷ parts) given
  unfolding wanted required behind to_answer after_trace turn_of behind_trace joined
  wanted_read parts given open_yet wants =
      let part : List ℕ = drop q.turn.kept (take len text) in
      ap (λ (all : List ℕ). departing q.check.lines all (joined given))
      (sym (chunk_read.lists (joined parts)) ∙ ap (λ (front : List ℕ). listing g (front ++ joined parts)) (at_hand came) ∙
      ap (listing g) (append_assoc (take q.turn.kept q.turn.text) part (joined parts))) ∙
      sym (wanted_before q wants g (part ∷ parts) given open_yet)

-- it finds the end
module _ (q : State) {g : Progress} (f : Fine q.turn g) (text : List ℕ) (wants : wants_trace q ≡ true) (came : Came End q.turn.kept q.turn.text text) (room : line_room ≤ length q.turn.buffer) where
  abbrev last_prints : List ℕ
  last_prints = last_line (next_number q.turn.memory.lines) (take q.turn.kept text) (length q.turn.buffer)

  abbrev buffer_written : List ℕ
  buffer_written = written q.turn.buffer 0 last_prints

  last_listed : last_prints ≡ listing g (take q.turn.kept q.turn.text)
  last_listed =
      rw came.front
      (last_line_listing q.turn.memory g (take q.turn.kept q.turn.text) (length q.turn.buffer) f.represents
      (f.unended (wants_both q wants).0) (omega arith))

  pub fine_last : Fine (after_trace q text End).turn g
  unfolding after_trace turn_of
  fine_last =
      record {
        represents = f.represents;
        unended = λ on. clash (sym on);
        fits = omega (arith, ap length (take_written q.turn.buffer last_prints), length-take (length last_prints) buffer_written);
      }

  pub wanted_last : (given : List (List ℕ)) → q.check.answer ≡ Open → wanted (after_trace q text End) g [] given ≡ wanted q g [] given
  unfolding wanted required behind to_answer after_trace turn_of behind_trace joined
  wanted_last given open_yet =
      ap (λ (all : List ℕ). departing q.check.lines all (joined given))
      (append-nil (take (length last_prints) buffer_written) ∙ take_written q.turn.buffer last_prints ∙ last_listed ∙
      ap (listing g) (sym (append-nil (take q.turn.kept q.turn.text)))) ∙
      sym (wanted_before q wants g [] given open_yet)
