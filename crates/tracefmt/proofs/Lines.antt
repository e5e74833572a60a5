-- Lines at the front of a text, rewritten one after another: what is taken stays whole lines, and what it writes grows by one line's spelling.
use mathlib.Core.Path.{◌≡◌, refl}
use mathlib.Core.Bool.{true}
use mathlib.Core.List.{List, [], ◌∷◌, ◌++◌, append_assoc, append-nil}
use Prim.Native.Nat.{ℕ, ◌+◌, ◌≤◌, ◌<◌}
use native.Mathlib.Omega.{arith}
use lib.Dec.{eqb}
use lib.ListN.{length, take, drop}
use Rattle.device.specs.Refusal.{Outcome}
use Rattle.laws.proofs.Cases.{split}
use Rattle.trace.specs.declared.Record.{Record}
use Rattle.trace.specs.Lines.{ended}
use Rattle.trace.specs.Reading.{reading}
use Rattle.trace.specs.Texts.{lines, whole, outcomes}
use Rattle.columns.specs.Output.{Prints}
use Rattle.canonical.specs.Spelling.{answer_spelling}
use Rattle.columns.proofs.Output.{prints_nothing, prints_then, prints_long}
use Rattle.canonical.proofs.Spelling.Lengths.{spelling_no_longer}
use Rattle.trace.proofs.Texts.Cuts.{outcomes_cut}
use Rattle.trace.proofs.Texts.NextLine.{place_within, whole_on, outcomes_on}
use Rattle.tracefmt.specs.Rewriting.{Progress, next, writes, rewritten, passed, rewriting, after}

rewritten_append : (g : Progress) (os ps : List (Outcome Record)) → rewritten g (os ++ ps) ≡ rewritten g os ++ rewritten (passed g os) ps
unfolding rewritten passed
rewritten_append g [] ps = refl
rewritten_append g (o ∷ os) ps = rw (rewritten_append (next g o) os ps, append_assoc)

passed_append : (g : Progress) (os ps : List (Outcome Record)) → passed g (os ++ ps) ≡ passed (passed g os) ps
unfolding passed
passed_append g [] ps = refl
passed_append g (o ∷ os) ps = passed_append (next g o) os ps

-- a text cut behind the end of a line
module _ (g : Progress) (a b : List ℕ) (h : whole a ≡ true) where
  pub rewriting_cut : rewriting g (a ++ b) ≡ rewriting g a ++ rewriting (after g a) b
  unfolding rewriting after
  rewriting_cut = rw (outcomes_cut a b h) (rewritten_append g (outcomes a) (outcomes b))

  pub after_cut : after g (a ++ b) ≡ after (after g a) b
  unfolding after
  after_cut = rw (outcomes_cut a b h) (passed_append g (outcomes a) (outcomes b))

-- one line more
module _ (g : Progress) (text : List ℕ) (at : ℕ) (h : at < length text) (w : whole (take at text) ≡ true) where
  rewriting_on : rewriting g (take (reading text at).place text) ≡ rewriting g (take at text) ++ writes (after g (take at text)) (reading text at).outcome
  unfolding rewriting after rewritten
  rewriting_on = rw (outcomes_on text at h w, rewritten_append g (outcomes (take at text)) ((reading text at).outcome ∷ []), append-nil)

  after_on : after g (take (reading text at).place text) ≡ next (after g (take at text)) (reading text at).outcome
  unfolding after passed
  after_on = rw (outcomes_on text at h w, passed_append g (outcomes (take at text)) ((reading text at).outcome ∷ []))

length_writes_le : (g : Progress) (o : Outcome Record) → length (writes g o) ≤ length (answer_spelling o)
unfolding writes
length_writes_le g o = split (eqb (next g o).refusal 0) (λ e. rw e (omega arith)) (λ e. rw e (omega arith))

-- how far a rewriting has come in a text and in a buffer
pub record Taken (g₀ : Progress) (text buffer₀ : List ℕ) (g : Progress) (buffer : List ℕ) (at end : ℕ) : Type 0 where
  pub within : at ≤ length text
  pub lines_taken : whole (take at text) ≡ true
  pub prints : Prints buffer₀ 0 (rewriting g₀ (take at text)) buffer end
  pub leaves : g ≡ after g₀ (take at text)
  pub less : end ≤ at

pub taken_start : (g : Progress) (text buffer : List ℕ) → Taken g text buffer g buffer 0 0
unfolding rewriting after rewritten passed outcomes lines whole
taken_start g text buffer =
    record { within = omega arith; lines_taken = refl; prints = prints_nothing buffer 0 (omega arith); leaves = refl; less = omega arith }

module _ {g₀ g : Progress} {text buffer₀ buffer : List ℕ} {at end : ℕ} (t : Taken g₀ text buffer₀ g buffer at end) where
  pub buffer_long : length buffer ≡ length buffer₀
  buffer_long = prints_long t.prints

  -- the next line's spelling fits, where the buffer is no shorter than the text
  pub line_fits : at < length text → length text ≤ length buffer₀ → end + length (answer_spelling (reading text at).outcome) ≤ length buffer
  line_fits h room = omega (arith, t.less, spelling_no_longer text at, (place_within text at h).1, buffer_long)

  pub taken_more : {g' : Progress} {buffer' : List ℕ} {end' : ℕ} → at < length text → ended (drop at text) ≡ true → g' ≡ next g (reading text at).outcome
      → Prints buffer end (writes g (reading text at).outcome) buffer' end' → Taken g₀ text buffer₀ g' buffer' (reading text at).place end'
  taken_more h e n p =
      let o = (reading text at).outcome in
      record {
        within = (place_within text at h).1;
        lines_taken = whole_on text at h t.lines_taken e;
        prints = rw (rewriting_on g₀ text at h t.lines_taken, ← t.leaves) (prints_then t.prints p);
        leaves = rw (after_on g₀ text at h t.lines_taken, ← t.leaves) n;
        less = omega (arith, p.behind, t.less, length_writes_le g o, spelling_no_longer text at);
      }
