-- What a store to the counts leaves of what is kept with them: the floor, the rows passed over by the hint, the marks, the rows behind the bank's end.
use mathlib.Core.Path.{◌≡◌, sym, ◌∙◌}
use mathlib.Core.Logic.{⊎_elim}
use mathlib.Core.List.{List, [], ◌∷◌}
use Prim.Native.Nat.{ℕ, zero, suc, ◌≤◌, ◌<◌}
use native.Mathlib.Omega.{arith}
use borrow.Author.Tests.{eq-eqb, eqb-true}
use lib.Dec.{eqb}
use lib.ListN.{length, get_or, set, length-set}
use lib.Seq.{get_or-set_other}
use Rattle.laws.proofs.Cases.{split, same_or_other}
use Rattle.tables.specs.InnerContracts.{equal_place}
use Rattle.aids.specs.Marks.{Marked, Clear, EmptyFrom}
use Rattle.aids.proofs.BoundsCapped.{stored_at}

-- counts before the first place of a number are other numbers; the one at it is the number
pub before_first : (s : ℕ) (cs : List ℕ) (i : ℕ) → i < equal_place s cs → get_or cs i 0 ≡ s → ⊥
unfolding equal_place
before_first s [] i h e = absurd (omega arith)
before_first s (c ∷ cs) zero h e = absurd (omega (arith, rw (eq-eqb c s e) at h))
before_first s (c ∷ cs) (suc i) h e =
    split (eqb c s) (λ on. absurd (omega (arith, rw on at h))) (λ off. before_first s cs i (omega (arith, rw off at h)) e)

pub at_first : (s : ℕ) (cs : List ℕ) → equal_place s cs < length cs → get_or cs (equal_place s cs) 0 ≡ s
unfolding equal_place
at_first s [] h = absurd (omega arith)
at_first s (c ∷ cs) h =
    split (eqb c s) (λ on. rw on (eqb-true c s on)) (λ off. rw off (at_first s cs (omega (arith, rw off at h))))

pub equal_place_le : (s : ℕ) (cs : List ℕ) → equal_place s cs ≤ length cs
unfolding equal_place
equal_place_le s [] = omega arith
equal_place_le s (c ∷ cs) = split (eqb c s) (λ on. rw on (omega arith)) (λ off. rw off (omega (arith, equal_place_le s cs)))

-- a number is stored in a row
module _ (counts : List ℕ) (row v : ℕ) (l : row < length counts) where
  -- it is 0 or at least the spillover
  pub floor_stored : {s : ℕ} → ((i : ℕ) → 0 < get_or counts i 0 → s ≤ get_or counts i 0) → (0 < v → s ≤ v) → (i : ℕ) → 0 < get_or (set counts row v) i 0 → s ≤ get_or (set counts row v) i 0
  floor_stored floor new i p =
      ⊎_elim
      (λ same. let here = stored_at counts row v i l same in omega (arith, new (omega arith)))
      (λ other. let there = get_or-set_other counts row i v 0 other in omega (arith, floor i (omega arith)))
      (same_or_other i row)

  -- it is not the spillover
  pub clear_stored : {s hint : ℕ} → Clear counts s hint → (v ≡ s → ⊥) → Clear (set counts row v) s hint
  clear_stored clear new =
      record {
        none = λ i h e.
            ⊎_elim
            (λ same. new (sym (stored_at counts row v i l same) ∙ e))
            (λ other. clear.none i h (sym (get_or-set_other counts row i v 0 other) ∙ e))
            (same_or_other i row);
      }

  -- it is 0, or the row is in the bank
  pub empty_stored : {rows : ℕ} → EmptyFrom counts rows → (rows ≤ row → v ≡ 0) → EmptyFrom (set counts row v) rows
  empty_stored empty new =
      record {
        zero_at = λ i h.
            ⊎_elim
            (λ same. stored_at counts row v i l same ∙ new (omega arith))
            (λ other. get_or-set_other counts row i v 0 other ∙ empty.zero_at i h)
            (same_or_other i row);
      }

  -- the row had a count before, and keeps its mark
  pub marked_stored : {marks : List ℕ} → Marked counts marks → 0 < get_or counts row 0 → Marked (set counts row v) marks
  marked_stored m p =
      record {
        counts_long = length-set counts row v ∙ m.counts_long;
        marks_long = m.marks_long;
        rows_shown = λ i q.
            ⊎_elim
            (λ same. rw same (m.rows_shown row p))
            (λ other. m.rows_shown i (rw (get_or-set_other counts row i v 0 other) at q))
            (same_or_other i row);
        words_shown = m.words_shown;
      }
