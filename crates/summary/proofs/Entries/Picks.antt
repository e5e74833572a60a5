-- The first entry of the highest count, and the picks: tracked rows of the bank, none twice, at most as many as wanted.
use mathlib.Core.Path.{◌≡◌, refl, ◌∙◌, sym}
use mathlib.Core.Bool.{true, false}
use mathlib.Core.Logic.{◌⊎◌, inl, inr, ⊎_elim}
use mathlib.Core.List.Memᴰ
use mathlib.Core.List.{List, [], ◌∷◌, Memᴰ}
use Prim.Native.Nat.{ℕ, zero, suc, ◌≤◌, ◌<◌}
use native.Mathlib.Omega.{arith}
use borrow.Author.Tests.{ltb-true, ltb-false}
use lib.Dec.{ltb}
use lib.ListN.{length}
use Rattle.laws.proofs.Cases.{split}
use Rattle.device.proofs.Occurrences.{times, hit_other}
use Rattle.summary.specs.Entries.{Entry, without, top, picks, has}
use Rattle.summary.specs.Rules.{Ceiling, bare, under, Ordered, Below, below_none, below_more}
use Rattle.summary.proofs.Rules.Order.{ordered_without, ordered_member}
use Rattle.summary.proofs.Entries.Tracked.{has_member, has_without, has_dropped}

-- no count is higher than that of the first entry of the highest count, which is among the entries
pub top_best : (best : Entry) (xs : List Entry) → best.count ≤ (top best xs).count
unfolding top
top_best best [] = omega arith
top_best best (x ∷ xs) =
    split (ltb best.count x.count)
    (λ e. let less = ltb-true best.count x.count e in rw e (omega (arith, top_best x xs, top_best best xs)))
    (λ e. let less = ltb-false best.count x.count e in rw e (omega (arith, top_best x xs, top_best best xs)))

pub top_ceiling : (best : Entry) (xs : List Entry) → Ceiling (top best xs).count xs
unfolding top
top_ceiling best [] = bare
top_ceiling best (x ∷ xs) =
    split (ltb best.count x.count)
    (λ e. rw e (under x (top_ceiling x xs) (top_best x xs)))
    (λ e.
    let less = ltb-false best.count x.count e in
    rw e (under x (top_ceiling best xs) (omega (arith, top_best best xs))))

pub top_in : (best : Entry) (xs : List Entry) → Memᴰ (top best xs) (best ∷ xs)
unfolding top
top_in best [] = Memᴰ.head refl
top_in best (x ∷ xs) =
    split (ltb best.count x.count)
    (λ e. rw e (Memᴰ.tail (top_in x xs)))
    (λ e. rw e (⊎_elim (λ same. Memᴰ.head same) (λ m. Memᴰ.tail (Memᴰ.tail m)) (Memᴰ.cases_cons (top_in best xs))))

-- the top is the first entry, or one of a higher count
pub top_or : (best : Entry) (xs : List Entry) → (top best xs ≡ best) ⊎ (best.count < (top best xs).count)
unfolding top
top_or best [] = inl refl
top_or best (x ∷ xs) =
    split (ltb best.count x.count)
    (λ on. let less = ltb-true best.count x.count on in rw on (inr (omega (arith, top_best x xs))))
    (λ off. rw off (top_or best xs))

-- no row twice
pub data Distinct : List ℕ → Type 0 where
  distinct_none : Distinct []
  distinct_more : (row : ℕ) {rows : List ℕ} → Distinct rows → times row rows ≡ 0 → Distinct (row ∷ rows)

-- only tracked rows are picked
picks_tracked : (row k : ℕ) (es : List Entry) → has row es ≡ false → times row (picks k es) ≡ 0
unfolding picks times
picks_tracked row zero es e = refl
picks_tracked row (suc k) [] e = refl
picks_tracked row (suc k) (x ∷ xs) e =
    let best : Entry = top x xs in
    let other : best.row ≡ row → ⊥ =
    λ same. let z : ◌≡◌ {A = ℕ} 0 1 = clash (sym (has_member best (x ∷ xs) (top_in x xs)) ∙ rw (← same) at e) in omega arith in
    omega (arith, hit_other best.row row other, picks_tracked row k (without best.row (x ∷ xs)) (has_without row best.row (x ∷ xs) e))
  where
    clash : true ≡ false → ◌≡◌ {A = ℕ} 0 1
    clash e' = cc

module _ {high low : ℕ} where
  pub picks_distinct : (k : ℕ) (es : List Entry) → Ordered high low es → Distinct (picks k es)
  unfolding picks
  picks_distinct zero es o = distinct_none
  picks_distinct (suc k) [] o = distinct_none
  picks_distinct (suc k) (x ∷ xs) o =
      let rest : List Entry = without (top x xs).row (x ∷ xs) in
      distinct_more (top x xs).row (picks_distinct k rest (ordered_without (top x xs).row o))
      (picks_tracked (top x xs).row k rest (has_dropped (top x xs).row o))

  pub picks_below : (k : ℕ) (es : List Entry) → Ordered high low es → Below high (picks k es)
  unfolding picks
  picks_below zero es o = below_none
  picks_below (suc k) [] o = below_none
  picks_below (suc k) (x ∷ xs) o =
      below_more (top x xs).row (picks_below k (without (top x xs).row (x ∷ xs)) (ordered_without (top x xs).row o))
      (ordered_member o (top x xs) (top_in x xs)).1

pub length_picks_le : (k : ℕ) (es : List Entry) → length (picks k es) ≤ k
unfolding picks
length_picks_le zero es = omega arith
length_picks_le (suc k) [] = omega arith
length_picks_le (suc k) (x ∷ xs) = omega (arith, length_picks_le k (without (top x xs).row (x ∷ xs)))

pub picks_step : (m r : ℕ) (es : List Entry) → 0 < length es → r ∷ [] ≡ picks 1 es → picks (suc m) es ≡ r ∷ picks m (without r es)
unfolding picks
picks_step m r [] h e = absurd (omega arith)
picks_step m r (x ∷ xs) h e =
    let same : r ≡ (top x xs).row = cc in
    rw same

pub picks_none : (m : ℕ) (es : List Entry) → length es ≤ 0 → picks m es ≡ []
unfolding picks
picks_none zero es h = refl
picks_none (suc m) [] h = refl
picks_none (suc m) (x ∷ xs) h = absurd (omega arith)
