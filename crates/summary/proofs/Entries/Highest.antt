-- The picks are the highest: each picked row is tracked and beats, by count and then by lower row, those picked later and those not picked.
use mathlib.Core.Path.{◌≡◌, refl, ◌∙◌, sym, ap, subst}
use mathlib.Core.Bool.{true, false}
use mathlib.Core.Logic.{◌⊎◌, inl, inr, ⊎_elim}
use mathlib.Core.List.Memᴰ
use mathlib.Core.List.{List, [], ◌∷◌, Memᴰ}
use Prim.Native.Nat.{ℕ, zero, suc, ◌≤◌, ◌<◌, min}
use native.Mathlib.Nat.{eq-or-lt_of_le}
use native.Mathlib.Omega.{arith}
use borrow.Author.Tests.{eqb-true, eqb-false, eq-eqb, ne_eqb, ltb-true, ltb-false}
use lib.Dec.{eqb, ltb}
use lib.ListN.{length, get_or}
use Rattle.laws.proofs.Cases.{split, clash, or_neither}
use Rattle.summary.specs.Entries.{Entry, has, count_or, without, top, picks}
use Rattle.summary.specs.Steps.{in_rows}
use Rattle.summary.specs.Rules.{Ordered, ordered_none, ordered_more}
use Rattle.summary.proofs.Entries.Tracked.{tracked, has_kept, has_back, has_member, has_dropped}
use Rattle.summary.proofs.Entries.Lengths.{length_without_tracked}
use Rattle.summary.proofs.Entries.Picks.{top_or, top_in, top_best}
use Rattle.summary.proofs.Rules.Order.{ordered_parts, ordered_from, ordered_without, ordered_member}
use Rattle.summary.proofs.Steps.Estimate.{count_without}

-- an entry's row is tracked with the entry's count, and a tracked row has its entry
count_member : (other : ℕ) (x : Entry) {high low : ℕ} {es : List Entry} → Ordered high low es → Memᴰ x es → count_or other x.row es ≡ x.count
unfolding count_or
count_member other x ordered_none m = absurd (Memᴰ.not-nil m)
count_member other x (ordered_more low y o l b) m =
    ⊎_elim
    (λ same. rw same (rw (eq-eqb y.row y.row refl)))
    (λ later.
    let behind = ordered_member o x later in
    rw (ne_eqb y.row x.row (λ e. omega arith)) (count_member other x o later))
    (Memᴰ.cases_cons m)

-- one entry beats another
abbrev Above : Entry → Entry → Type 0
Above x y = (y.count < x.count) ⊎ ((x.count ≡ y.count) × (x.row < y.row))

-- the top beats every other entry
top_above : {high : ℕ} (best : Entry) (xs : List Entry) → Ordered high (suc best.row) xs → (y : Entry) → Memᴰ y (best ∷ xs) → (y ≡ top best xs) ⊎ Above (top best xs) y
unfolding top
top_above best [] o y m = ⊎_elim (λ same. inl same) (λ none. absurd (Memᴰ.not-nil none)) (Memᴰ.cases_cons m)
top_above {high} best (x ∷ xs) ordered y m =
    let o = (ordered_parts ordered).0 in
    let l = (ordered_parts ordered).1 in
    split (ltb best.count x.count)
    (λ on.
    let less = ltb-true best.count x.count on in
    rw on
    (⊎_elim
    (λ same. let n = ap (λ (z : Entry). z.count) same in inr (inl (omega (arith, top_best x xs))))
    (λ later. top_above x xs o y later)
    (Memᴰ.cases_cons m)))
    (λ off.
    let more = ltb-false best.count x.count off in
    let behind : Ordered high (suc best.row) xs = ordered_from (suc best.row) o (omega arith) in
    rw off
    (⊎_elim
    (λ same. top_above best xs behind y (Memᴰ.head same))
    (λ later.
    ⊎_elim
    (λ same. inr (next x y same more l))
    (λ further. top_above best xs behind y (Memᴰ.tail further))
    (Memᴰ.cases_cons later))
    (Memᴰ.cases_cons m)))
  where
    next : (x y : Entry) → y ≡ x → x.count ≤ best.count → suc best.row ≤ x.row → Above (top best xs) y
    next x y same more l =
        let n = ap (λ (z : Entry). z.count) same in
        let r = ap (λ (z : Entry). z.row) same in
        ⊎_elim
        (λ first.
        let c = ap (λ (z : Entry). z.count) first in
        let f = ap (λ (z : Entry). z.row) first in
        ⊎_elim (λ equal. inr ((omega arith, omega arith))) (λ below. inl (omega arith)) (eq-or-lt_of_le more))
        (λ higher. inl (omega arith))
        (top_or best xs)

-- one row beats another
abbrev Over : ℕ → List Entry → ℕ → ℕ → Type 0
Over spill es row other = (count_or spill other es < count_or spill row es) ⊎ ((count_or spill row es ≡ count_or spill other es) × (row < other))

in_rows_at : (rows : List ℕ) (i : ℕ) → i < length rows → in_rows (get_or rows i 0) rows ≡ true
unfolding in_rows
in_rows_at [] i h = absurd (omega arith)
in_rows_at (row ∷ rows) zero h = rw (eq-eqb row row refl)
in_rows_at (row ∷ rows) (suc i) h = split (eqb row (get_or rows i 0)) (λ on. rw on) (λ off. rw off (in_rows_at rows i (omega arith)))

-- picked rows are tracked
pub picks_are_tracked : (k : ℕ) (es : List Entry) (row : ℕ) → in_rows row (picks k es) ≡ true → has row es ≡ true
unfolding picks in_rows
picks_are_tracked zero es row e = clash (sym e)
picks_are_tracked (suc k) [] row e = clash (sym e)
picks_are_tracked (suc k) (x ∷ xs) row e =
    split (eqb (top x xs).row row)
    (λ on. rw (eqb-true (top x xs).row row on) at (has_member (top x xs) (x ∷ xs) (top_in x xs)))
    (λ off.
    has_back row (top x xs).row (x ∷ xs)
    (picks_are_tracked k (without (top x xs).row (x ∷ xs)) row (rw off at e)))

-- a dropped row changes nothing between two others
over_without : (spill v : ℕ) (es : List Entry) (row other : ℕ) → (v ≡ row → ⊥) → (v ≡ other → ⊥) → Over spill (without v es) row other → Over spill es row other
over_without spill v es row other hr ho h = rw (count_without spill row v es hr, count_without spill other v es ho) at h

module _ (spill : ℕ) {high : ℕ} where
  -- the top's row beats every other tracked row
  over_entry : {low : ℕ} (x : Entry) (xs : List Entry) → Ordered high low (x ∷ xs) → (y : Entry) → Memᴰ y (x ∷ xs) → ((top x xs).row ≡ y.row → ⊥) → Over spill (x ∷ xs) (top x xs).row y.row
  over_entry x xs o y m other =
      let best : count_or spill (top x xs).row (x ∷ xs) ≡ (top x xs).count = count_member spill (top x xs) o (top_in x xs) in
      let its : count_or spill y.row (x ∷ xs) ≡ y.count = count_member spill y o m in
      ⊎_elim
      (λ same. absurd (other (ap (λ (z : Entry). z.row) (sym same))))
      (λ above. rw (best, its) above)
      (top_above x xs (ordered_parts o).0 y m)

  over_top : {low : ℕ} (x : Entry) (xs : List Entry) → Ordered high low (x ∷ xs) → (row : ℕ) → has row (x ∷ xs) ≡ true → ((top x xs).row ≡ row → ⊥) → Over spill (x ∷ xs) (top x xs).row row
  over_top x xs o row e other =
      let t = tracked row (x ∷ xs) e in
      subst (λ (r : ℕ). Over spill (x ∷ xs) (top x xs).row r) t.is_row
      (over_entry x xs o t.entry t.member (λ q. other (q ∙ t.is_row)))

  -- a row that is left when another is dropped is another
  left_other : {low : ℕ} {es : List Entry} (v row : ℕ) → Ordered high low es → has row (without v es) ≡ true → v ≡ row → ⊥
  left_other v row o e same = clash (sym (rw (← same) at e) ∙ has_dropped v o)

  -- a picked row beats each tracked row that is not picked
  pub picks_above_others : {low : ℕ} (k : ℕ) (es : List Entry) → Ordered high low es → (row other : ℕ) → in_rows row (picks k es) ≡ true → has other es ≡ true → in_rows other (picks k es) ≡ false → Over spill es row other
  unfolding picks in_rows
  picks_above_others zero es o row other e t f = clash (sym e)
  picks_above_others (suc k) [] o row other e t f = clash (sym e)
  picks_above_others {low} (suc k) (x ∷ xs) o row other e t f =
      let v : ℕ = (top x xs).row in
      let rest : List Entry = without v (x ∷ xs) in
      let parts = or_neither (eqb v other) (in_rows other (picks k rest)) f in
      let apart : v ≡ other → ⊥ = eqb-false v other parts.0 in
      split (eqb v row)
      (λ on. rw (eqb-true v row on) at (over_top x xs o other t apart))
      (λ off.
      over_without spill v (x ∷ xs) row other (eqb-false v row off) apart
      (picks_above_others k rest (ordered_without v o) row other (rw off at e) (has_kept other v (x ∷ xs) apart t) parts.1))

  -- a picked row beats each row picked later
  pub picks_in_order : {low : ℕ} (k : ℕ) (es : List Entry) → Ordered high low es → (i j : ℕ) → i < j → j < length (picks k es) → Over spill es (get_or (picks k es) i 0) (get_or (picks k es) j 0)
  unfolding picks
  picks_in_order zero es o i j h l = absurd (omega arith)
  picks_in_order (suc k) [] o i j h l = absurd (omega arith)
  picks_in_order (suc k) (x ∷ xs) o i zero h l = absurd (omega arith)
  picks_in_order {low} (suc k) (x ∷ xs) o zero (suc j) h l =
      let v : ℕ = (top x xs).row in
      let rest : List Entry = without v (x ∷ xs) in
      let left = picks_are_tracked k rest (get_or (picks k rest) j 0) (in_rows_at (picks k rest) j (omega arith)) in
      over_top x xs o (get_or (picks k rest) j 0) (has_back (get_or (picks k rest) j 0) v (x ∷ xs) left) (left_other v (get_or (picks k rest) j 0) o left)
  picks_in_order {low} (suc k) (x ∷ xs) o (suc i) (suc j) h l =
      let v : ℕ = (top x xs).row in
      let rest : List Entry = without v (x ∷ xs) in
      let first = picks_are_tracked k rest (get_or (picks k rest) i 0) (in_rows_at (picks k rest) i (omega arith)) in
      let second = picks_are_tracked k rest (get_or (picks k rest) j 0) (in_rows_at (picks k rest) j (omega arith)) in
      over_without spill v (x ∷ xs) (get_or (picks k rest) i 0) (get_or (picks k rest) j 0)
      (left_other v (get_or (picks k rest) i 0) o first)
      (left_other v (get_or (picks k rest) j 0) o second)
      (picks_in_order k rest (ordered_without v o) i j (omega arith) (omega arith))

-- as many rows as wanted, or all
pub length_picks : (k : ℕ) (es : List Entry) → length (picks k es) ≡ min k (length es)
unfolding picks
length_picks zero es = omega arith
length_picks (suc k) [] = omega arith
length_picks (suc k) (x ∷ xs) =
    let v : ℕ = (top x xs).row in
    let one : suc (length (without v (x ∷ xs))) ≡ suc (length xs) = length_without_tracked v (x ∷ xs) (has_member (top x xs) (x ∷ xs) (top_in x xs)) in
    omega (arith, length_picks k (without v (x ∷ xs)))
