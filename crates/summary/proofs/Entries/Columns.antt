-- The two columns of the entries, rows and counts: where a row or a count stands first, and what dropping, raising and entering do to both.
use mathlib.Core.Path.{◌≡◌, refl, ap, sym, ◌∙◌}
use mathlib.Core.Bool.{true, false}
use mathlib.Core.List.{List, [], ◌∷◌, ◌++◌}
use Prim.Native.Nat.{ℕ, zero, suc, ◌+◌, ◌-◌, ◌≤◌, ◌<◌}
use native.Mathlib.Omega.{arith}
use borrow.Author.Tests.{eqb-false, eq-eqb, ne_eqb, ltb-true, ltb-false, lt-ltb, le-ltb}
use lib.Dec.{eqb, ltb, leb-suc-suc}
use lib.ListN.{length, get_or, take, drop, set, length-append, length-take, length-drop}
use Rattle.laws.proofs.Cases.{split, zero_one, or_neither}
use Rattle.tables.specs.InnerContracts.{Rising, lower_place, equal_place, highest_from, highest_place}
use Rattle.summary.specs.Entries.{Entry, rows_of, counts_of, has, without, raised, entered, has_count, without_count, top}
use Rattle.summary.specs.Steps.{in_rows}
use Rattle.summary.specs.Rules.{Ordered, ordered_none, ordered_more}
use Rattle.summary.proofs.Entries.Lengths.{length_rows}

-- a list without a place, and with a number put in before a place
abbrev pub out : ℕ → List ℕ → List ℕ
out at xs = take at xs ++ drop (suc at) xs

abbrev pub inside : ℕ → ℕ → List ℕ → List ℕ
inside at x xs = take at xs ++ x ∷ drop at xs

pub length_inside : (at x : ℕ) (xs : List ℕ) → at ≤ length xs → length (inside at x xs) ≡ length xs + 1
length_inside at x xs h = rw (length-append (take at xs) (x ∷ drop at xs), length-take at xs, length-drop at xs) (omega arith)

pub length_out : (at : ℕ) (xs : List ℕ) → at < length xs → length (out at xs) ≡ length xs - 1
length_out at xs h = rw (length-append (take at xs) (drop (suc at) xs), length-take at xs, length-drop (suc at) xs) (omega arith)

-- the same test one place ltb-suc-suc, and at the first place
ltb_suc_suc : (a b : ℕ) → ltb (suc a) (suc b) ≡ ltb a b
ltb_suc_suc a b = leb-suc-suc (suc a) b

ltb_zero_suc : (b : ℕ) → ltb 0 (suc b) ≡ true
ltb_zero_suc b = lt-ltb 0 (suc b) (omega arith)

-- where a row stands first
pub has_place : (row : ℕ) (es : List Entry) → has row es ≡ ltb (equal_place row (rows_of es)) (length es)
unfolding has equal_place rows_of
has_place row [] = refl
has_place row (x ∷ xs) =
    split (eqb x.row row)
    (λ on. rw on (sym (ltb_zero_suc (length xs))))
    (λ off. rw off (has_place row xs ∙ sym (ltb_suc_suc (equal_place row (rows_of xs)) (length xs))))

pub rows_without : (row : ℕ) (es : List Entry) → has row es ≡ true → rows_of (without row es) ≡ out (equal_place row (rows_of es)) (rows_of es)
unfolding has without equal_place rows_of
rows_without row [] e = zero_one (cc)
rows_without row (x ∷ xs) e =
    split (eqb x.row row)
    (λ on. rw on)
    (λ off. rw off (ap (λ (ys : List ℕ). x.row ∷ ys) (rows_without row xs (rw off at e))))

pub counts_without : (row : ℕ) (es : List Entry) → has row es ≡ true → counts_of (without row es) ≡ out (equal_place row (rows_of es)) (counts_of es)
unfolding has without equal_place rows_of counts_of
counts_without row [] e = zero_one (cc)
counts_without row (x ∷ xs) e =
    split (eqb x.row row)
    (λ on. rw on)
    (λ off. rw off (ap (λ (ys : List ℕ). x.count ∷ ys) (counts_without row xs (rw off at e))))

pub rows_raised : (row : ℕ) (es : List Entry) → rows_of (raised row es) ≡ rows_of es
unfolding raised rows_of
rows_raised row [] = refl
rows_raised row (x ∷ xs) =
    split (eqb x.row row)
    (λ on. rw on)
    (λ off. rw off (ap (λ (ys : List ℕ). x.row ∷ ys) (rows_raised row xs)))

pub counts_raised : (row : ℕ) (es : List Entry) → counts_of (raised row es) ≡ set (counts_of es) (equal_place row (rows_of es)) (get_or (counts_of es) (equal_place row (rows_of es)) 0 + 1)
unfolding raised equal_place rows_of counts_of
counts_raised row [] = refl
counts_raised row (x ∷ xs) =
    split (eqb x.row row)
    (λ on. rw on)
    (λ off. rw off (ap (λ (ys : List ℕ). x.count ∷ ys) (counts_raised row xs)))

-- where a count stands first
pub has_count_place : (count : ℕ) (es : List Entry) → has_count count es ≡ ltb (equal_place count (counts_of es)) (length es)
unfolding has_count equal_place counts_of
has_count_place count [] = refl
has_count_place count (x ∷ xs) =
    split (eqb x.count count)
    (λ on. rw on (sym (ltb_zero_suc (length xs))))
    (λ off. rw off (has_count_place count xs ∙ sym (ltb_suc_suc (equal_place count (counts_of xs)) (length xs))))

pub rows_without_count : (count : ℕ) (es : List Entry) → has_count count es ≡ true → rows_of (without_count count es) ≡ out (equal_place count (counts_of es)) (rows_of es)
unfolding has_count without_count equal_place rows_of counts_of
rows_without_count count [] e = zero_one (cc)
rows_without_count count (x ∷ xs) e =
    split (eqb x.count count)
    (λ on. rw on)
    (λ off. rw off (ap (λ (ys : List ℕ). x.row ∷ ys) (rows_without_count count xs (rw off at e))))

pub counts_without_count : (count : ℕ) (es : List Entry) → has_count count es ≡ true → counts_of (without_count count es) ≡ out (equal_place count (counts_of es)) (counts_of es)
unfolding has_count without_count equal_place counts_of
counts_without_count count [] e = zero_one (cc)
counts_without_count count (x ∷ xs) e =
    split (eqb x.count count)
    (λ on. rw on)
    (λ off. rw off (ap (λ (ys : List ℕ). x.count ∷ ys) (counts_without_count count xs (rw off at e))))

-- where a row that is not tracked belongs
module _ {high : ℕ} (row count : ℕ) where
  pub rows_entered : {low : ℕ} {es : List Entry} → Ordered high low es → has row es ≡ false → rows_of (entered row count es) ≡ inside (lower_place row (rows_of es)) row (rows_of es)
  unfolding has entered lower_place rows_of
  rows_entered ordered_none e = refl
  rows_entered (ordered_more low x {xs} o l b) e =
      let parts = or_neither (eqb x.row row) (has row xs) e in
      let other = eqb-false x.row row parts.0 in
      split (ltb x.row row)
      (λ on.
      let less = ltb-true x.row row on in
      rw (on, le-ltb row x.row (omega arith)) (ap (λ (ys : List ℕ). x.row ∷ ys) (rows_entered o parts.1)))
      (λ off.
      let more = ltb-false x.row row off in
      rw (off, lt-ltb row x.row (omega arith)))

  pub counts_entered : {low : ℕ} {es : List Entry} → Ordered high low es → has row es ≡ false → counts_of (entered row count es) ≡ inside (lower_place row (rows_of es)) count (counts_of es)
  unfolding has entered lower_place rows_of counts_of
  counts_entered ordered_none e = refl
  counts_entered (ordered_more low x {xs} o l b) e =
      let parts = or_neither (eqb x.row row) (has row xs) e in
      let other = eqb-false x.row row parts.0 in
      split (ltb x.row row)
      (λ on.
      let less = ltb-true x.row row on in
      rw (on, le-ltb row x.row (omega arith)) (ap (λ (ys : List ℕ). x.count ∷ ys) (counts_entered o parts.1)))
      (λ off.
      let more = ltb-false x.row row off in
      rw (off, lt-ltb row x.row (omega arith)))

-- ascending rows
row_at : {high low : ℕ} {es : List Entry} → Ordered high low es → (i : ℕ) → i < length es → (low ≤ get_or (rows_of es) i 0) × (get_or (rows_of es) i 0 < high)
unfolding rows_of
row_at ordered_none i h = absurd (omega arith)
row_at (ordered_more low x o l b) zero h = (l, b)
row_at (ordered_more low x o l b) (suc i) h = let r = row_at o i (omega arith) in (omega (arith, r.0), r.1)

rising_from : {high low : ℕ} {es : List Entry} → Ordered high low es → (i j : ℕ) → i < j → j < length es → get_or (rows_of es) i 0 < get_or (rows_of es) j 0
unfolding rows_of
rising_from ordered_none i j h l = absurd (omega arith)
rising_from (ordered_more low x o lx b) i zero h l = absurd (omega arith)
rising_from (ordered_more low x o lx b) zero (suc j) h l = (row_at o j (omega arith)).0
rising_from (ordered_more low x o lx b) (suc i) (suc j) h l = rising_from o i j (omega arith) (omega arith)

pub rising_rows : {high low : ℕ} {es : List Entry} → Ordered high low es → Rising (rows_of es)
rising_rows {es = es} o = record { rise = λ i j h l. rising_from o i j h (omega (arith, length_rows es)) }

-- each row stands at its own place alone
pub equal_place_at : {high low : ℕ} {es : List Entry} → Ordered high low es → (i : ℕ) → i < length es → equal_place (get_or (rows_of es) i 0) (rows_of es) ≡ i
unfolding equal_place rows_of
equal_place_at ordered_none i h = absurd (omega arith)
equal_place_at (ordered_more low x o l b) zero h = rw (eq-eqb x.row x.row refl)
equal_place_at (ordered_more low x {xs} o l b) (suc i) h =
    let r = row_at o i (omega arith) in
    rw (ne_eqb x.row (get_or (rows_of xs) i 0) (λ q. omega (arith, r.0))) (ap suc (equal_place_at o i (omega arith)))

-- the first place of the highest count is the picked entry's
drop_step : (i : ℕ) (all : List Entry) (x : Entry) (xs : List Entry) → drop i all ≡ x ∷ xs → (i < length all) × (drop (suc i) all ≡ xs) × (get_or (rows_of all) i 0 ≡ x.row)
unfolding rows_of
drop_step zero [] x xs e = zero_one (cc)
drop_step zero (y ∷ ys) x xs e = (omega arith, cc, ap (λ (z : Entry). z.row) same)
  where
    same : y ≡ x
    same = cc
drop_step (suc i) [] x xs e = zero_one (cc)
drop_step (suc i) (y ∷ ys) x xs e = let r = drop_step i ys x xs e in (omega (arith, r.0), r.1, r.2)

highest_row : (all : List Entry) (place at : ℕ) (best : Entry) (rest : List Entry) → drop at all ≡ rest → place < length all → get_or (rows_of all) place 0 ≡ best.row → (highest_from place best.count at (counts_of rest) < length all) × (get_or (rows_of all) (highest_from place best.count at (counts_of rest)) 0 ≡ (top best rest).row)
unfolding highest_from counts_of top
highest_row all place at best [] d h e = (h, e)
highest_row all place at best (x ∷ xs) d h e =
    let s = drop_step at all x xs d in
    split (ltb best.count x.count)
    (λ on. rw on (highest_row all at (suc at) x xs s.1 s.0 s.2))
    (λ off. rw off (highest_row all place (suc at) best xs s.1 h e))

pub highest_place_top : (x : Entry) (xs : List Entry) → (highest_place (counts_of (x ∷ xs)) < length (x ∷ xs)) × (get_or (rows_of (x ∷ xs)) (highest_place (counts_of (x ∷ xs))) 0 ≡ (top x xs).row)
unfolding highest_place counts_of rows_of
highest_place_top x xs = highest_row (x ∷ xs) 0 1 x xs refl (omega arith) refl

-- whether a row is in a list, by its place there
pub in_rows_place : (row : ℕ) (xs : List ℕ) → in_rows row xs ≡ ltb (equal_place row xs) (length xs)
unfolding in_rows equal_place
in_rows_place row [] = refl
in_rows_place row (x ∷ xs) =
    split (eqb x row)
    (λ on. rw (on, ltb_zero_suc (length xs)))
    (λ off. rw (off, ltb_suc_suc (equal_place row xs) (length xs)) (in_rows_place row xs))
