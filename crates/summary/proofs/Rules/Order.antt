-- The tracked rows ascend below the bank's end, through every step on the entries; so no row is tracked twice.
use mathlib.Core.Path.{◌≡◌, ap}
use mathlib.Core.Bool.{false}
use mathlib.Core.Logic.{⊎_elim}
use mathlib.Core.List.Memᴰ
use mathlib.Core.List.{List, [], ◌∷◌, Memᴰ}
use Prim.Native.Nat.{ℕ, suc, ◌+◌, ◌≤◌, ◌<◌}
use native.Mathlib.Omega.{arith}
use borrow.Author.Tests.{eqb-false, ltb-true, ltb-false}
use lib.Dec.{eqb, ltb}
use Rattle.laws.proofs.Cases.{split, or_neither}
use Rattle.summary.specs.Entries.{Entry, has, without, without_all, raised, entered, without_count}
use Rattle.summary.specs.Rules.{Ordered, ordered_none, ordered_more}

pub ordered_from : {high low : ℕ} (low' : ℕ) {es : List Entry} → Ordered high low es → low' ≤ low → Ordered high low' es
ordered_from low' ordered_none h = ordered_none
ordered_from low' (ordered_more low x o l b) h = ordered_more low' x o (omega arith) b

pub ordered_parts : {high low : ℕ} {x : Entry} {xs : List Entry} → Ordered high low (x ∷ xs) → Ordered high (suc x.row) xs × (low ≤ x.row)
ordered_parts (ordered_more low x o l b) = (o, l)

module _ {high : ℕ} where
  pub ordered_without : (row : ℕ) {low : ℕ} {es : List Entry} → Ordered high low es → Ordered high low (without row es)
  unfolding without
  ordered_without row ordered_none = ordered_none
  ordered_without row (ordered_more low x {xs} o l b) =
      split (eqb x.row row) (λ e. rw e (ordered_from low o (omega arith))) (λ e. rw e (ordered_more low x (ordered_without row o) l b))

  pub ordered_without_all : (rows : List ℕ) {low : ℕ} {es : List Entry} → Ordered high low es → Ordered high low (without_all rows es)
  unfolding without_all
  ordered_without_all [] o = o
  ordered_without_all (row ∷ rows) o = ordered_without_all rows (ordered_without row o)

  pub ordered_raised : (row : ℕ) {low : ℕ} {es : List Entry} → Ordered high low es → Ordered high low (raised row es)
  unfolding raised
  ordered_raised row ordered_none = ordered_none
  ordered_raised row (ordered_more low x {xs} o l b) =
      split (eqb x.row row)
      (λ e. rw e (ordered_more low (record { row = x.row; count = x.count + 1 }) o l b))
      (λ e. rw e (ordered_more low x (ordered_raised row o) l b))

  pub ordered_without_count : (count : ℕ) {low : ℕ} {es : List Entry} → Ordered high low es → Ordered high low (without_count count es)
  unfolding without_count
  ordered_without_count count ordered_none = ordered_none
  ordered_without_count count (ordered_more low x {xs} o l b) =
      split (eqb x.count count)
      (λ e. rw e (ordered_from low o (omega arith)))
      (λ e. rw e (ordered_more low x (ordered_without_count count o) l b))

  -- a row that is not tracked is entered in its place
  pub ordered_entered : (row count : ℕ) {low : ℕ} {es : List Entry} → Ordered high low es → has row es ≡ false → low ≤ row → row < high → Ordered high low (entered row count es)
  unfolding entered has
  ordered_entered row count {low} ordered_none e l b = ordered_more low (record { row = row; count = count }) ordered_none l b
  ordered_entered row count (ordered_more low x {xs} o lx bx) e l b =
      let parts = or_neither (eqb x.row row) (has row xs) e in
      let other = eqb-false x.row row parts.0 in
      split (ltb row x.row)
      (λ t.
      let before = ltb-true row x.row t in
      rw t (ordered_more low (record { row = row; count = count }) (ordered_more (suc row) x o before bx) l b))
      (λ t.
      let behind = ltb-false row x.row t in
      rw t (ordered_more low x (ordered_entered row count o parts.1 (omega arith) b) lx bx))

-- a tracked row is in the range
pub ordered_member : {high low : ℕ} {es : List Entry} → Ordered high low es → (x : Entry) → Memᴰ x es → (low ≤ x.row) × (x.row < high)
ordered_member ordered_none x m = absurd (Memᴰ.not-nil m)
ordered_member (ordered_more low y o l b) x m =
    ⊎_elim
    (λ e. let same = ap (λ (z : Entry). z.row) e in omega arith)
    (λ later. let r = ordered_member o x later in omega arith)
    (Memᴰ.cases_cons m)
