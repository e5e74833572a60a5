-- Counts that are nowhere below a number, through every step on the entries.
use mathlib.Core.Path.{◌≡◌}
use mathlib.Core.Bool.{false}
use mathlib.Core.List.{List, [], ◌∷◌}
use Prim.Native.Nat.{ℕ, suc, ◌+◌, ◌≤◌}
use native.Mathlib.Omega.{arith}
use borrow.Author.Tests.{eqb-false}
use lib.Dec.{eqb, ltb}
use Rattle.laws.proofs.Cases.{split, or_neither}
use Rattle.summary.specs.Rules.{Floor, floor_none, floor_more}
use Rattle.summary.specs.Entries.{Entry, without, without_all, raised, entered, has_count, without_count}

pub floor_parts : {low : ℕ} {x : Entry} {xs : List Entry} → Floor low (x ∷ xs) → (low ≤ x.count) × Floor low xs
floor_parts (floor_more x f l) = (l, f)

pub floor_lower : {low low' : ℕ} {es : List Entry} → low' ≤ low → Floor low es → Floor low' es
floor_lower h floor_none = floor_none
floor_lower h (floor_more x f l) = floor_more x (floor_lower h f) (omega arith)

module _ {low : ℕ} where
  floor_without : (row : ℕ) {es : List Entry} → Floor low es → Floor low (without row es)
  unfolding without
  floor_without row floor_none = floor_none
  floor_without row (floor_more x {xs} f l) = split (eqb x.row row) (λ e. rw e f) (λ e. rw e (floor_more x (floor_without row f) l))

  pub floor_without_all : (rows : List ℕ) {es : List Entry} → Floor low es → Floor low (without_all rows es)
  unfolding without_all
  floor_without_all [] f = f
  floor_without_all (row ∷ rows) f = floor_without_all rows (floor_without row f)

  pub floor_raised : (row : ℕ) {es : List Entry} → Floor low es → Floor low (raised row es)
  unfolding raised
  floor_raised row floor_none = floor_none
  floor_raised row (floor_more x {xs} f l) =
      split (eqb x.row row)
      (λ e. rw e (floor_more (record { row = x.row; count = x.count + 1 }) f (omega arith)))
      (λ e. rw e (floor_more x (floor_raised row f) l))

  pub floor_entered : (row count : ℕ) {es : List Entry} → Floor low es → low ≤ count → Floor low (entered row count es)
  unfolding entered
  floor_entered row count floor_none h = floor_more (record { row = row; count = count }) floor_none h
  floor_entered row count (floor_more x {xs} f l) h =
      split (ltb row x.row)
      (λ e. rw e (floor_more (record { row = row; count = count }) (floor_more x f l) h))
      (λ e. rw e (floor_more x (floor_entered row count f h) l))

  pub floor_without_count : (count : ℕ) {es : List Entry} → Floor low es → Floor low (without_count count es)
  unfolding without_count
  floor_without_count count floor_none = floor_none
  floor_without_count count (floor_more x {xs} f l) =
      split (eqb x.count count) (λ e. rw e f) (λ e. rw e (floor_more x (floor_without_count count f) l))

  -- where no count is at the floor, the floor is one higher
  pub floor_rises : {es : List Entry} → Floor low es → has_count low es ≡ false → Floor (suc low) es
  unfolding has_count
  floor_rises floor_none e = floor_none
  floor_rises (floor_more x {xs} f l) e =
      let parts = or_neither (eqb x.count low) (has_count low xs) e in
      let other = eqb-false x.count low parts.0 in
      floor_more x (floor_rises f parts.1) (omega arith)
