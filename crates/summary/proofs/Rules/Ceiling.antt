-- Counts that are nowhere above a number, through every step on the entries.
use mathlib.Core.List.{List, [], ◌∷◌}
use Prim.Native.Nat.{ℕ, zero, suc, ◌+◌, ◌≤◌, ◌<◌}
use native.Mathlib.Omega.{arith}
use lib.Dec.{eqb, ltb}
use lib.ListN.{length, get_or}
use Rattle.laws.proofs.Cases.{split}
use Rattle.summary.specs.Entries.{Entry, counts_of, without, without_all, raised, entered, without_count}
use Rattle.summary.specs.Rules.{Ceiling, bare, under}

pub ceiling_higher : {high high' : ℕ} {es : List Entry} → Ceiling high es → high ≤ high' → Ceiling high' es
ceiling_higher bare h = bare
ceiling_higher (under x c l) h = under x (ceiling_higher c h) (omega arith)

-- a disturbance raises no count by more than 1, and a drop none
module _ {high : ℕ} where
  pub ceiling_raised : (row : ℕ) {es : List Entry} → Ceiling high es → Ceiling (high + 1) (raised row es)
  unfolding raised
  ceiling_raised row bare = bare
  ceiling_raised row (under x c l) =
      split (eqb x.row row)
      (λ on. rw on (under (record { row = x.row; count = x.count + 1 }) (ceiling_higher c (omega arith)) (omega arith)))
      (λ off. rw off (under x (ceiling_raised row c) (omega arith)))

  pub ceiling_entered : (row count : ℕ) {es : List Entry} → Ceiling high es → count ≤ high → Ceiling high (entered row count es)
  unfolding entered
  ceiling_entered row count bare h = under (record { row = row; count = count }) bare h
  ceiling_entered row count (under x c l) h =
      split (ltb row x.row)
      (λ on. rw on (under (record { row = row; count = count }) (under x c l) h))
      (λ off. rw off (under x (ceiling_entered row count c h) l))

  pub ceiling_without_count : (count : ℕ) {es : List Entry} → Ceiling high es → Ceiling high (without_count count es)
  unfolding without_count
  ceiling_without_count count bare = bare
  ceiling_without_count count (under x c l) =
      split (eqb x.count count) (λ on. rw on c) (λ off. rw off (under x (ceiling_without_count count c) l))

  ceiling_without : (row : ℕ) {es : List Entry} → Ceiling high es → Ceiling high (without row es)
  unfolding without
  ceiling_without row bare = bare
  ceiling_without row (under x c l) =
      split (eqb x.row row) (λ on. rw on c) (λ off. rw off (under x (ceiling_without row c) l))

  pub ceiling_without_all : (rows : List ℕ) {es : List Entry} → Ceiling high es → Ceiling high (without_all rows es)
  unfolding without_all
  ceiling_without_all [] c = c
  ceiling_without_all (row ∷ rows) c = ceiling_without_all rows (ceiling_without row c)

  pub count_le : {es : List Entry} → Ceiling high es → (i : ℕ) → i < length es → get_or (counts_of es) i 0 ≤ high
  unfolding counts_of
  count_le bare i h = absurd (omega arith)
  count_le (under x c l) zero h = l
  count_le (under x c l) (suc i) h = count_le c i (omega arith)
