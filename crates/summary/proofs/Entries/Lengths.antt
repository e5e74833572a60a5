-- How many entries the operations leave, and how long their columns are.
use mathlib.Core.Path.{◌≡◌, refl, ap, sym}
use mathlib.Core.Bool.{true}
use mathlib.Core.List.{List, [], ◌∷◌}
use Prim.Native.Nat.{ℕ, suc, ◌≤◌}
use native.Mathlib.Omega.{arith}
use lib.Dec.{eqb, ltb}
use lib.ListN.{length}
use Rattle.laws.proofs.Cases.{split, zero_one, clash}
use Rattle.summary.specs.Entries.{Entry, has, without, without_all, raised, entered, has_count, without_count, rows_of, counts_of}

pub length_raised : (row : ℕ) (es : List Entry) → length (raised row es) ≡ length es
unfolding raised
length_raised row [] = refl
length_raised row (x ∷ xs) = split (eqb x.row row) (λ e. rw e) (λ e. rw e (ap suc (length_raised row xs)))

pub length_entered : (row count : ℕ) (es : List Entry) → length (entered row count es) ≡ suc (length es)
unfolding entered
length_entered row count [] = refl
length_entered row count (x ∷ xs) = split (ltb row x.row) (λ e. rw e) (λ e. rw e (ap suc (length_entered row count xs)))

pub length_without_count : (count : ℕ) (es : List Entry) → has_count count es ≡ true → suc (length (without_count count es)) ≡ length es
unfolding has_count without_count
length_without_count count [] e = zero_one (cc)
length_without_count count (x ∷ xs) e =
    split (eqb x.count count) (λ on. rw on) (λ off. rw off (ap suc (length_without_count count xs (rw off at e))))

length_without : (row : ℕ) (es : List Entry) → length (without row es) ≤ length es
unfolding without
length_without row [] = omega arith
length_without row (x ∷ xs) = split (eqb x.row row) (λ e. rw e (omega arith)) (λ e. rw e (omega (arith, length_without row xs)))

pub length_without_all : (rows : List ℕ) (es : List Entry) → length (without_all rows es) ≤ length es
unfolding without_all
length_without_all [] es = omega arith
length_without_all (row ∷ rows) es = omega (arith, length_without row es, length_without_all rows (without row es))

pub length_without_tracked : (row : ℕ) (es : List Entry) → has row es ≡ true → suc (length (without row es)) ≡ length es
unfolding has without
length_without_tracked row [] e = clash (sym e)
length_without_tracked row (x ∷ xs) e =
    split (eqb x.row row) (λ on. rw on) (λ off. rw off (ap suc (length_without_tracked row xs (rw off at e))))

pub length_rows : (es : List Entry) → length (rows_of es) ≡ length es
unfolding rows_of
length_rows [] = refl
length_rows (x ∷ xs) = ap suc (length_rows xs)

pub length_counts : (es : List Entry) → length (counts_of es) ≡ length es
unfolding counts_of
length_counts [] = refl
length_counts (x ∷ xs) = ap suc (length_counts xs)
