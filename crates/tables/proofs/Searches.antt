-- The searches: what one place more says of the place that is looked for, and where a number of ascending ones stands.
use mathlib.Core.Path.{◌≡◌, refl, ap, sym}
use mathlib.Core.Bool.{cond}
use mathlib.Core.List.{List, [], ◌∷◌}
use Prim.Native.Nat.{ℕ, zero, suc, ◌+◌, ◌≤◌, ◌<◌}
use native.Mathlib.Numerals.{add-one}
use native.Mathlib.Omega.{arith}
use borrow.Author.Tests.{ltb-true, ltb-false, lt-ltb, le-ltb, eq-eqb, ne_eqb}
use lib.Dec.{ltb}
use lib.ListN.{length, get_or, drop}
use lib.Seq.{drop-cons}
use lib.Arith.{lt_of_le-ne}
use mathlib.Core.Logic.{⊎_elim}
use Rattle.std.specs.List.Sorted.{IsPartitionedBy}
use Rattle.std.proofs.lemmas.Grind.{get_or_default_zero}
use Rattle.laws.proofs.Cases.{split, le_or_lt}
use Rattle.tables.specs.InnerContracts.{lower_place, equal_place, highest_from, highest_place, Rising}

pub equal_place_hit : (x y : ℕ) (ys : List ℕ) → y ≡ x → equal_place x (y ∷ ys) ≡ 0
unfolding equal_place
equal_place_hit x y ys e = rw (eq-eqb y x e)

pub equal_place_miss : (x y : ℕ) (ys : List ℕ) → (y ≡ x → ⊥) → equal_place x (y ∷ ys) ≡ equal_place x ys + 1
unfolding equal_place
equal_place_miss x y ys e = rw (ne_eqb y x e, add-one) refl

-- the same at a place of a list
pub equal_place_here : (x : ℕ) (xs : List ℕ) (i : ℕ) → i < length xs → get_or xs i 0 ≡ x → equal_place x (drop i xs) ≡ 0
equal_place_here x xs i h e = rw (drop-cons xs i 0 h) (equal_place_hit x (get_or xs i 0) (drop (suc i) xs) e)

pub equal_place_next : (x : ℕ) (xs : List ℕ) (i : ℕ) → i < length xs → (get_or xs i 0 ≡ x → ⊥) → equal_place x (drop i xs) ≡ suc (equal_place x (drop (i + 1) xs))
unfolding equal_place
equal_place_next x xs i h e = rw (drop-cons xs i 0 h, ne_eqb (get_or xs i 0) x e, add-one) refl

pub lower_place_le : (x : ℕ) (xs : List ℕ) → lower_place x xs ≤ length xs
unfolding lower_place
lower_place_le x [] = omega arith
lower_place_le x (y ∷ ys) = split (ltb y x) (λ on. rw on (omega (arith, lower_place_le x ys))) (λ off. rw off (omega arith))

-- what stands before the place is below x
pub lower_before : (x : ℕ) (xs : List ℕ) (j : ℕ) → j < lower_place x xs → get_or xs j 0 < x
unfolding lower_place
lower_before x [] j h = absurd (omega arith)
lower_before x (y ∷ ys) zero h = split (ltb y x) (λ on. ltb-true y x on) (λ off. let none = rw off at h in absurd (omega arith))
lower_before x (y ∷ ys) (suc j) h =
    split (ltb y x) (λ on. let more = rw on at h in lower_before x ys j (omega arith)) (λ off. let none = rw off at h in absurd (omega arith))

-- what stands at the place is not below x
pub lower_at : (x : ℕ) (xs : List ℕ) → lower_place x xs < length xs → x ≤ get_or xs (lower_place x xs) 0
unfolding lower_place
lower_at x [] h = absurd (omega arith)
lower_at x (y ∷ ys) h =
    split (ltb y x) (λ on. let more = rw on at h in rw on (lower_at x ys (omega arith))) (λ off. rw off (ltb-false y x off))

pub highest_place_start : (xs : List ℕ) → 0 < length xs → highest_from 0 (get_or xs 0 0) 1 (drop 1 xs) ≡ highest_place xs
unfolding highest_place
highest_place_start [] h = absurd (omega arith)
highest_place_start (y ∷ ys) h = refl

pub highest_from_next : (xs : List ℕ) (place best i : ℕ) → i < length xs →
    highest_from place best i (drop i xs) ≡
    cond (ltb best (get_or xs i 0)) (highest_from i (get_or xs i 0) (i + 1) (drop (i + 1) xs)) (highest_from place best (i + 1) (drop (i + 1) xs))
unfolding highest_from
highest_from_next xs place best i h = rw (drop-cons xs i 0 h, add-one) refl

-- among ascending numbers, a number stands where it belongs, or equal-place-above
rising_tail : {x : ℕ} {xs : List ℕ} → Rising (x ∷ xs) → Rising xs
rising_tail r = record { rise = λ i j h l. r.rise (suc i) (suc j) (omega arith) (omega arith) }

pub equal_place_found : (row : ℕ) (xs : List ℕ) → lower_place row xs < length xs → get_or xs (lower_place row xs) 0 ≡ row → equal_place row xs ≡ lower_place row xs
unfolding lower_place equal_place
equal_place_found row [] h e = refl
equal_place_found row (x ∷ xs) h e =
    split (ltb x row)
    (λ on.
    let less = ltb-true x row on in
    rw (on, ne_eqb x row (λ q. omega arith)) (ap suc (equal_place_found row xs (omega (arith, rw on at h)) (rw on at e))))
    (λ off. rw (off, eq-eqb x row (rw off at e)))

equal_place_above : (row : ℕ) (xs : List ℕ) → ((i : ℕ) → i < length xs → row < get_or xs i 0) → equal_place row xs ≡ length xs
unfolding equal_place
equal_place_above row [] above = refl
equal_place_above row (x ∷ xs) above =
    let first : row < x = above 0 (omega arith) in
    rw (ne_eqb x row (λ q. omega arith)) (ap suc (equal_place_above row xs (λ i h. above (suc i) (omega arith))))

pub equal_place_missing : (row : ℕ) (xs : List ℕ) → Rising xs → (lower_place row xs < length xs → get_or xs (lower_place row xs) 0 ≡ row → ⊥) → equal_place row xs ≡ length xs
unfolding lower_place equal_place
equal_place_missing row [] r no_match = refl
equal_place_missing row (x ∷ xs) r no_match =
    split (ltb x row)
    (λ on.
    let less = ltb-true x row on in
    rw (ne_eqb x row (λ q. omega arith))
    (ap suc (equal_place_missing row xs (rising_tail r) (λ h e. (rw on at no_match) (omega arith) e))))
    (λ off.
    let more = ltb-false x row off in
    let other : x ≡ row → ⊥ = (rw off at no_match) (omega arith) in
    let above : row < x = lt_of_le-ne more (λ q. other (sym q)) in
    rw (ne_eqb x row other) (ap suc (equal_place_above row xs (λ i h. omega (arith, r.rise 0 (suc i) (omega arith) (omega arith))))))

-- a place with every number before it below x, and none below x at it, is where x belongs
pub lower_place_is : (x : ℕ) (xs : List ℕ) (i : ℕ) → i ≤ length xs → ((k : ℕ) → k < i → get_or xs k 0 < x) → (i < length xs → x ≤ get_or xs i 0) → i ≡ lower_place x xs
unfolding lower_place
lower_place_is x [] zero l before at = refl
lower_place_is x [] (suc i) l before at = absurd (omega arith)
lower_place_is x (y ∷ ys) zero l before at = rw (le-ltb y x (at (omega arith)))
lower_place_is x (y ∷ ys) (suc i) l before at = rw (lt-ltb y x (before 0 (omega arith))) (ap suc (lower_place_is x ys i (omega arith) (λ k h. before (suc k) (omega arith)) (λ h. at (omega arith))))

-- ascending numbers are parted by x
pub parted_below : (x : ℕ) (xs : List ℕ) → Rising xs → IsPartitionedBy (λ y. ltb y x) xs
parted_below x xs r i j d h l below =
    let here : get_or xs j 0 < x = rw (get_or_default_zero xs j d l) at (ltb-true _ _ below) in
    rw (get_or_default_zero xs i d (omega arith))
    (lt-ltb (get_or xs i 0) x (⊎_elim (λ (same : j ≤ i). let one : i ≡ j = omega arith in rw one here) (λ (up : i < j). omega (arith, r.rise i j up l)) (le_or_lt j i)))
