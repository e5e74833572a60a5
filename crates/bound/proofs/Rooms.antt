-- The room: what a total has to be below before its last steps so that it ends below a number. Between two multiples of V the
-- steps before are flat, and whether a count's total ends below the number is one comparison of products.
use mathlib.Core.Path.{◌≡◌, refl, ◌∙◌}
use mathlib.Core.Bool.{false}
use Prim.Native.Nat.{ℕ, zero, suc, ◌+◌, ◌-◌, ◌*◌, ◌/◌, ◌≤◌, ◌<◌}
use native.Mathlib.Nat.{zero-mul, add-zero, mul-pos, mul-le-mul_right, lt_of_mul-lt-mul_right, div-lt_iff_lt-mul, le_trans}
use native.Mathlib.Omega.{arith}
use lib.Dec.{ltb}
use borrow.Author.Tests.{ltb-false, le-ltb}
use Rattle.laws.proofs.Cases.{tests_same}
use Rattle.laws.proofs.Division.{below_rounded_up, below_product}
use Rattle.bound.specs.Totals.{size, total}
use Rattle.bound.proofs.Totals.Size.{size_rising, size_flat}
use Rattle.bound.proofs.Totals.Total.{total_next, total_grows}
use Rattle.bound.proofs.Totals.Flat.{flat_steps}

-- a step undone: x × at / e, rounded down, is below w exactly if x is below w × e / at, rounded up
step_below : (t added at e w : ℕ) → 0 < at → 0 < e → ltb ((t + added) * at / e) w ≡ ltb t ((w * e + (at - 1)) / at - added)
step_below t added at e w low high =
    tests_same ((t + added) * at / e) w t ((w * e + (at - 1)) / at - added)
    (λ h. omega (arith, below_rounded_up low ((div-lt_iff_lt-mul high).0 h)))
    (λ h. let sum : t + added < (w * e + (at - 1)) / at = omega arith in (div-lt_iff_lt-mul high).1 (below_product low sum))

-- what a sum has to be below before a step from the size at + V to the size `at`, so that the step ends below the room
unfoldable pub room_before : ℕ → ℕ → ℕ → ℕ
room_before v rest at = (rest * (at + v) + (at - 1)) / at

module _ (v added : ℕ) where
  -- what a total has to be below before its last m steps, none of them cut, so that it ends below w
  unfoldable pub room : ℕ → ℕ → ℕ
  room zero w = w
  room (suc m) w = room_before v (room m w) (m * v + 1) - added

  rooms : (D : ℕ → ℕ) (m : ℕ) → ((j : ℕ) → j ≤ m → D j ≡ j * v + 1) → (t w : ℕ) → ltb (total D added m t) w ≡ ltb t (room m w)
  unfolding total room room_before
  rooms D zero sizes t w = refl
  rooms D (suc m) sizes t w =
      let lower : D m ≡ m * v + 1 = sizes m (omega arith) in
      let upper : D (suc m) ≡ m * v + 1 + v = sizes (suc m) (omega arith) ∙ (omega arith) in
      rw (lower, upper)
      (rooms D m (λ j h. sizes j (omega arith)) ((t + added) * (m * v + 1) / (m * v + 1 + v)) w
      ∙ step_below t added (m * v + 1) (m * v + 1 + v) (room m w) (omega arith) (omega arith))

  -- the sizes of C = c up to m, where c is at least m × V
  uncut : (c m : ℕ) → m * v ≤ c → (j : ℕ) → j ≤ m → size v c j ≡ j * v + 1
  uncut c m h j few = size_rising v c j (le_trans (mul-le-mul_right v few) h)

  -- of the counts between m × V and (m + 1) × V, those whose total ends below w: what is added before the last m steps, times
  -- the size at m, is below the room times C + 1
  pub class_test : (c m k w : ℕ) → m * v ≤ c → c ≤ suc m * v →
      ltb (total (size v c) added (m + k) 0) w ≡ ltb (k * added * (m * v + 1)) (room m w * (c + 1))
  class_test c m zero w low high =
      rw (add-zero, zero-mul, zero-mul)
      (rooms (size v c) m (uncut c m low) 0 w
      ∙ tests_same 0 (room m w) 0 (room m w * (c + 1)) (λ h. mul-pos h (omega arith)) (λ h. lt_of_mul-lt-mul_right (c + 1) (rw zero-mul h)))
  class_test c m (suc k) w low high =
      let lower : size v c m ≡ m * v + 1 = size_rising v c m low in
      let upper : size v c (suc m) ≡ c + 1 = size_flat v c (suc m) high in
      let shifted : m + suc k ≡ suc m + k = omega arith in
      let sum : k * added + added ≡ suc k * added = omega arith in
      rw (shifted, flat_steps v c added (suc m) k high, total_next (size v c) added m (k * added), lower, upper, sum)
      (rooms (size v c) m (uncut c m low) (suc k * added * (m * v + 1) / (c + 1)) w
      ∙ tests_same (suc k * added * (m * v + 1) / (c + 1)) (room m w) (suc k * added * (m * v + 1)) (room m w * (c + 1))
      (div-lt_iff_lt-mul (omega arith)).0
      (div-lt_iff_lt-mul (omega arith)).1)

  -- no room: no count from m × V on has a total that ends below w
  pub no_room : (c m k w : ℕ) → m * v ≤ c → room m w ≡ 0 → ltb (total (size v c) added (m + k) 0) w ≡ false
  no_room c m k w low none =
      let few : m ≤ m + k = omega arith in
      let off : ltb (total (size v c) added m 0) w ≡ false = rw none at (rooms (size v c) m (uncut c m low) 0 w) in
      le-ltb (total (size v c) added (m + k) 0) w (le_trans (ltb-false (total (size v c) added m 0) w off) (total_grows (size v c) added few))
