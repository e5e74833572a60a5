-- The room times V over the size, rounded up, kept from size to size: what is taken from the room is divided in its stead.
use mathlib.Core.Path.{◌≡◌}
use Prim.Native.Nat.{ℕ, suc, ◌+◌, ◌-◌, ◌*◌, ◌/◌, ◌%◌, ◌^◌, ◌≤◌, ◌<◌}
use native.Mathlib.Nat.{le_trans, mul-add, add-mul, mul-le-mul, mul-le-mul_right, le-mul_of_pos_right, le_of_mul-le-mul_right, div-mul-le_self, div-add-mod', div-eq_of_lt-le}
use native.Mathlib.Omega.{arith}
use Rattle.bound.proofs.Rooms.{room_before}

-- a quotient rounded up, and what the rounding added
pub record Shared (v rest at q o : ℕ) : Type 0 where
  pub exact : q * at ≡ rest * v + o
  pub small : o < at

pub share_begins : (v w : ℕ) → Shared v w 1 (w * v) 0
share_begins v w = record { exact = omega arith; small = omega arith }

-- the room before the next step
pub shared_room : {v rest at q o : ℕ} → Shared v rest at q o → room_before v rest at ≡ rest + q
unfolding room_before
shared_room {v} {rest} {at} {q} {o} s =
    let wide = mul-add rest at v in
    let sum = add-mul rest q at in
    let next = add-mul (rest + q) 1 at in
    div-eq_of_lt-le at (omega (arith, s.exact, s.small)) (omega (arith, s.exact, s.small))

pub share_small : {v rest at q o : ℕ} → Shared v rest at q o → rest < 2 ^ 29 → v ≤ 16 → at ≤ 4096 → q < 2 ^ 34
share_small {v} {rest} {at} {q} s few narrow low =
    let rest' : rest ≤ 536870912 = omega arith in
    let whole : q ≤ q * at = le-mul_of_pos_right q (omega (arith, s.small)) in
    omega (arith, s.exact, s.small, mul-le-mul rest' narrow)

module _ {v rest at q o a : ℕ} (s : Shared v rest at q o) (enough : a ≤ rest + q) where
  pub share_enough : a * v + o ≤ q * (at + v)
  share_enough =
      let wide = mul-add q at v in
      let sum = add-mul rest q v in
      omega (arith, s.exact, mul-le-mul_right v enough)

  pub share_next : (q' o' : ℕ) → q' * (at + v) + (a * v + o) ≡ q * (at + v) + o' → o' < at + v → Shared v (rest + q - a) (at + v) q' o'
  share_next q' o' told low =
      let wide = mul-add q at v in
      let sum = add-mul rest q v in
      let whole : rest + q - a + a ≡ rest + q = omega arith in
      let taken : (rest + q - a) * v + a * v ≡ (rest + q) * v = rw (← add-mul (rest + q - a) a v, whole) in
      record { exact = omega (arith, s.exact); small = low }

-- a product less some number: that number's quotient is taken from the quotient, and one more where its remainder and what the rounding had added fill the size
module _ (q less at o : ℕ) (positive : 0 < at) (enough : less + o ≤ q * at) where
  pub less_quotient : less / at ≤ q
  less_quotient = le_of_mul-le-mul_right (le_trans (div-mul-le_self less at) (omega arith)) positive

  pub less_one : at ≤ o + less % at → 1 ≤ q - less / at
  less_one full =
      let scaled : suc (less / at) * at ≤ q * at = omega (arith, div-add-mod' less at) in
      omega (arith, le_of_mul-le-mul_right scaled positive)

  -- what is taken off and what is left
  parts : (p : ℕ) → p ≤ q → (q - p) * at + p * at ≡ q * at
  parts p h = let whole : q - p + p ≡ q = omega arith in rw (← add-mul (q - p) p at, whole)

  pub less_within : (q - less / at) * at + (less + o) ≡ q * at + (o + less % at)
  less_within = omega (arith, parts (less / at) less_quotient, div-add-mod' less at)

  pub less_over : at ≤ o + less % at → (q - less / at - 1) * at + (less + o) ≡ q * at + (o + less % at - at)
  less_over full =
      let most = less_one full in
      let left : q - less / at - 1 ≡ q - suc (less / at) = omega arith in
      let off = parts (suc (less / at)) (omega arith) in
      rw left (omega (arith, div-add-mod' less at))
