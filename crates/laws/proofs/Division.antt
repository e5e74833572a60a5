-- Division and order: rounded down it keeps the order, rounded up it is what a factor is below.
use Prim.Native.Nat.{ℕ, zero, suc, ◌+◌, ◌-◌, ◌*◌, ◌/◌, ◌≤◌, ◌<◌}
use native.Mathlib.Nat.{div-zero, le-div_iff_mul-le, div-mul-le_self, le_trans, le_refl, mul-le-mul_right, mul_right_comm, le_of_mul-le-mul_right, zero-lt-suc}
use native.Mathlib.Omega.{arith}

pub div_mono : (k : ℕ) {a b : ℕ} → a ≤ b → a / k ≤ b / k
div_mono zero {a} {b} h = rw (div-zero a, div-zero b) (le_refl 0)
div_mono (suc k) {a} {b} h = (le-div_iff_mul-le (zero-lt-suc k)).1 (le_trans (div-mul-le_self a (suc k)) h)

-- a / b ≤ c / d, rounded down, where a × d ≤ c × b
pub div_le_div : (a b c d : ℕ) → 0 < b → 0 < d → a * d ≤ c * b → a / b ≤ c / d
div_le_div a b c d hb hd h =
    let floor : a / b * b * d ≤ a * d = mul-le-mul_right d (div-mul-le_self a b) in
    let swapped : a / b * d * b ≤ c * b = rw mul_right_comm (le_trans floor h) in
    (le-div_iff_mul-le hd).1 (le_of_mul-le-mul_right swapped hb)

-- x × k < y exactly if x is below y / k rounded up
pub below_rounded_up : {x y k : ℕ} → 0 < k → x * k < y → x < (y + (k - 1)) / k
below_rounded_up {x} {y} {k} positive h =
    let scaled : suc x * k ≤ y + (k - 1) = omega arith in
    omega (arith, (le-div_iff_mul-le positive).1 scaled)

pub below_product : {x y k : ℕ} → 0 < k → x < (y + (k - 1)) / k → x * k < y
below_product {x} {y} {k} positive h =
    let next : suc x ≤ (y + (k - 1)) / k = h in
    omega (arith, (le-div_iff_mul-le positive).0 next)
