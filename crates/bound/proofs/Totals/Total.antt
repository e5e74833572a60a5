-- Totals: only added to between equal sizes, monotone, longer for longer windows, smaller with more counters, and no more than what is added.
use mathlib.Core.Path.{◌≡◌, refl}
use Prim.Native.Nat.{ℕ, zero, suc, ◌+◌, ◌*◌, ◌/◌, ◌≤◌, ◌<◌}
use native.Mathlib.Nat.{add-zero, add-suc, zero-mul, mul-div_cancel, le_dest, le_trans, le_refl, mul-le-mul, mul-le-mul_left, mul-le-mul_right, mul_comm, mul_assoc, div-le_of_le-mul}
use native.Mathlib.Omega.{arith}
use Rattle.laws.proofs.Division.{div_mono, div_le_div}
use Rattle.bound.specs.Totals.{size, total}
use Rattle.bound.proofs.Totals.Size.{size_positive, size_ratio}

module _ (D : ℕ → ℕ) (added : ℕ) where
  pub total_next : (j t : ℕ) → total D added (suc j) t ≡ total D added j ((t + added) * D j / D (suc j))
  unfolding total
  total_next j t = refl

  -- steps between equal sizes only add
  pub total_flat : (d r k t : ℕ) → 0 < d → ((i : ℕ) → r ≤ i → D i ≡ d) → total D added (r + k) t ≡ total D added r (t + k * added)
  total_flat d r zero t positive same = rw (add-zero, zero-mul, add-zero)
  total_flat d r (suc k) t positive same =
      let first : r ≤ r + k = omega arith in
      let second : r ≤ suc (r + k) = omega arith in
      let sum : t + added + k * added ≡ t + suc k * added = omega arith in
      rw (add-suc, total_next (r + k) t, same (r + k) first, same (suc (r + k)) second, mul-div_cancel (t + added) positive)
      (rw sum at (total_flat d r k (t + added) positive same))

  total_mono : (j : ℕ) {t t' : ℕ} → t ≤ t' → total D added j t ≤ total D added j t'
  unfolding total
  total_mono zero h = h
  total_mono (suc j) {t} {t'} h =
      let sum : t + added ≤ t' + added = omega arith in
      total_mono j (div_mono (D (suc j)) (mul-le-mul_right (D j) sum))

  -- one more step lowers no total that starts from 0
  total_longer : (j : ℕ) → total D added j 0 ≤ total D added (suc j) 0
  unfolding total
  total_longer j = total_mono j (omega arith)

  total_further : (j k : ℕ) → total D added j 0 ≤ total D added (j + k) 0
  total_further j zero = rw add-zero (le_refl (total D added j 0))
  total_further j (suc k) = rw add-suc (le_trans (total_further j k) (total_longer (j + k)))

  pub total_grows : {j k : ℕ} → j ≤ k → total D added j 0 ≤ total D added k 0
  total_grows {j} {k} h = let d = le_dest h in rw d.1 at (total_further j d.0)

  module _ (grows : (j : ℕ) → D j ≤ D (suc j)) where
    -- a step adds no more than what is added before it rounds
    pub step_le : (j t : ℕ) → (t + added) * D j / D (suc j) ≤ t + added
    step_le j t = div-le_of_le-mul (D (suc j)) (rw (mul_comm (D (suc j)) (t + added)) (mul-le-mul_left (t + added) (grows j)))

    pub total_le : (j t : ℕ) → total D added j t ≤ t + j * added
    unfolding total
    total_le zero t = omega arith
    total_le (suc j) t = omega (arith, total_le j ((t + added) * D j / D (suc j)), step_le j t)

-- with more counters no total is higher
pub total_counters : (v added : ℕ) {c c' : ℕ} → c ≤ c' → (j : ℕ) {t t' : ℕ} → t' ≤ t → total (size v c') added j t' ≤ total (size v c) added j t
unfolding total
total_counters v added h zero lower = lower
total_counters v added {c} {c'} h (suc j) {t} {t'} lower =
    let sum : t' + added ≤ t + added = omega arith in
    let lifted : (t' + added) * (size v c' j * size v c (suc j)) ≤ (t + added) * (size v c j * size v c' (suc j)) =
    mul-le-mul sum (size_ratio v c c' j h) in
    total_counters v added h j
    (div_le_div
    ((t' + added) * size v c' j)
    (size v c' (suc j))
    ((t + added) * size v c j)
    (size v c (suc j))
    (size_positive v c' (suc j))
    (size_positive v c (suc j))
    (rw (mul_assoc, mul_assoc) lifted))
