-- Where the sizes stop rising: the steps between sizes C + 1 come first, and the total of all steps is that of the others from what those add.
use mathlib.Core.Path.{◌≡◌, refl, sym}
use mathlib.Core.Logic.{⊎_elim}
use Prim.Native.Nat.{ℕ, suc, ◌+◌, ◌-◌, ◌*◌, ◌≤◌, ◌<◌, min}
use native.Mathlib.Nat.{zero-mul, le_trans, mul-le-mul_right}
use Rattle.std.specs.Int.{div_ceil}
use Rattle.std.proofs.lemmas.Grind.{div_ceil_times}
use native.Mathlib.Omega.{arith}
use Rattle.laws.proofs.Cases.{le_or_lt}
use Rattle.bound.specs.Totals.{size, total}
use Rattle.bound.proofs.Totals.Size.{size_flat}
use Rattle.bound.proofs.Totals.Total.{total_flat}

-- how many of n steps have two different sizes
unfoldable pub rising : ℕ → ℕ → ℕ → ℕ
rising v c n = min n (div_ceil c v)

-- the lower sizes of those steps are not cut
pub rising_low : (v c n i : ℕ) → 0 < v → i < rising v c n → i * v ≤ c
unfolding rising
rising_low v c n i positive h =
    let next : suc i ≤ div_ceil c v = omega arith in
    omega (arith, div_ceil_times c v positive, mul-le-mul_right v next)

-- the sizes from there on all are
rising_high : (v c : ℕ) → 0 < v → c ≤ div_ceil c v * v
rising_high v c positive = (div_ceil_times c v positive).0

-- from a size C + 1 on all the steps above only add
pub flat_steps : (v c a r k : ℕ) → c ≤ r * v → total (size v c) a (r + k) 0 ≡ total (size v c) a r (k * a)
flat_steps v c a r k high =
    let none : 0 + k * a ≡ k * a = omega arith in
    rw none at (total_flat (size v c) a (c + 1) r k 0 (omega arith) (λ i h. size_flat v c i (le_trans high (mul-le-mul_right v h))))

pub flat_first : (v c a n : ℕ) → 0 < v → total (size v c) a (rising v c n) ((n - rising v c n) * a) ≡ total (size v c) a n 0
unfolding rising
flat_first v c a n positive =
    ⊎_elim
    (λ all.
    let r : min n (div_ceil c v) ≡ n = omega arith in
    let gone : n - n ≡ 0 = omega arith in
    rw (r, gone, zero-mul) refl)
    (λ cut.
    let r : min n (div_ceil c v) ≡ div_ceil c v = omega arith in
    let whole : div_ceil c v + (n - div_ceil c v) ≡ n = omega arith in
    rw r (sym (rw whole at (flat_steps v c a (div_ceil c v) (n - div_ceil c v) (rising_high v c positive)))))
    (le_or_lt n (div_ceil c v))
