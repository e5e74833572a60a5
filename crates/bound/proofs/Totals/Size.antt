-- The sizes D(j): at least 1, growing with j, at most C + 1.
use mathlib.Core.Path.{◌≡◌}
use mathlib.Core.Logic.{⊎_elim}
use Prim.Native.Nat.{ℕ, suc, ◌+◌, ◌*◌, ◌≤◌, ◌<◌, min}
use native.Mathlib.Nat.{mul-le-mul, mul_comm}
use native.Mathlib.Omega.{arith}
use Rattle.laws.proofs.Cases.{le_or_lt}
use Rattle.bound.specs.Totals.{size}

pub size_positive : (v c j : ℕ) → 0 < size v c j
unfolding size
size_positive v c j = omega arith

pub size_le : (v c j : ℕ) → size v c j ≤ c + 1
unfolding size
size_le v c j = omega arith

pub size_grows : (v c j : ℕ) → size v c j ≤ size v c (suc j)
unfolding size
size_grows v c j = omega arith

pub size_first : (v c : ℕ) → size v c 0 ≡ 1
unfolding size
size_first v c = omega arith

-- D(j) grows by V up to C + 1, and stays there
pub size_rising : (v c j : ℕ) → j * v ≤ c → size v c j ≡ j * v + 1
unfolding size
size_rising v c j h = omega arith

pub size_flat : (v c j : ℕ) → c ≤ j * v → size v c j ≡ c + 1
unfolding size
size_flat v c j h = omega arith

-- an event more is at most V slots more
pub size_steps : (v c j : ℕ) → size v c (suc j) ≤ size v c j + v
unfolding size
size_steps v c j = omega arith

-- of two numbers a ≤ b cut at c, and at a later c': the later cut does not raise the min-ratio-le of the first to the second
min_ratio_le : (a b c c' : ℕ) → a ≤ b → c ≤ c' → min a c' * min b c ≤ min a c * min b c'
min_ratio_le a b c c' ab cc' =
    ⊎_elim
    (λ within.
    let first : min a c' ≤ min a c = omega arith in
    let second : min b c ≤ min b c' = omega arith in
    mul-le-mul first second)
    (λ past.
    let first : min a c' ≤ min b c' = omega arith in
    let second : min b c ≤ min a c = omega arith in
    rw (mul_comm (min a c) (min b c')) (mul-le-mul first second))
    (le_or_lt a c)

-- with more counters D(j) / D(j + 1) is no greater
pub size_ratio : (v c c' j : ℕ) → c ≤ c' → size v c' j * size v c (suc j) ≤ size v c j * size v c' (suc j)
unfolding size
size_ratio v c c' j h = min_ratio_le (j * v + 1) (suc j * v + 1) (c + 1) (c' + 1) (omega arith) (omega arith)
