-- Bits of a word: one that is set or turned leaves the others as they are, and none below the lowest is set.
use mathlib.Core.Path.{◌≡◌, refl, ap, sym, ◌∙◌}
use mathlib.Core.Logic.{⊎_elim}
use Prim.Native.Nat.{ℕ, zero, suc, ◌+◌, ◌-◌, ◌*◌, ◌/◌, ◌%◌, ◌^◌, ◌<◌}
use native.Mathlib.Omega.{arith}
use native.Mathlib.Numerals.{add-one}
use native.Mathlib.Nat.{one-mul, zero-div, div-one, div_self, div-eq_of_lt, pow-suc, pow-succ', div-div-eq-div-mul, mul-mod_left}
use lib.Pow.{pow_pos, pow-lt, pow-add, shl_exact, shl-shr, shr_lt}
use lib.Bits.{bit_or, bit_xor, or_shr, or_mod, xor_shr, xor_mod, or_zero_r, or_zero_l, or_self, xor_zero_r}
use lib.Count.{count_trailing_zeros, under}
use Rattle.laws.proofs.Cases.{le_or_lt}
use Rattle.aids.specs.Marks.{bit}

-- the machine's 1 << k
pub one_shifted : (k : ℕ) → k < 64 → 1 * 2 ^ k % 18446744073709551616 ≡ 2 ^ k
one_shifted k h = shl_exact 1 k 64 (omega arith) (omega arith) ∙ one-mul (2 ^ k)

-- bits of 0 and of 2 ^ k
pub bit_none : (j : ℕ) → bit 0 j ≡ 0
unfolding bit
bit_none j = ap (λ (x : ℕ). x % 2) (zero-div (2 ^ j))

bit_own : (k : ℕ) → bit (2 ^ k) k ≡ 1
unfolding bit
bit_own k = ap (λ (x : ℕ). x % 2) (div_self (pow_pos k))

pow_even : (p : ℕ) → 2 ^ suc p % 2 ≡ 0
pow_even p = ap (λ (x : ℕ). x % 2) (pow-suc 2 p) ∙ mul-mod_left (2 ^ p) 2

bit_other : (k j : ℕ) → (j ≡ k → ⊥) → bit (2 ^ k) j ≡ 0
unfolding bit
bit_other k j n =
    ⊎_elim
    (λ below.
    let d = k - suc j in
    let e : k ≡ suc d + j = omega arith in
    rw e (ap (λ (x : ℕ). x / 2 ^ j % 2) (pow-add 2 (suc d) j) ∙ ap (λ (x : ℕ). x % 2) (shl-shr (2 ^ suc d) j) ∙ pow_even d))
    (λ above. ap (λ (x : ℕ). x % 2) (div-eq_of_lt (pow-lt {i = k} {j = j} (omega arith))))
    (le_or_lt (suc j) k)

-- a bit of an or, of a xor
bit_of_or : (a b j : ℕ) → bit (bit_or a b) j ≡ bit_or (bit a j) (bit b j)
unfolding bit
bit_of_or a b j = ap (λ (x : ℕ). x % 2) (or_shr a b j) ∙ or_mod (a / 2 ^ j) (b / 2 ^ j) 1

bit_of_xor : (a b j : ℕ) → bit (bit_xor a b) j ≡ bit_xor (bit a j) (bit b j)
unfolding bit
bit_of_xor a b j = ap (λ (x : ℕ). x % 2) (xor_shr a b j) ∙ xor_mod (a / 2 ^ j) (b / 2 ^ j) 1

bit_less : (w j : ℕ) → bit w j < 2
unfolding bit
bit_less w j = omega arith

or_one : (x : ℕ) → x < 2 → bit_or x 1 ≡ 1
or_one zero h = or_zero_l 1
or_one (suc zero) h = or_self 1
or_one (suc (suc x)) h = absurd (omega arith)

-- the bit that is set, and the others where one is set or turned
pub bit_set : (w k : ℕ) → bit (bit_or w (2 ^ k)) k ≡ 1
bit_set w k = rw (bit_of_or w (2 ^ k) k, bit_own k) (or_one (bit w k) (bit_less w k))

pub bit_kept : (w k j : ℕ) → (j ≡ k → ⊥) → bit (bit_or w (2 ^ k)) j ≡ bit w j
bit_kept w k j n = rw (bit_of_or w (2 ^ k) j, bit_other k j n) (or_zero_r (bit w j))

pub bit_turned : (w k j : ℕ) → (j ≡ k → ⊥) → bit (bit_xor w (2 ^ k)) j ≡ bit w j
bit_turned w k j n = rw (bit_of_xor w (2 ^ k) j, bit_other k j n) (xor_zero_r (bit w j))

-- bits below the lowest that is set
half_bit : (n j : ℕ) → n / 2 ^ suc j % 2 ≡ n / 2 / 2 ^ j % 2
half_bit n j = ap (λ (x : ℕ). n / x % 2) (pow-succ' 2 j) ∙ ap (λ (x : ℕ). x % 2) (sym (div-div-eq-div-mul n 2 (2 ^ j)))

pub low_bits : (d n j : ℕ) → j < count_trailing_zeros d n → bit n j ≡ 0
unfolding count_trailing_zeros bit
low_bits zero n j h = absurd (omega arith)
low_bits (suc d) n j h = go j (n % 2) refl h (λ i l. low_bits d (n / 2) i l)
  where
    go : (j r : ℕ) → n % 2 ≡ r → j < under r (count_trailing_zeros d (n / 2)) → ((i : ℕ) → i < count_trailing_zeros d (n / 2) → n / 2 / 2 ^ i % 2 ≡ 0) → n / 2 ^ j % 2 ≡ 0
    go zero zero e l ih = ap (λ (x : ℕ). x % 2) (div-one n) ∙ e
    go (suc j) zero e l ih = half_bit n j ∙ ih j (omega arith)
    go j (suc r) e l ih = absurd (omega arith)

-- a word above 0 has one below its width
half_less : (n m : ℕ) → n < 2 ^ suc m → n / 2 < 2 ^ m
half_less n m h = shr_lt m 1 (rw (add-one m) h)

pub few_zeros : (d n m : ℕ) → 0 < n → n < 2 ^ m → count_trailing_zeros d n < m
unfolding count_trailing_zeros
few_zeros d n zero p h = absurd (omega arith)
few_zeros zero n (suc m) p h = omega arith
few_zeros (suc d) n (suc m) p h = go (n % 2) refl (λ q. few_zeros d (n / 2) m q (half_less n m h))
  where
    go : (r : ℕ) → n % 2 ≡ r → (0 < n / 2 → count_trailing_zeros d (n / 2) < m) → under r (count_trailing_zeros d (n / 2)) < suc m
    go zero e ih = let l = ih (omega arith) in omega arith
    go (suc r) e ih = omega arith
