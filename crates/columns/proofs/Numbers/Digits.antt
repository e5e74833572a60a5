-- Digits in columns: a number column by column, and how large it gets.
use mathlib.Core.Path.{◌≡◌, refl, sym, ap, ◌∙◌}
use mathlib.Core.Bool.{true, false}
use Rattle.std.specs.Prelude.{Some, None, not, position}
use Rattle.std.specs.List.{position_from}
use Rattle.std.proofs.lemmas.Iterator.Adapters.{position_from-zero}
use lib.Dec.{eqb}
use mathlib.Core.List.{List, [], ◌∷◌}
use mathlib.Core.Option.{none, some, some-injective}
use Prim.Native.Nat.{ℕ, suc, ◌+◌, ◌-◌, ◌*◌, ◌^◌, ◌≤◌, ◌<◌}
use native.Mathlib.Nat.{pow-suc, pow-le-pow_right, one-le-pow, mul-le-mul_left, mul-le-mul_right}
use native.Mathlib.Numerals.{add-one}
use native.Mathlib.Omega.{arith}
use borrow.Author.Tests.{ne_eqb, leb-true, le-leb}
use lib.Dec.{leb}
use lib.ListN.{length, get_or, drop}
use lib.Seq.{drop-cons}
use Rattle.std.specs.Char.{is_ascii_digit}
use Rattle.std.proofs.lemmas.List.{take_rest}
use Rattle.laws.proofs.Cases.{split, and_both, cond_test, cond_some}
use Rattle.columns.specs.Numbers.{is_digit, digits, number}

pub is_digit_within : (b : ℕ) → 48 ≤ b → b ≤ 57 → is_digit b ≡ true
unfolding is_digit
is_digit_within b h k = rw (le-leb _ _ h, le-leb _ _ k)

-- a digit's byte lies from that of 0 to that of 9
pub is_digit_range : (b : ℕ) → is_digit b ≡ true → (48 ≤ b) × (b ≤ 57)
unfolding is_digit
is_digit_range b h = let both = and_both (leb 48 b) (leb b 57) h in (leb-true 48 b both.0, leb-true b 57 both.1)

module _ (bytes : List ℕ) (i : ℕ) (h : i < length bytes) where
  pub digits_other : (n : ℕ) → is_ascii_digit (get_or bytes i 0) ≡ false → digits n (drop i bytes) ≡ none
  unfolding digits is_digit
  digits_other n e = rw (drop-cons bytes i 0 h, e)

  pub digits_digit : (n : ℕ) → is_ascii_digit (get_or bytes i 0) ≡ true → digits n (drop i bytes) ≡ digits (n * 10 + (get_or bytes i 0 - 48)) (drop (i + 1) bytes)
  unfolding digits is_digit
  digits_digit n e = rw (drop-cons bytes i 0 h, e, add-one i)

-- where the first column that is no blank stands, counted from i
position_at : (bytes : List ℕ) (i k : ℕ) → position_from (λ b. not (eqb b 32)) i bytes ≡ Some k → (i ≤ k) × (number bytes ≡ digits 0 (drop (k - i) bytes))
unfolding number
position_at [] i k e = cc
position_at (b ∷ bytes) i k e =
    split (eqb b 32)
    (λ s.
    let rest = position_at bytes (i + 1) k (rw s at e) in
    let less : k - i ≡ suc (k - (i + 1)) = omega (arith, rest.0) in
    (omega (arith, rest.0), rw (s, less) rest.1))
    (λ s.
    let found : Some i ≡ Some k = rw s at e in
    let same : i ≡ k = cc in
    let front : k - i ≡ 0 = omega arith in
    (omega arith, rw (s, front)))

position_nowhere : (bytes : List ℕ) (i : ℕ) → position_from (λ b. not (eqb b 32)) i bytes ≡ None → number bytes ≡ none
unfolding number
position_nowhere [] i e = refl
position_nowhere (b ∷ bytes) i e =
    split (eqb b 32)
    (λ s. rw s (position_nowhere bytes (i + 1) (rw s at e)))
    (λ s. let never : Some i ≡ None = rw s at e in cc)

module _ (bytes : List ℕ) where
  pub number_at : (k : ℕ) → position (λ b. not (eqb b 32)) bytes ≡ Some k → number bytes ≡ digits 0 (drop k bytes)
  number_at k e = let all : k - 0 ≡ k = omega arith in rw all at (position_at bytes 0 k (sym (position_from-zero (λ b. not (eqb b 32)) bytes) ∙ e)).1

  pub number_nowhere : position (λ b. not (eqb b 32)) bytes ≡ None → number bytes ≡ none
  number_nowhere e = position_nowhere bytes 0 (sym (position_from-zero (λ b. not (eqb b 32)) bytes) ∙ e)

pub ruleset positions = (take_rest, number_at, number_nowhere)

-- digits that were found begin with a digit, so not with a blank
pub number_of_digits : (m : ℕ) (bytes : List ℕ) → 0 < length bytes → digits 0 bytes ≡ some m → number bytes ≡ some m
unfolding digits number
number_of_digits m [] h e = absurd (omega arith)
number_of_digits m (b ∷ bytes) h e =
    let least = (is_digit_range b (cond_test (is_digit b) (digits (0 * 10 + (b - 48)) bytes) m e)).0 in
    rw (ne_eqb b 32 (λ w. absurd (omega arith))) e

-- n leaves room for k digits more in a number of 6 digits
pub record Room (n k : ℕ) : Type 0 where
  pub room : (n + 1) * 10 ^ k ≤ 1000000

pub room_zero : (k : ℕ) → k ≤ 6 → Room 0 k
room_zero k h = record { room = omega (arith, pow-le-pow_right {n = 10} (omega arith) {i = k} {j = 6} h) }

pub room_lt : (n k : ℕ) → Room n k → n < 1000000
room_lt n k r = omega (arith, r.room, mul-le-mul_left (n + 1) (one-le-pow k 10 (omega arith)))

pub room_digit : (n d k : ℕ) → Room n (suc k) → d ≤ 9 → Room (n * 10 + d) k
room_digit n d k r h =
    let one_more : 10 ^ suc k ≡ 10 ^ k * 10 = pow-suc 10 k in
    let le : (n * 10 + d + 1) * 10 ^ k ≤ (n * 10 + 10) * 10 ^ k = mul-le-mul_right (10 ^ k) (omega arith) in
    record { room = omega (arith, le, rw one_more at r.room) }

-- digits with room for them stay below 1,000,000
pub digits_lt : (m n : ℕ) (bytes : List ℕ) → Room n (length bytes) → digits n bytes ≡ some m → m < 1000000
unfolding digits
digits_lt m n [] r h = rw (some-injective n m h) at (room_lt n 0 r)
digits_lt m n (b ∷ bytes) r h =
    let rest = digits (n * 10 + (b - 48)) bytes in
    let range = is_digit_range b (cond_test (is_digit b) rest m h) in
    digits_lt m (n * 10 + (b - 48)) bytes (room_digit n (b - 48) (length bytes) r (omega (arith, range.1))) (cond_some (is_digit b) rest m h)

-- behind n more, they make n times a power of 10 more
pub digits_behind : (n k m : ℕ) (bytes : List ℕ) → digits k bytes ≡ some m → digits (n + k) bytes ≡ some (n * 10 ^ length bytes + m)
unfolding digits
digits_behind n k m [] h = let same = some-injective k m h in ap some (omega arith)
digits_behind n k m (b ∷ bytes) h =
    let rest = digits (k * 10 + (b - 48)) bytes in
    let front : (n + k) * 10 + (b - 48) ≡ n * 10 + (k * 10 + (b - 48)) = omega arith in
    let power : n * (10 ^ length bytes * 10) + m ≡ n * 10 * 10 ^ length bytes + m = omega arith in
    rw (cond_test (is_digit b) rest m h, front, pow-suc 10 (length bytes), power)
    (digits_behind (n * 10) (k * 10 + (b - 48)) m bytes (cond_some (is_digit b) rest m h))

-- behind two columns: a blank, and a blank, a digit or something else
pub number_of_rest : (low : ℕ) (columns : List ℕ) → 2 < length columns → get_or columns 0 0 ≡ 32 → get_or columns 1 0 ≡ 32 → digits 0 (drop 2 columns) ≡ some low → number columns ≡ some low
unfolding number
number_of_rest low [] h first second e = absurd (omega arith)
number_of_rest low (a ∷ []) h first second e = absurd (omega arith)
number_of_rest low (a ∷ b ∷ rest) h first second e = rw (first, second) (number_of_digits low rest (omega arith) e)

pub number_of_digit : (low : ℕ) (columns : List ℕ) → 1 < length columns → get_or columns 0 0 ≡ 32 → is_digit (get_or columns 1 0) ≡ true → digits 0 (drop 2 columns) ≡ some low
    → number columns ≡ some ((get_or columns 1 0 - 48) * 10 ^ length (drop 2 columns) + low)
unfolding number digits
number_of_digit low [] h first second e = absurd (omega arith)
number_of_digit low (a ∷ []) h first second e = absurd (omega arith)
number_of_digit low (a ∷ b ∷ rest) h first second e =
    let least = (is_digit_range b second).0 in
    let front : 0 * 10 + (b - 48) ≡ b - 48 + 0 = omega arith in
    rw (first, ne_eqb b 32 (λ w. absurd (omega arith)), second, front) (digits_behind (b - 48) 0 low rest e)

pub number_of_other : (columns : List ℕ) → 1 < length columns → get_or columns 0 0 ≡ 32 → (get_or columns 1 0 ≡ 32 → ⊥) → is_digit (get_or columns 1 0) ≡ false → number columns ≡ none
unfolding number digits
number_of_other [] h first not_blank second = absurd (omega arith)
number_of_other (a ∷ []) h first not_blank second = absurd (omega arith)
number_of_other (a ∷ b ∷ rest) h first not_blank second = rw (first, ne_eqb b 32 not_blank, second)
