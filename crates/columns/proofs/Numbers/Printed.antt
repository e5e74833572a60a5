-- Printed numbers: how long they are, and a number written into a buffer from its last column to its first.
use mathlib.Core.Path.{◌≡◌, refl, ◌∙◌}
use mathlib.Core.List.{List, [], ◌∷◌, ◌++◌, append_assoc, append-nil}
use Prim.Native.Nat.{ℕ, zero, suc, ◌+◌, ◌-◌, ◌≤◌, ◌<◌, ◌/◌, ◌%◌}
use native.Mathlib.Nat.{add-zero}
use native.Mathlib.Omega.{arith}
use lib.ListN.{length, take, drop, length-append, take-append-drop, set}
use lib.Seq.{take-set-le}
use Rattle.laws.proofs.Lists.{drop_set}
use Rattle.columns.specs.Numbers.{digit_or_blank, columns_before, printed, written}

pub digit_or_blank_is : (m : ℕ) → 0 < m → digit_or_blank m ≡ 48 + m % 10
unfolding digit_or_blank
digit_or_blank_is zero h = absurd (omega arith)
digit_or_blank_is (suc m) h = refl

length_columns_before : (k m : ℕ) → length (columns_before k m) ≡ k
unfolding columns_before
length_columns_before zero m = refl
length_columns_before (suc k) m = rw length-append (omega (arith, length_columns_before k (m / 10)))

pub length_printed : (k n : ℕ) → length (printed k n) ≡ k
unfolding printed
length_printed zero n = refl
length_printed (suc k) n = rw length-append (omega (arith, length_columns_before k (n / 10)))

-- a byte is written: it joins the text in front of it
append_set : (out text : List ℕ) (at j x : ℕ) → at ≤ j → j < length out
    → take at (set out j x) ++ text ++ drop j (set out j x) ≡ take at out ++ (text ++ (x ∷ [])) ++ drop (suc j) out
append_set out text at j x h k = rw (take-set-le at out j x h, drop_set out j x k) (simp append_assoc)

-- the buffer with the columns up to i still to be written
abbrev pub with_columns_before : List ℕ → ℕ → ℕ → ℕ → List ℕ
with_columns_before out at i left = take at out ++ columns_before (i - at) left ++ drop i out

pub with_columns_before_set : (out : List ℕ) (at i left : ℕ) → at < i → i ≤ length out
    → with_columns_before (set out (i - 1) (digit_or_blank left)) at (i - 1) (left / 10) ≡ with_columns_before out at i left
unfolding columns_before
with_columns_before_set out at i left h k =
    let one_more : i - at ≡ suc (i - 1 - at) = omega arith in
    let next : suc (i - 1) ≡ i = omega arith in
    rw (one_more) (append_set out (columns_before (i - 1 - at) (left / 10)) at (i - 1) (digit_or_blank left) (omega arith) (omega arith) ∙ rw next)

pub with_columns_before_none : (out : List ℕ) (at left : ℕ) → with_columns_before out at at left ≡ out
unfolding columns_before
with_columns_before_none out at left =
    let gone : at - at ≡ 0 = omega arith in
    rw (gone, append-nil, take-append-drop)

pub written_printed_zero : (out : List ℕ) (at n : ℕ) → out ≡ written out at (printed 0 n)
unfolding written printed
written_printed_zero out at n = rw (append-nil, add-zero, take-append-drop)

pub written_printed_last : (out : List ℕ) (at k n : ℕ) → at + k ≤ length out → 0 < k
    → with_columns_before (set out (at + k - 1) (48 + n % 10)) at (at + k - 1) (n / 10) ≡ written out at (printed k n)
unfolding written printed
written_printed_last out at zero n h p = absurd (omega arith)
written_printed_last out at (suc k) n h p =
    let width : at + suc k - 1 - at ≡ k = omega arith in
    let next : suc (at + suc k - 1) ≡ at + suc k = omega arith in
    rw (width, length_printed (suc k) n) (append_set out (columns_before k (n / 10)) at (at + suc k - 1) (48 + n % 10) (omega arith) (omega arith) ∙ rw next)
