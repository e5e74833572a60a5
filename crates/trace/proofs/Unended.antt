-- Columns hold no byte 10: those of a number or of a line's fields that was read, and those of printed numbers.
use mathlib.Core.Path.{◌≡◌, refl, sym, ap, ◌∙◌}
use mathlib.Core.Bool.{true, false}
use mathlib.Core.List.{List, [], ◌∷◌}
use mathlib.Core.Option.{some, bind-eq-some_iff}
use Prim.Native.Nat.{ℕ, zero, suc, ◌+◌, ◌-◌, ◌*◌, ◌≤◌, ◌/◌, ◌%◌}
use native.Mathlib.Omega.{arith}
use borrow.Author.Tests.{eqb-true, ne_eqb}
use lib.Dec.{eqb}
use lib.ListN.{length, take, drop, length-drop, take-append-drop}
use lib.Seq.{drop-drop}
use Rattle.laws.proofs.Cases.{split, missing, cond_test, cond_some}
use Rattle.columns.specs.Numbers.{is_digit, digits, number, field, fields, digit_or_blank, columns_before, printed}
use Rattle.columns.specs.Output.{number_columns}
use Rattle.columns.proofs.Numbers.Digits.{is_digit_range}
use Rattle.trace.specs.Lines.{ended}
use Rattle.trace.proofs.Lines.{ended_append, ended_drop_length}

-- a number's columns hold no byte 10
is_digit_not_end : (b : ℕ) → is_digit b ≡ true → eqb b 10 ≡ false
is_digit_not_end b h = let least = (is_digit_range b h).0 in ne_eqb b 10 (λ w. absurd (omega arith))

ended_digits : (m n : ℕ) (bytes : List ℕ) → digits n bytes ≡ some m → ended bytes ≡ false
unfolding digits ended
ended_digits m n [] h = refl
ended_digits m n (b ∷ bytes) h =
    let rest = digits (n * 10 + (b - 48)) bytes in
    rw (is_digit_not_end b (cond_test (is_digit b) rest m h))
    (ended_digits m (n * 10 + (b - 48)) bytes (cond_some (is_digit b) rest m h))

pub ended_number : (m : ℕ) (bytes : List ℕ) → number bytes ≡ some m → ended bytes ≡ false
unfolding number ended
ended_number m [] h = missing h
ended_number m (b ∷ bytes) h =
    split (eqb b 32)
    (λ e. let blank = eqb-true b 32 e in rw (ne_eqb b 10 (λ w. absurd (omega arith))) (ended_number m bytes (rw e at h)))
    (λ e. ended_digits m 0 (b ∷ bytes) (rw e at h))

-- no byte 10 in a field's columns nor behind them
pub ended_field : (k n : ℕ) (bytes : List ℕ) → field k bytes ≡ some n → ended (drop (k + 6) bytes) ≡ false → ended (drop k bytes) ≡ false
unfolding field
ended_field k n bytes e h =
    let columns = take 6 (drop k bytes) in
    let others = drop 6 (drop k bytes) in
    let behind : ended others ≡ false = rw drop-drop h in
    sym (ap ended (take-append-drop 6 (drop k bytes))) ∙ ended_append columns others (ended_number n columns e) behind

pub ended_fields : (k : ℕ) (bytes ns : List ℕ) → length bytes ≡ 6 * k → fields k bytes ≡ some ns → ended bytes ≡ false
unfolding fields
ended_fields zero bytes ns w h = ended_drop_length 0 bytes w
ended_fields (suc k) bytes ns w h =
    let first = (bind-eq-some_iff (field 0 bytes) _).0 h in
    let others = (bind-eq-some_iff (fields k (drop 6 bytes)) _).0 first.2 in
    ended_field 0 first.0 bytes first.1 (ended_fields k (drop 6 bytes) others.0 (length-drop 6 bytes ∙ omega arith) others.1)

-- nor does a printed column
ended_byte : (b : ℕ) → 11 ≤ b → ended (b ∷ []) ≡ false
unfolding ended
ended_byte b h = rw (ne_eqb b 10 (λ e. omega arith))

column_high : (m : ℕ) → 11 ≤ digit_or_blank m
unfolding digit_or_blank
column_high zero = omega arith
column_high (suc m) = omega arith

ended_columns_before : (k m : ℕ) → ended (columns_before k m) ≡ false
unfolding columns_before ended
ended_columns_before zero m = refl
ended_columns_before (suc k) m =
    ended_append (columns_before k (m / 10)) (digit_or_blank m ∷ []) (ended_columns_before k (m / 10)) (ended_byte (digit_or_blank m) (column_high m))

pub ended_printed : (k n : ℕ) → ended (printed k n) ≡ false
unfolding printed ended
ended_printed zero n = refl
ended_printed (suc k) n =
    ended_append (columns_before k (n / 10)) ((48 + n % 10) ∷ []) (ended_columns_before k (n / 10)) (ended_byte (48 + n % 10) (omega arith))

pub ended_number_columns : (ns : List ℕ) → ended (number_columns ns) ≡ false
unfolding number_columns ended
ended_number_columns [] = refl
ended_number_columns (n ∷ ns) = ended_append (printed 6 n) (number_columns ns) (ended_printed 6 n) (ended_number_columns ns)
