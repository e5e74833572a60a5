-- A number that is printed and read back: its columns give the number again, one by one and as a line's fields.
use mathlib.Core.Path.{◌≡◌, refl, ◌∙◌}
use mathlib.Core.List.{List, [], ◌∷◌, ◌++◌, append_assoc}
use mathlib.Core.Option.{some, bind}
use Prim.Native.Nat.{ℕ, zero, suc, ◌+◌, ◌-◌, ◌*◌, ◌^◌, ◌/◌, ◌%◌, ◌≤◌, ◌<◌}
use native.Mathlib.Nat.{pow-suc}
use native.Mathlib.Omega.{arith}
use borrow.Author.Tests.{ne_eqb}
use lib.ListN.{length, get_or}
use lib.Seq.{take_at, drop_at}
use Rattle.columns.specs.Numbers.{digits, number, field, fields, digit_or_blank, columns_before, printed}
use Rattle.columns.specs.Output.{number_columns}
use Rattle.columns.proofs.Numbers.Digits.{is_digit_within}
use Rattle.columns.proofs.Numbers.Printed.{length_printed}

digits_more : (n d : ℕ) (bytes : List ℕ) → d ≤ 9 → digits n ((48 + d) ∷ bytes) ≡ digits (n * 10 + d) bytes
unfolding digits
digits_more n d bytes h =
    let digit : 48 + d - 48 ≡ d = omega arith in
    rw (is_digit_within (48 + d) (omega arith) (omega arith), digit)

-- nothing is left of the number: blanks
number_blanks : (k : ℕ) (bytes : List ℕ) → number (columns_before k 0 ++ bytes) ≡ number bytes
unfolding number columns_before digit_or_blank
number_blanks zero bytes = refl
number_blanks (suc k) bytes = rw append_assoc (number_blanks k (32 ∷ bytes))

number_digit : (d : ℕ) (bytes : List ℕ) → number ((48 + d) ∷ bytes) ≡ digits 0 ((48 + d) ∷ bytes)
unfolding number
number_digit d bytes = rw (ne_eqb (48 + d) 32 (λ e. omega arith))

-- columns in front of a digit
number_before : (k m d : ℕ) (bytes : List ℕ) → m < 10 ^ k → number (columns_before k m ++ ((48 + d) ∷ bytes)) ≡ digits m ((48 + d) ∷ bytes)
unfolding columns_before digit_or_blank
number_before zero zero d bytes h = number_digit d bytes
number_before zero (suc m) d bytes h = absurd (omega arith)
number_before (suc k) zero d bytes h = number_blanks (suc k) ((48 + d) ∷ bytes) ∙ number_digit d bytes
number_before (suc k) (suc m) d bytes h =
    let digit = (48 + d) ∷ bytes in
    let less : suc m / 10 < 10 ^ k = omega (arith, pow-suc 10 k) in
    let whole : suc m / 10 * 10 + suc m % 10 ≡ suc m = omega arith in
    rw append_assoc
    (number_before k (suc m / 10) (suc m % 10) digit less ∙ digits_more (suc m / 10) (suc m % 10) digit (omega arith) ∙ rw whole)

number_printed : (k n : ℕ) → n < 10 ^ suc k → number (printed (suc k) n) ≡ some n
unfolding printed digits
number_printed k n h =
    let less : n / 10 < 10 ^ k = omega (arith, pow-suc 10 k) in
    let whole : n / 10 * 10 + n % 10 ≡ n = omega arith in
    number_before k (n / 10) (n % 10) [] less ∙ digits_more (n / 10) (n % 10) [] (omega arith) ∙ rw whole

-- numbers of at most 6 digits
pub data Narrow : List ℕ → Type 0 where
  no_number : Narrow []
  one_more : {n : ℕ} {ns : List ℕ} → n < 1000000 → Narrow ns → Narrow (n ∷ ns)

pub narrow_by : (ns : List ℕ) → ((i : ℕ) → i < length ns → get_or ns i 0 < 1000000) → Narrow ns
narrow_by [] h = no_number
narrow_by (n ∷ ns) h = one_more (h 0 (omega arith)) (narrow_by ns (λ i l. h (suc i) (omega arith)))

pub field_printed : (n : ℕ) (bytes : List ℕ) → n < 1000000 → field 0 (printed 6 n ++ bytes) ≡ some n
unfolding field
field_printed n bytes h = rw (take_at (printed 6 n) bytes 6 (length_printed 6 n)) (number_printed 5 n (omega arith))

-- whatever text follows
pub fields_columns : {ns : List ℕ} → Narrow ns → (rest : List ℕ) → fields (length ns) (number_columns ns ++ rest) ≡ some ns
unfolding fields number_columns bind
fields_columns no_number rest = refl
fields_columns (one_more {n} {ns} h narrow) rest =
    let behind = number_columns ns ++ rest in
    rw (append_assoc (printed 6 n) (number_columns ns) rest, field_printed n behind h, drop_at (printed 6 n) behind 6 (length_printed 6 n), fields_columns narrow rest)
