-- Texts and numbers that are printed, and what they say.
use mathlib.Core.Path.{◌≡◌, refl, sym, ◌∙◌, ap}
use mathlib.Core.Bool.{true, false}
use mathlib.Core.List.{List, [], ◌∷◌, ◌++◌, append_assoc}
use mathlib.Core.Logic.{⊎_elim}
use Prim.Native.Nat.{ℕ, zero, suc, ◌+◌, ◌-◌, ◌*◌, ◌/◌, ◌%◌, ◌^◌, ◌≤◌, ◌<◌}
use native.Mathlib.Omega.{arith}
use native.Mathlib.Numerals.{sub-one}
use native.Mathlib.Nat.{pow-suc, one-le-pow, pow-le-pow_right}
use borrow.Author.Tests.{lt-ltb, le-ltb}
use borrow.Rule.Slice.PartMut.{put_mid}
use lib.Dec.{ltb}
use lib.ListN.{length, length-append}
use lib.Seq.{drop-drop}
use Rattle.laws.proofs.Cases.{le_or_lt}
use Rattle.io.specs.Digits.{hex_digit_ascii, last_digits as digits, IsDigitCount}
use Rattle.columns.specs.Bytes.{digit_0}
use Rattle.columns.specs.Numbers.{written}
use Rattle.columns.specs.Output.{Prints}
use Rattle.columns.proofs.Output.{prints_then}
use Rattle.rowcheck.specs.declared.Answer.{Answer}
use Rattle.rowcheck.specs.declared.Answer.TheVariants.{Open, Passes, Departs, TraceFailed, ListingFailed}
use Rattle.rowcheck.specs.declared.Check.{Check}
use Rattle.rowcheck.specs.Answers.{digits_before, decimal, passes_line, departs_words, line_of, answer_line, has_answer}

-- a text that is copied to its place
pub prints_copied : (before : List ℕ) (at : ℕ) (text copy : List ℕ) → at + length text ≤ length before → copy ≡ text → Prints before at text (put_mid at (at + length text - at) before copy) (at + length text)
unfolding written
prints_copied before at text copy fits same =
    let size : at + length text - at ≡ length text = omega arith in
    record { fits = fits; holds = rw (same, size, drop-drop (length text) at before) (simp append_assoc); behind = refl }

-- a digit's byte
glyph_digit : (m : ℕ) → hex_digit_ascii (m % 10) ≡ digit_0 + m % 10
glyph_digit m = let small : m % 10 < 10 = omega arith in rw (lt-ltb (m % 10) 10 small)

-- a number without its last digit has one digit less
shorter : (k m : ℕ) → 10 ^ k ≤ m → (j : ℕ) → k ≡ suc j → 10 ^ j ≤ m / 10
shorter k m most j e =
    let power : 10 ^ k ≡ 10 ^ j * 10 = ap (λ (i : ℕ). 10 ^ i) e ∙ pow-suc 10 j in
    omega arith

-- as many digits as a number has are all that it has
digits_all : (room k m : ℕ) → k ≤ room → m < 10 ^ k → ((j : ℕ) → k ≡ suc j → 10 ^ j ≤ m) → digits 10 k m ≡ digits_before room m
unfolding digits_before
digits_all zero zero m few below least = refl
digits_all zero (suc k) m few below least = absurd (omega arith)
digits_all (suc room) zero zero few below least = refl
digits_all (suc room) zero (suc m) few below least = absurd (omega arith)
digits_all (suc room) (suc k) zero few below least = absurd (omega (arith, one-le-pow k 10 (omega arith), least k refl))
digits_all (suc room) (suc k) (suc m) few below least =
    let power = pow-suc 10 k in
    rw (digits_all room k (suc m / 10) (omega arith) (omega arith) (shorter k (suc m) (least k refl)), glyph_digit (suc m))

pub decimal_digits : (n k : ℕ) → k ≤ 20 → IsDigitCount 10 1 n k → digits 10 k n ≡ decimal n
unfolding decimal
decimal_digits n zero few fewest = absurd (omega (arith, fewest.0))
decimal_digits n (suc k) few fewest =
    let power = pow-suc 10 k in
    let below : n < 10 ^ suc k = fewest.1 in
    rw (digits_all 19 k (n / 10) (omega arith) (omega arith) (λ j e. shorter k n (rw sub-one at (fewest.2 (omega arith))) j e), glyph_digit n)

-- no more than twenty
digits_few : (room m : ℕ) → length (digits_before room m) ≤ room
unfolding digits_before
digits_few zero m = omega arith
digits_few (suc room) zero = omega arith
digits_few (suc room) (suc m) =
    omega (arith, length-append (digits_before room (suc m / 10)) ((digit_0 + suc m % 10) ∷ []), digits_few room (suc m / 10))

length_decimal : (n : ℕ) → length (decimal n) ≤ 20
unfolding decimal
length_decimal n =
    omega (arith, length-append (digits_before 19 (n / 10)) ((digit_0 + n % 10) ∷ []), digits_few 19 (n / 10))

-- so a number that is printed ends within as many places
pub decimal_within : (n : ℕ) {before after : List ℕ} {at place : ℕ} → Prints before at (decimal n) after place → place ≤ at + 20
decimal_within n p = omega (arith, p.behind, length_decimal n)

-- words, a number and a byte 10, one behind the other: the line of a departure, if the number is its line's
pub departure_printed : (n lines : ℕ) {a b c d : List ℕ} {number end place : ℕ} → Prints a 0 departs_words b number → Prints b number (decimal n) c end → Prints c end (10 ∷ []) d place → n ≡ suc lines → Prints a 0 (departs_words ++ decimal (suc lines) ++ 10 ∷ []) d place
departure_printed n lines words digits last same = rw (← same) (prints_then (prints_then words digits) last)

pub fewest_twenty : (n k : ℕ) → n < 18446744073709551616 → IsDigitCount 10 1 n k → k ≤ 20
fewest_twenty n k small fewest =
    ⊎_elim (λ few. few)
    (λ many.
    let least = fewest.2 (omega arith) in
    absurd (omega (arith, least, pow-le-pow_right {n = 10} (omega arith) {i = 20} {j = k - 1} (omega arith))))
    (le_or_lt k 20)

-- a line is written exactly where there is an answer
line_told : (a : Answer) (lines : ℕ) → has_answer a ≡ ltb 0 (length (line_of a lines))
unfolding has_answer line_of passes_line departs_words
line_told Passes lines = refl
line_told Departs lines = sym (lt-ltb 0 (length (departs_words ++ decimal (suc lines) ++ 10 ∷ [])) (omega arith))
line_told Open lines = refl
line_told TraceFailed lines = refl
line_told ListingFailed lines = refl

pub line_none : (k : Check) → length (answer_line k) ≡ 0 → has_answer k.answer ≡ false
unfolding answer_line
line_none k none = line_told k.answer k.lines ∙ le-ltb 0 (length (line_of k.answer k.lines)) (omega arith)

pub line_some : (k : Check) → 0 < length (answer_line k) → has_answer k.answer ≡ true
unfolding answer_line
line_some k some_bytes = line_told k.answer k.lines ∙ lt-ltb 0 _ some_bytes
