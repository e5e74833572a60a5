-- Numbers in columns, read and printed.
use Rattle.std.specs.Prelude.{ℕ, zero, suc, ◌+◌, ◌-◌, ◌*◌, ◌/◌, ◌%◌, Bool, ◌&&◌, cond, List, [], ◌∷◌, ◌++◌, leb, eqb, length, take, drop}
use Rattle.std.proofs.Math.Option.{Option, none, some, bind}
use Rattle.columns.specs.Bytes.{blank, digit_0, digit_9}

-- 'digit'
unfoldable pub is_digit : ℕ → Bool
is_digit b = leb digit_0 b && leb b digit_9

-- digits to the end, behind those that make n
unfoldable pub digits : ℕ → List ℕ → Option ℕ
digits n [] = some n
digits n (b ∷ bs) = cond (is_digit b) (digits (n * 10 + (b - digit_0)) bs) none

-- 'A number is right-justified': blanks, then at least one digit; leading zeros are allowed
unfoldable pub number : List ℕ → Option ℕ
number [] = none
number (b ∷ bs) = cond (eqb b blank) (number bs) (digits 0 (b ∷ bs))

-- the number in the 6 columns from a column on
unfoldable pub field : ℕ → List ℕ → Option ℕ
field column bytes = number (take 6 (drop column bytes))

-- so many numbers of 6 columns each, from the front on
unfoldable pub fields : ℕ → List ℕ → Option (List ℕ)
fields zero bytes = some []
fields (suc k) bytes = bind (field 0 bytes) λ n. bind (fields k (drop 6 bytes)) λ ns. some (n ∷ ns)

-- a column in front of the last, with what is left of the number there: its last digit, or a blank where nothing is left
unfoldable pub digit_or_blank : ℕ → ℕ
digit_or_blank zero = blank
digit_or_blank (suc m) = digit_0 + suc m % 10

-- so many columns in front of the last
unfoldable pub columns_before : ℕ → ℕ → List ℕ
columns_before zero m = []
columns_before (suc k) m = columns_before k (m / 10) ++ (digit_or_blank m ∷ [])

-- 'right-justified with blanks, without leading zeros' in so many columns; of a number with more digits, the lowest
unfoldable pub printed : ℕ → ℕ → List ℕ
printed zero n = []
printed (suc k) n = columns_before k (n / 10) ++ ((digit_0 + n % 10) ∷ [])

-- a buffer with a text written at a place
unfoldable pub written : List ℕ → ℕ → List ℕ → List ℕ
written buffer at text = take at buffer ++ text ++ drop (at + length text) buffer
