-- Printed text: numbers in columns, the line of a refusal, and what it is to print into a buffer.
use Rattle.std.specs.Prelude.{ℕ, ◌+◌, ◌%◌, ◌≤◌, ◌≡◌, List, [], ◌∷◌, ◌++◌, length}
use Rattle.laws.specs.Lent.{Lent}
use Rattle.columns.specs.Numbers.{printed, written}

-- line numbers are printed 'modulo 10,000,000,000'
abbrev pub line_modulus : ℕ
line_modulus = 10000000000

-- numbers, '6 columns each'
unfoldable pub number_columns : List ℕ → List ℕ
number_columns [] = []
number_columns (n ∷ ns) = printed 6 n ++ number_columns ns

-- '`X`, its line number from 1 (modulo 10,000,000,000) in 10 columns and the refusal in 6'
unfoldable pub refusal_line : ℕ → ℕ → List ℕ
refusal_line number k = 88 ∷ printed 10 (number % line_modulus) ++ printed 6 k ++ 10 ∷ []

-- a text is printed into a buffer at a place: the buffer after it, and the place behind it
pub record Prints (before : List ℕ) (at : ℕ) (text buffer : List ℕ) (place : ℕ) : Type 0 where
  pub fits : at + length text ≤ length before
  pub holds : buffer ≡ written before at text
  pub behind : place ≡ at + length text

-- the same of a lent buffer
abbrev pub PrintsInto : Lent → ℕ → List ℕ → ℕ → Type 0
PrintsInto out at text end = Prints out.entry.now at text out.exit.now end
