-- What the program answers on standard output, byte for byte.
use Rattle.std.specs.Prelude.{ℕ, zero, suc, ◌+◌, ◌/◌, ◌%◌, Bool, true, false, List, [], ◌∷◌, ◌++◌}
use Rattle.columns.specs.Bytes.{digit_0}
use Rattle.rowcheck.specs.declared.Answer.{Answer}
use Rattle.rowcheck.specs.declared.Answer.TheVariants.{Open, Passes, Departs, TraceFailed, ListingFailed}
use Rattle.rowcheck.specs.declared.Check.{Check}

-- so many digits at most in front of the last, with what is left of the number there: none where nothing is left
unfoldable pub digits_before : ℕ → ℕ → List ℕ
digits_before zero m = []
digits_before (suc k) zero = []
digits_before (suc k) (suc m) = digits_before k (suc m / 10) ++ (digit_0 + suc m % 10) ∷ []

-- a number of up to 20 digits, without blanks or leading zeros
unfoldable pub decimal : ℕ → List ℕ
decimal n = digits_before 19 (n / 10) ++ (digit_0 + n % 10) ∷ []

-- `passes` and byte 10
unfoldable pub passes_line : List ℕ
passes_line = 112 ∷ 97 ∷ 115 ∷ 115 ∷ 101 ∷ 115 ∷ 10 ∷ []

-- `departs at line `
unfoldable pub departs_words : List ℕ
departs_words = 100 ∷ 101 ∷ 112 ∷ 97 ∷ 114 ∷ 116 ∷ 115 ∷ 32 ∷ 97 ∷ 116 ∷ 32 ∷ 108 ∷ 105 ∷ 110 ∷ 101 ∷ 32 ∷ []

-- what is answered behind so many lines that were the same: 'that the listing is what the trace requires, or the number of the first listing line that departs';
-- nothing where a read failed or the files do not end
unfoldable pub line_of : Answer → ℕ → List ℕ
line_of Passes lines = passes_line
line_of Departs lines = departs_words ++ decimal (suc lines) ++ 10 ∷ []
line_of Open lines = []
line_of TraceFailed lines = []
line_of ListingFailed lines = []

unfoldable pub answer_line : Check → List ℕ
answer_line k = line_of k.answer k.lines

-- whether something is
unfoldable pub has_answer : Answer → Bool
has_answer Passes = true
has_answer Departs = true
has_answer Open = false
has_answer TraceFailed = false
has_answer ListingFailed = false
