-- Marks of places, 64 to a word. A table of counts has a mark for each row, and behind these words a mark for each of them. A mark may stand where
-- nothing is to be found; none may be missing.
use Rattle.std.specs.Prelude.{ℕ, ◌+◌, ◌-◌, ◌/◌, ◌%◌, ◌^◌, ◌≤◌, ◌<◌, ◌≡◌, List, length, get_or, set, Option, Some, None}
use Rattle.std.specs.Int.Bits.{bit_or, bit_xor}
use Rattle.device.specs.Acceptance.{most_rows}
use Rattle.tables.specs.InnerContracts.{equal_place}

-- the words of a mark for each row, and all words: those, and one for each 64 of them
abbrev pub row_words : ℕ
row_words = 4096

abbrev pub all_words : ℕ
all_words = 4160

-- a word's bit
unfoldable pub bit : ℕ → ℕ → ℕ
bit w j = w / 2 ^ j % 2

-- whether a place is marked: 1 or 0
unfoldable pub marked : List ℕ → ℕ → ℕ
marked marks place = bit (get_or marks (place / 64) 0) (place % 64)

-- a place is marked; its mark is turned
unfoldable pub with_mark : List ℕ → ℕ → List ℕ
with_mark marks place = set marks (place / 64) (bit_or (get_or marks (place / 64) 0) (2 ^ (place % 64)))

unfoldable pub turned : List ℕ → ℕ → List ℕ
turned marks place = set marks (place / 64) (bit_xor (get_or marks (place / 64) 0) (2 ^ (place % 64)))

-- a count for every row; each row that has one is marked, and so is each word with a mark
pub record Marked (counts marks : List ℕ) : Type 0 where
  pub counts_long : length counts ≡ most_rows
  pub marks_long : length marks ≡ all_words
  pub rows_shown : (row : ℕ) → 0 < get_or counts row 0 → marked marks row ≡ 1
  pub words_shown : (w : ℕ) → w < row_words → 0 < get_or marks w 0 → marked marks (most_rows + w) ≡ 1

-- no place before one holds a number
pub record Clear (xs : List ℕ) (x place : ℕ) : Type 0 where
  pub none : (i : ℕ) → i < place → get_or xs i 0 ≡ x → ⊥

-- what a search comes to: the first place that holds the number, or none where none before an end does
abbrev pub Sought : List ℕ → ℕ → ℕ → Option ℕ → Type 0
Sought xs x end (Some place) = (place < most_rows) × (get_or xs place 0 ≡ x) × Clear xs x place
Sought xs x end None = Clear xs x end

-- the first place of a number in a table, or none where it stands nowhere
abbrev pub FirstAt : List ℕ → ℕ → Option ℕ → Type 0
FirstAt xs x (Some place) = (place < length xs) × (place ≡ equal_place x xs)
FirstAt xs x None = length xs ≡ equal_place x xs

-- a place holds a number; a word has a mark
abbrev pub at_number : List ℕ → ℕ → ℕ → Type 0
at_number xs x i = get_or xs i 0 ≡ x

abbrev pub in_use : List ℕ → ℕ → Type 0
in_use marks w = 0 < get_or marks w 0

-- from a place on all are 0
pub record EmptyFrom (xs : List ℕ) (place : ℕ) : Type 0 where
  pub zero_at : (i : ℕ) → place ≤ i → get_or xs i 0 ≡ 0

-- from one place on and below another all are 0 then, and the others as they were
pub record Emptied (xs ys : List ℕ) (from to : ℕ) : Type 0 where
  pub long : length ys ≡ length xs
  pub zero_at : (i : ℕ) → from ≤ i → i < to → get_or ys i 0 ≡ 0
  pub before : (i : ℕ) → i < from → get_or ys i 0 ≡ get_or xs i 0
  pub behind : (i : ℕ) → to ≤ i → get_or ys i 0 ≡ get_or xs i 0

-- what a word tells of so many places from one on: it has a bit for each at which something is so
pub record Shows (so : ℕ → Type 0) (word from end : ℕ) : Type 0 where
  pub onward : from ≤ end
  pub small : word < 2 ^ (end - from)
  pub shown : (i : ℕ) → from ≤ i → i < end → so i → bit word (i - from) ≡ 1
