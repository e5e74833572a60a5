-- The `R` lines of a listing, and the rows that one names, read from its columns.
use Rattle.std.specs.Prelude.{ℕ, Bool, false, cond, List, [], ◌∷◌, eqb, drop}
use Rattle.std.proofs.Math.Option.{Option, none, some, bind}
use Rattle.trace.specs.Bytes.{letter_R}
use Rattle.columns.specs.Numbers.{field, fields}
use Rattle.trace.specs.Texts.{lines}

-- a line that begins with an `R`
unfoldable pub is_event_line : List ℕ → Bool
is_event_line [] = false
is_event_line (b ∷ bs) = eqb b letter_R

-- those among lines, in their order
unfoldable pub event_lines_of : List (List ℕ) → List (List ℕ)
event_lines_of [] = []
event_lines_of (l ∷ ls) = cond (is_event_line l) (l ∷ event_lines_of ls) (event_lines_of ls)

-- those of a listing: an event prints one, and no other line does
unfoldable pub event_lines : List ℕ → List (List ℕ)
event_lines listing = event_lines_of (lines listing)

-- the numbers that were read; none where columns hold something else
unfoldable pub or_none : Option (List ℕ) → List ℕ
or_none none = []
or_none (some rows) = rows

-- the rows that such a line names: behind the letter and e 'the number picked', and as many rows behind that, 6 columns each
unfoldable pub rows_named : List ℕ → List ℕ
rows_named line = or_none (bind (field 7 line) λ count. fields count (drop 13 line))
