-- What answers of the code say where they are no record: the row that a line tells, and bytes that were copied.
use Rattle.std.specs.Prelude.{ℕ, ◌+◌, ◌&&◌, cond, List, ◌++◌, ◌≡◌, eqb, leb, length, get_or, drop}
use Rattle.std.proofs.Math.Option.{Option, none}
use Rattle.laws.specs.Lent.{Lent}
use Rattle.trace.specs.Bytes.{letter_A}
use Rattle.columns.specs.Numbers.{field}

-- the row of an activation line of one unit at a place: the number in its 6 columns, if an `A` stands before them and a byte 10 right behind
unfoldable pub row_told : List ℕ → ℕ → Option ℕ
row_told text place =
    cond (leb (place + 8) (length text) && eqb (get_or text place 0) letter_A && eqb (get_or text (place + 7) 0) 10) (field (place + 1) text) none

-- bytes are copied to a lent text's front, so many
abbrev pub CopiesFront : Lent → List ℕ → ℕ → Type 0
CopiesFront text bytes count = (count ≡ length bytes) × (text.exit.now ≡ bytes ++ drop count text.entry.now)
