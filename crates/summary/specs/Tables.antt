-- Two lent tables, rows and counts, that hold a summary.
use Rattle.std.specs.Prelude.{ℕ, zero, suc, ◌-◌, List, [], ◌∷◌, ◌++◌, length, replicate}
use Rattle.summary.specs.Entries.{Entry}
use Rattle.summary.specs.Steps.{Summary}

-- a table of so many places: numbers at the front, 'all places behind hold 0'
unfoldable pub table : ℕ → List ℕ → List ℕ
table places xs = xs ++ replicate (places - length xs) 0

-- the entries at the front of both tables, so many
unfoldable pub entries_of : ℕ → List ℕ → List ℕ → List Entry
entries_of zero rows counts = []
entries_of (suc k) [] counts = []
entries_of (suc k) (row ∷ rows) [] = []
entries_of (suc k) (row ∷ rows) (count ∷ counts) = record { row = row; count = count } ∷ entries_of k rows counts

-- the summary that two tables hold
unfoldable pub read : List ℕ → List ℕ → ℕ → ℕ → Summary
read rows counts tracked spillover = record { entries = entries_of tracked rows counts; spillover = spillover }
