-- The rows that a row disturbs.
use Rattle.std.specs.Prelude.{ℕ, zero, suc, ◌+◌, ◌-◌, ◌*◌, ◌/◌, min, max, List, [], ◌∷◌, ◌++◌}

-- so many rows in ascending order, from a row on
unfoldable pub rows_from : ℕ → ℕ → List ℕ
rows_from zero row = []
rows_from (suc k) row = row ∷ rows_from k (suc row)

-- rows low to high, without high
unfoldable pub rows_between : ℕ → ℕ → List ℕ
rows_between low high = rows_from (high - low) low

-- of the rows from low on and below high, those at distance 1 to reach of a row, ascending
unfoldable pub within_reach : ℕ → ℕ → ℕ → ℕ → List ℕ
within_reach low high reach row =
    rows_between (max low (row - reach)) row ++ rows_between (row + 1) (min (row + 1 + reach) high)

-- the rows of a subarray: the die 'is cut every 512 rows by a stripe of sense amplifiers'
abbrev pub subarray_rows : ℕ
subarray_rows = 512

-- the subarray ('512-row part') of a row, 'counted from row 0'
abbrev pub subarray : ℕ → ℕ
subarray row = row / subarray_rows

-- the first row of a row's subarray
abbrev pub subarray_start : ℕ → ℕ
subarray_start row = subarray row * subarray_rows

-- the row behind its last in a bank of so many rows, which may end within it
abbrev pub subarray_end : ℕ → ℕ → ℕ
subarray_end rows row = min (subarray_start row + subarray_rows) rows

-- the victims of a row ('neighbours'): those at distance 1 to B/2 that exist, 'in the same 512-row part', ascending
unfoldable pub victims : ℕ → ℕ → ℕ → List ℕ
victims rows diameter row = within_reach (subarray_start row) (subarray_end rows row) (diameter / 2) row
