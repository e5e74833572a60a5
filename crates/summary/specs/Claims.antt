-- What is claimed of the summary, besides the functions' contracts. proofs/Claims.antt proves each under the same name.
use Rattle.std.specs.Prelude.{ℕ, ◌<◌, min, ◌≡◌, true, false, ◌⊎◌, List, length, get_or}
use Rattle.summary.specs.Entries.{has}
use Rattle.summary.specs.Steps.{Summary, estimate, in_rows, picked}
use Rattle.summary.specs.Rules.{Ordered}

-- one row beats another: its count is higher, or the counts are equal and it is the lower row
unfoldable pub Beats : Summary → ℕ → ℕ → Type 0
Beats s row other = (estimate s other < estimate s row) ⊎ ((estimate s row ≡ estimate s other) × (row < other))

-- 'the V rows of highest count, equal counts by lower row' of those that are tracked, in that order; all of them if they are fewer
pub record Highest (volume : ℕ) (s : Summary) (rows : List ℕ) : Type 0 where
  pub tracked : (row : ℕ) → in_rows row rows ≡ true → has row s.entries ≡ true
  pub above_others : (row other : ℕ) → in_rows row rows ≡ true → has other s.entries ≡ true → in_rows other rows ≡ false → Beats s row other
  pub in_order : (i j : ℕ) → i < j → j < length rows → Beats s (get_or rows i 0) (get_or rows j 0)
  pub as_many : length rows ≡ min volume (length s.entries)

-- the picked rows are the highest
unfoldable pub PicksAreHighest : Type 0
PicksAreHighest = (high volume : ℕ) (s : Summary) → Ordered high 0 s.entries → Highest volume s (picked volume s)
