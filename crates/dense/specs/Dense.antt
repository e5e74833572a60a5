-- A summary in one table: a count for every row of the bank, 0 where the row is not tracked, and the spillover.
use Rattle.std.specs.Prelude.{ℕ, zero, suc, ◌≤◌, ◌<◌, ◌≡◌, List, [], ◌∷◌, length, get_or}
use Rattle.device.specs.Acceptance.{most_rows}
use Rattle.summary.specs.Entries.{Entry}
use Rattle.summary.specs.Steps.{Summary}
use Rattle.aids.specs.Marks.{Marked, Clear, EmptyFrom}
use Rattle.aids.specs.Bounds.{Capped}
use Rattle.dense.specs.declared.Tally.{Tally}

-- the tracked rows with their counts, ascending, where the table's first place is a row's
unfoldable pub entries_from : ℕ → List ℕ → List Entry
entries_from row [] = []
entries_from row (zero ∷ counts) = entries_from (suc row) counts
entries_from row (suc count ∷ counts) = record { row = row; count = suc count } ∷ entries_from (suc row) counts

-- the summary that a table of counts holds
unfoldable pub dense : List ℕ → ℕ → Summary
dense counts spillover = record { entries = entries_from 0 counts; spillover = spillover }

-- counts with their marks, and what goes with them by value: the number of tracked rows, the spillover, and a hint, a row before which none is at the spillover
pub record Kept (counts marks : List ℕ) (t : Tally) : Type 0 where
  pub marked : Marked counts marks
  pub counted : t.tracked ≡ length (entries_from 0 counts)
  pub floor : (row : ℕ) → 0 < get_or counts row 0 → t.spillover ≤ get_or counts row 0
  pub clear : 0 < t.spillover → Clear counts t.spillover t.hint

-- the summary of a bank of so many rows with so many counters, with all its aids
pub record Bank (rows counters : ℕ) (counts marks bounds : List ℕ) (t : Tally) : Type 0 where
  pub kept : Kept counts marks t
  pub capped : Capped counts bounds
  pub inside : EmptyFrom counts rows
  pub most : rows ≤ most_rows
  pub fits : t.tracked ≤ counters
