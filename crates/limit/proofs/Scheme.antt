-- What the argument needs of a tracker, whatever its settings: sizes that grow by at most the volume up to the counters, and rows that disturb few
-- others, each once. The bound of so many events, as the document's loop gives it.
use mathlib.Core.Path.{◌≡◌}
use mathlib.Core.List.{List}
use Prim.Native.Nat.{ℕ, suc, ◌+◌, ◌*◌, ◌≤◌, ◌<◌}
use Rattle.device.proofs.Occurrences.{times}
use Rattle.bound.specs.Totals.{total}
use Rattle.summary.proofs.Steps.Event.{Reach}

pub record Scheme : Type 0 where
  pub rows : ℕ
  pub counters : ℕ
  pub volume : ℕ
  pub window : ℕ
  -- the most rows that one row disturbs, and that disturb others from one event to the next
  pub reach : ℕ
  pub disturbers : ℕ
  pub size : ℕ → ℕ
  pub victims_of : ℕ → List ℕ
  pub first : size 0 ≡ 1
  pub positive : (j : ℕ) → 0 < size j
  pub grows : (j : ℕ) → size j ≤ size (suc j)
  pub steps : (j : ℕ) → size (suc j) ≤ size j + volume
  pub most : (j : ℕ) → size j ≤ counters + 1
  pub reaches : Reach rows reach victims_of
  pub once : (row v : ℕ) → row < rows → times v (victims_of row) ≤ 1

-- the total of j steps from t, and from 0
abbrev pub total_from : Scheme → ℕ → ℕ → ℕ
total_from c j t = total c.size (c.reach * c.disturbers) j t

abbrev pub total_of : Scheme → ℕ → ℕ
total_of c j = total_from c j 0
