-- The victims of a row: exactly the other rows of its subarray, in the bank and within reach, ascending, so none twice, and at most as many as
-- the blast diameter; in a bank of one subarray, those that the bank's ends leave.
use mathlib.Core.Path.{◌≡◌, sym}
use mathlib.Core.Logic.{⊎_elim}
use mathlib.Core.List.Memᴰ
use mathlib.Core.List.{List, [], ◌∷◌, ◌++◌, Memᴰ}
use Prim.Native.Nat.{ℕ, zero, suc, ◌+◌, ◌-◌, ◌*◌, ◌/◌, ◌≤◌, ◌<◌, min, max}
use native.Mathlib.Nat.{eq-or-lt_of_le}
use native.Mathlib.Numerals.{add-one}
use native.Mathlib.Omega.{arith}
use lib.ListN.{length, get_or, length-append}
use Rattle.laws.proofs.Cases.{le_or_lt}
use Rattle.device.specs.Victims.{rows_from, rows_between, within_reach, subarray_rows, subarray, subarray_start, subarray_end, victims}
use Rattle.device.specs.Claims.{distance}

-- rows from low on and below high, each above the one before
pub data Ascends : ℕ → ℕ → List ℕ → Type 0 where
  ascends_none : {low high : ℕ} → Ascends low high []
  ascends_more : {low high row : ℕ} {rows : List ℕ} → Ascends (suc row) high rows → low ≤ row → row < high → Ascends low high (row ∷ rows)

ascends_widen : {low high low' high' : ℕ} {rows : List ℕ} → Ascends low high rows → low' ≤ low → high ≤ high' → Ascends low' high' rows
ascends_widen ascends_none l h = ascends_none
ascends_widen {low'} {high'} (ascends_more {row} later from below) l h =
    ascends_more {low = low'} {high = high'} {row = row} (ascends_widen later (omega arith) h) (omega arith) (omega arith)

ascends_append : {low middle high : ℕ} {front back : List ℕ} → Ascends low middle front → Ascends middle high back → low ≤ middle → middle ≤ high → Ascends low high (front ++ back)
ascends_append ascends_none back l h = ascends_widen back l (omega arith)
ascends_append {low} {high} (ascends_more {row} later from below) back l h =
    ascends_more {low = low} {high = high} {row = row} (ascends_append later back (omega arith) h) from (omega arith)

-- a number of ascending ones is from low on, and below those behind it
from_low : {low high : ℕ} {rows : List ℕ} → Ascends low high rows → (i : ℕ) → i < length rows → low ≤ get_or rows i 0
from_low ascends_none i h = absurd (omega arith)
from_low (ascends_more later from below) zero h = from
from_low (ascends_more later from below) (suc i) h = omega (arith, from_low later i (omega arith))

pub ascends_at : {low high : ℕ} {rows : List ℕ} → Ascends low high rows → (i j : ℕ) → i < j → j < length rows → get_or rows i 0 < get_or rows j 0
ascends_at ascends_none i j h l = absurd (omega arith)
ascends_at (ascends_more later from below) i zero h l = absurd (omega arith)
ascends_at (ascends_more later from below) zero (suc j) h l = from_low later j (omega arith)
ascends_at (ascends_more later from below) (suc i) (suc j) h l = ascends_at later i j (omega arith) (omega arith)

from_ascends : (k low high : ℕ) → low + k ≤ high → Ascends low high (rows_from k low)
unfolding rows_from
from_ascends zero low high h = ascends_none
from_ascends (suc k) low high h =
    ascends_more {low = low} {high = high} {row = low} (from_ascends k (suc low) high (omega arith)) (omega arith) (omega arith)

from_length : (k low : ℕ) → length (rows_from k low) ≡ k
unfolding rows_from
from_length zero low = omega arith
from_length (suc k) low = omega (arith, from_length k (suc low))

-- a run of rows below a row ascends, and is as long as the rows are apart
pub between_ascends : (low high : ℕ) {top : ℕ} → high ≤ top → Ascends low top (rows_between low high)
unfolding rows_between rows_from
between_ascends low high {top} h =
    ⊎_elim
    (λ apart. from_ascends (high - low) low top (omega arith))
    (λ past. let nothing : high - low ≡ 0 = omega arith in rw nothing ascends_none)
    (le_or_lt low high)

pub between_length : (low high : ℕ) → length (rows_between low high) ≡ high - low
unfolding rows_between
between_length low high = from_length (high - low) low

-- membership: exactly the rows from low on and below low + k
in_from : (k low v : ℕ) → Memᴰ v (rows_from k low) → (low ≤ v) × (v < low + k)
unfolding rows_from
in_from zero low v m = absurd (Memᴰ.not-nil m)
in_from (suc k) low v m = ⊎_elim (λ e. omega arith) (λ m. let r = in_from k (suc low) v m in omega arith) (Memᴰ.cases_cons m)

from_in : (k low v : ℕ) → low ≤ v → v < low + k → Memᴰ v (rows_from k low)
unfolding rows_from
from_in zero low v l h = absurd (omega arith)
from_in (suc k) low v l h =
    ⊎_elim (λ e. Memᴰ.head (sym e)) (λ below. Memᴰ.tail (from_in k (suc low) v below (omega arith))) (eq-or-lt_of_le l)

pub in_between : (low high v : ℕ) → Memᴰ v (rows_between low high) → (low ≤ v) × (v < high)
unfolding rows_between
in_between low high v m = let r = in_from (high - low) low v m in omega arith

pub between_in : (low high v : ℕ) → low ≤ v → v < high → Memᴰ v (rows_between low high)
unfolding rows_between
between_in low high v l h = from_in (high - low) low v l (omega arith)

-- the rows within reach, of those from low on and below high, where the row itself is one of these
module _ (low high reach row : ℕ) where
  in_reach : low ≤ row → row < high → (v : ℕ) → Memᴰ v (within_reach low high reach row) → (low ≤ v) × (v < high) × (1 ≤ distance v row) × (distance v row ≤ reach)
  unfolding within_reach rows_between
  in_reach l h v m =
      ⊎_elim
      (λ below. let r = in_from (row - max low (row - reach)) (max low (row - reach)) v below in omega arith)
      (λ above. let r = in_from (min (row + 1 + reach) high - (row + 1)) (row + 1) v above in omega arith)
      (Memᴰ.append_cases (rows_from (row - max low (row - reach)) (max low (row - reach))) m)

  reach_in : (v : ℕ) → low ≤ v → v < high → 1 ≤ distance v row → distance v row ≤ reach → Memᴰ v (within_reach low high reach row)
  unfolding within_reach rows_between
  reach_in v l h far near = ⊎_elim below above (le_or_lt v row)
    where
      below : v ≤ row → Memᴰ v (within_reach low high reach row)
      below b =
          Memᴰ.append_left (rows_between (row + 1) (min (row + 1 + reach) high))
          (from_in (row - max low (row - reach)) (max low (row - reach)) v (omega arith) (omega arith))

      above : row < v → Memᴰ v (within_reach low high reach row)
      above a =
          Memᴰ.append_right (rows_between (max low (row - reach)) row)
          (from_in (min (row + 1 + reach) high - (row + 1)) (row + 1) v (omega arith) (omega arith))

  reach_ascends : low ≤ row → row < high → Ascends low high (within_reach low high reach row)
  unfolding within_reach
  reach_ascends l h =
      ascends_append {middle = row + 1}
      (ascends_widen (between_ascends (max low (row - reach)) row {top = row} (omega arith)) (omega arith) (omega arith))
      (between_ascends (row + 1) (min (row + 1 + reach) high) (omega arith))
      (omega arith)
      (omega arith)

  length_reach_le : length (within_reach low high reach row) ≤ 2 * reach
  unfolding within_reach
  length_reach_le = simp (length-append, between_length) (omega arith)

module _ (rows diameter row : ℕ) where
  -- 'at distance 1 to B/2 that exist', 'in the same 512-row part'
  pub victim_near : row < rows → (v : ℕ) → Memᴰ v (victims rows diameter row) → (v < rows) × (subarray v ≡ subarray row) × (1 ≤ distance v row) × (distance v row ≤ diameter / 2)
  unfolding victims
  victim_near h v m =
      let r = in_reach (subarray_start row) (subarray_end rows row) (diameter / 2) row (omega arith) (omega arith) v m in
      (omega arith, omega arith, r.2, r.3)

  pub near_victim : (v : ℕ) → v < rows → subarray v ≡ subarray row → 1 ≤ distance v row → distance v row ≤ diameter / 2 → Memᴰ v (victims rows diameter row)
  unfolding victims
  near_victim v h same far near =
      reach_in (subarray_start row) (subarray_end rows row) (diameter / 2) row v (omega arith) (omega arith) far near

  -- ascending and below the bank's end, so none twice
  pub victims_ascend : row < rows → Ascends 0 rows (victims rows diameter row)
  unfolding victims
  victims_ascend h =
      ascends_widen
      (reach_ascends (subarray_start row) (subarray_end rows row) (diameter / 2) row (omega arith) (omega arith))
      (omega arith)
      (omega arith)

  -- at most as many as the blast diameter
  pub length_victims_le : length (victims rows diameter row) ≤ diameter
  unfolding victims
  length_victims_le =
      omega (arith, length_reach_le (subarray_start row) (subarray_end rows row) (diameter / 2) row)

  -- in a bank of one subarray the cut is at the bank's ends
  pub victims_uncut : rows ≤ subarray_rows → row < rows → victims rows diameter row ≡ within_reach 0 rows (diameter / 2) row
  unfolding victims
  victims_uncut small h =
      let first : subarray_start row ≡ 0 = omega arith in
      let last : subarray_end rows row ≡ rows = omega arith in
      rw (last, first)

-- a run of rows, one row further, and none
pub between_step : (row high : ℕ) → row < high → rows_between row high ≡ row ∷ rows_between (row + 1) high
unfolding rows_between rows_from
between_step row high h =
    let one : high - row ≡ suc (high - (row + 1)) = omega arith in
    rw (one, add-one row)

pub between_none : (row high : ℕ) → high ≤ row → rows_between row high ≡ []
unfolding rows_between rows_from
between_none row high h = let nothing : high - row ≡ 0 = omega arith in rw nothing
