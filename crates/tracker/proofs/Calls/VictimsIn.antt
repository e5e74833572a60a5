-- `victims_in`: the rows that a row disturbs are two runs around it, at most four rows, not the row itself, and raise counts by little.
use mathlib.Core.Path.{◌≡◌, refl}
use mathlib.Core.List.{List, [], ◌∷◌, ◌++◌}
use Prim.Native.Nat.{ℕ, ◌+◌, ◌-◌, ◌/◌, ◌≤◌, ◌<◌, min, max}
use native.Mathlib.Omega.{arith}
use lib.ListN.{length}
use Rattle.device.specs.declared.Settings.{Settings}
use Rattle.device.specs.Victims.{rows_between, within_reach, subarray_rows, subarray_start, subarray_end, victims}
use Rattle.device.proofs.Victims.{between_length, victim_near, length_victims_le}
use Rattle.summary.specs.Steps.{Summary, disturb, disturb_each}
use Rattle.summary.specs.Rules.{RoomFor}
use Rattle.summary.proofs.Rules.Room.{room_more, room_each}
use Rattle.summary.proofs.Steps.Untracked.{Others}
use Rattle.summary.proofs.Turned.{each_append}
use Rattle.tracker.specs.Calls.{victims_in}

-- the row behind the highest within reach in a subarray, where the bank may end before it
pub behind_top : (row reach end rows : ℕ) {high top : ℕ} → 0 < end → top ≡ min (row + reach) (end - 1) → high ≡ min (top + 1) rows → high ≡ min (row + 1 + reach) (min end rows)
behind_top row reach end rows some et eh = omega arith

-- the victims of a row are the rows around it, from the lowest within its reach to the highest that the bank has
pub victims_around : (s : Settings) (row : ℕ) {low high top : ℕ} → low ≡ max (subarray_start row) (row - s.blast_diameter / 2) → top ≡ min (row + s.blast_diameter / 2) (subarray_start row + subarray_rows - 1) → high ≡ min (top + 1) s.rows → victims_in s row ≡ rows_between low row ++ rows_between (row + 1) high
unfolding victims_in victims within_reach
victims_around s row el et eh = rw (el, behind_top row (s.blast_diameter / 2) (subarray_start row + subarray_rows) s.rows (omega arith) et eh)

-- those below it, then those above it
pub victims_split : (s : Settings) (counters row : ℕ) (sum : Summary) {low high top : ℕ} → low ≡ max (subarray_start row) (row - s.blast_diameter / 2) → top ≡ min (row + s.blast_diameter / 2) (subarray_start row + subarray_rows - 1) → high ≡ min (top + 1) s.rows → disturb_each counters (victims_in s row) sum ≡ disturb_each counters (rows_between (row + 1) high) (disturb_each counters (rows_between low row) sum)
victims_split s counters row sum {low} {high} el et eh =
    rw (victims_around s row el et eh) (each_append counters (rows_between low row) (rows_between (row + 1) high) sum)

-- a short run raises counts by little
pub room_between : (counters low high : ℕ) (sum : Summary) → RoomFor 128 sum → high - low ≤ 64 → RoomFor 64 (disturb_each counters (rows_between low high) sum)
room_between counters low high sum r few =
    room_more (room_each counters (rows_between low high) sum r) (omega (arith, between_length low high))

-- the victims of an accepted device's row are at most four
pub victims_four : (s : Settings) (row : ℕ) → s.blast_diameter ≤ 4 → length (victims_in s row) ≤ 4
unfolding victims_in
victims_four s row h = omega (arith, length_victims_le s.rows s.blast_diameter row)

-- a row is none of its own
pub victims_others : (s : Settings) (row : ℕ) → row < s.rows → Others row (victims_in s row)
unfolding victims_in
victims_others s row h v m same = omega (arith, (victim_near s.rows s.blast_diameter row h v m).2)
