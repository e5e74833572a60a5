-- Units of an activation, one after the other: how far counts rise by them, and that the row is dropped once.
use mathlib.Core.Path.{◌≡◌, refl, ◌∙◌, ap}
use mathlib.Core.Bool.{false}
use mathlib.Core.List.{List, [], ◌∷◌}
use Prim.Native.Nat.{ℕ, zero, suc, ◌+◌, ◌*◌, ◌≤◌, ◌<◌}
use native.Mathlib.Nat.{mul-suc}
use native.Mathlib.Numerals.{add-one}
use native.Mathlib.Omega.{arith}
use lib.ListN.{length}
use Rattle.device.specs.Hold.{repeated}
use Rattle.summary.specs.Entries.{has}
use Rattle.summary.specs.Steps.{Summary, activation, disturb_each, drop_rows}
use Rattle.summary.specs.Rules.{Room, RoomFor, Ordered}
use Rattle.summary.specs.Tables.{read}
use Rattle.summary.specs.InnerContracts.{Holds, Held}
use Rattle.summary.proofs.InnerContracts.Holds.{held_read, long_rows, held_again}
use Rattle.summary.proofs.Rules.Room.{room_more, room_drop, room_each}
use Rattle.summary.proofs.Steps.Untracked.{Others, untracked_each, untracked_dropped, drop_untracked}

-- a step that raises no count, and not the spillover, by more than a few
pub room_repeated : (step : Summary → Summary) (few : ℕ) → ((most : ℕ) (x : Summary) → Room most x → Room (most + few) (step x)) → {most : ℕ} (units : ℕ) (sum : Summary) → Room most sum → Room (most + few * units) (repeated units step sum)
unfolding repeated
room_repeated step few each zero sum r = room_more r (omega arith)
room_repeated step few each {most} (suc units) sum r =
    room_more (each (most + few * units) (repeated units step sum) (room_repeated step few each units sum r)) (omega (arith, mul-suc few units))

module _ (counters : ℕ) (victims_of : ℕ → List ℕ) (row : ℕ) where
  pub room_units : {most : ℕ} (few : ℕ) → length (victims_of row) ≤ few → (units : ℕ) (sum : Summary) → Room most sum → Room (most + few * units) (repeated units (activation counters victims_of row) sum)
  unfolding activation
  room_units few h =
      room_repeated (activation counters victims_of row) few
      (λ most x r. room_more (room_each counters (victims_of row) (drop_rows (row ∷ []) x) (room_drop (row ∷ []) r)) (omega arith))

  -- a row that is none of its victims is not tracked between units
  untracked_units : Others row (victims_of row) → (units : ℕ) (sum : Summary) → has row sum.entries ≡ false → has row (repeated units (disturb_each counters (victims_of row)) sum).entries ≡ false
  unfolding repeated
  untracked_units others zero sum e = e
  untracked_units others (suc units) sum e =
      untracked_each counters row (victims_of row) (repeated units (disturb_each counters (victims_of row)) sum) others (untracked_units others units sum e)

  -- so it is dropped once
  dropped_once : Others row (victims_of row) → (sum : Summary) → has row (drop_rows (row ∷ []) sum).entries ≡ false → (k : ℕ) → repeated (suc k) (activation counters victims_of row) sum ≡ repeated (suc k) (disturb_each counters (victims_of row)) (drop_rows (row ∷ []) sum)
  unfolding repeated activation
  dropped_once others sum e zero = refl
  dropped_once others sum e (suc k) =
      let spread = repeated (suc k) (disturb_each counters (victims_of row)) (drop_rows (row ∷ []) sum) in
      ap (activation counters victims_of row) (dropped_once others sum e k) ∙
      ap (disturb_each counters (victims_of row)) (drop_untracked row spread (untracked_units others (suc k) (drop_rows (row ∷ []) sum) e))

  pub units_drop_once : Others row (victims_of row) → (sum : Summary) {high low : ℕ} → Ordered high low sum.entries → (units : ℕ) → 1 ≤ units → repeated units (activation counters victims_of row) sum ≡ repeated units (disturb_each counters (victims_of row)) (drop_rows (row ∷ []) sum)
  units_drop_once others sum o zero h = absurd (omega arith)
  units_drop_once others sum o (suc k) h = dropped_once others sum (untracked_dropped row sum o) k
