-- The regular block of an event: rows of the bank, ascending, at most P, and set to 0 with the event's rows.
use mathlib.Core.Path.{◌≡◌}
use mathlib.Core.Logic.{⊎_elim}
use mathlib.Core.List.{List}
use Prim.Native.Nat.{ℕ, suc, ◌+◌, ◌*◌, ◌≤◌, ◌<◌, min}
use native.Mathlib.Omega.{arith}
use lib.ListN.{length}
use Rattle.device.specs.declared.Settings.{Settings}
use Rattle.device.proofs.Victims.{ascends_none, ascends_more, Ascends, between_ascends, between_length}
use Rattle.device.proofs.Occurrences.{times_between}
use Rattle.summary.specs.Rules.{Below, below_none, below_more}
use Rattle.tracker.specs.Calls.{block_rows}
use Rattle.limit.specs.Exact.{restored}
use Rattle.limit.proofs.Exact.{restored_cases}

pub below_ascends : {low high : ℕ} {rows : List ℕ} → Ascends low high rows → Below high rows
below_ascends ascends_none = below_none
below_ascends (ascends_more {row} later from below) = below_more row (below_ascends later) below

pub block_ascends : (s : Settings) (e : ℕ) → Ascends (e * s.block) s.rows (block_rows s e)
unfolding block_rows
block_ascends s e = between_ascends (e * s.block) (min (e * s.block + s.block) s.rows) (omega arith)

pub block_length_le : (s : Settings) (e : ℕ) → length (block_rows s e) ≤ s.block
unfolding block_rows
block_length_le s e = rw (between_length (e * s.block) (min (e * s.block + s.block) s.rows)) (omega arith)

pub block_below : (s : Settings) (e : ℕ) → Below s.rows (block_rows s e)
block_below s e = below_ascends (block_ascends s e)

-- its rows are those from e × P on, up to the next event's
pub block_restored : (s : Settings) (named : List ℕ) (e : ℕ) (d : ℕ → ℕ) (v : ℕ) → v < s.rows → e * s.block ≤ v → v < suc e * s.block → restored named (block_rows s e) d v ≡ 0
unfolding block_rows
block_restored s named e d v inside from before =
    ⊎_elim
    (λ gone. gone)
    (λ kept.
    absurd
    (omega (arith, kept.1, times_between v (e * s.block) (min (e * s.block + s.block) s.rows) from (omega arith))))
    (restored_cases named (block_rows s e) d v)
