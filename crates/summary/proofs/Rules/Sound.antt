-- A summary that breaks no rule breaks none after any step.
use mathlib.Core.Path.{◌≡◌}
use mathlib.Core.Bool.{true, false}
use mathlib.Core.List.{List}
use Prim.Native.Nat.{ℕ, ◌+◌, ◌<◌}
use native.Mathlib.Omega.{arith}
use lib.ListN.{length}
use Rattle.summary.specs.Entries.{has, has_count, without_count}
use Rattle.summary.specs.Steps.{Summary, empty, disturb, disturb_each, drop_rows, enter, raise, make_room, spill}
use Rattle.summary.specs.Rules.{floor_none, ordered_none, Below, below_none, below_more, Sound}
use Rattle.summary.proofs.Entries.Lengths.{length_raised, length_entered, length_without_count, length_without_all}
use Rattle.summary.proofs.Steps.Disturb.{by_cases}
use Rattle.summary.proofs.Rules.Floor.{floor_lower, floor_without_all, floor_raised, floor_entered, floor_without_count, floor_rises}
use Rattle.summary.proofs.Rules.Order.{ordered_without_all, ordered_raised, ordered_entered, ordered_without_count}
use Rattle.summary.proofs.Entries.Tracked.{untracked_without_count}

pub sound_empty : {high counters : ℕ} → Sound high counters empty
unfolding empty
sound_empty = record { floor = floor_none; positive = floor_none; ordered = ordered_none; fits = omega arith }

module _ {high counters : ℕ} where
  pub sound_drop : (rows : List ℕ) {s : Summary} → Sound high counters s → Sound high counters (drop_rows rows s)
  unfolding drop_rows
  sound_drop rows {s} k =
      record {
        floor = floor_without_all rows k.floor;
        positive = floor_without_all rows k.positive;
        ordered = ordered_without_all rows k.ordered;
        fits = omega (arith, length_without_all rows s.entries);
      }

  -- a row that is not tracked is entered; a place is free
  pub sound_enter : (row : ℕ) (s : Summary) → row < high → has row s.entries ≡ false → length s.entries < counters → Sound high counters s → Sound high counters (enter row s)
  sound_enter row s h untracked free k =
      record {
        floor = floor_entered row (s.spillover + 1) k.floor (omega arith);
        positive = floor_entered row (s.spillover + 1) k.positive (omega arith);
        ordered = ordered_entered row (s.spillover + 1) k.ordered untracked (omega arith) h;
        fits = omega (arith, length_entered row (s.spillover + 1) s.entries);
      }

  -- the first row of a count is dropped
  pub sound_without_count : (count : ℕ) (s : Summary) → has_count count s.entries ≡ true → Sound high counters s → Sound high counters (record { entries = without_count count s.entries; spillover = s.spillover })
  sound_without_count count s low k =
      record {
        floor = floor_without_count count k.floor;
        positive = floor_without_count count k.positive;
        ordered = ordered_without_count count k.ordered;
        fits = omega (arith, length_without_count count s.entries low, k.fits);
      }

  pub sound_raise : (row : ℕ) (s : Summary) → Sound high counters s → Sound high counters (raise row s)
  sound_raise row s k =
      record {
        floor = floor_raised row k.floor;
        positive = floor_raised row k.positive;
        ordered = ordered_raised row k.ordered;
        fits = omega (arith, length_raised row s.entries, k.fits);
      }

  -- no row is at the spillover, which rises
  pub sound_spill : (s : Summary) → has_count s.spillover s.entries ≡ false → Sound high counters s → Sound high counters (spill s)
  sound_spill s up k =
      record { floor = floor_lower (omega arith) (floor_rises k.floor up); positive = k.positive; ordered = k.ordered; fits = k.fits }

  pub sound_disturb : (row : ℕ) (s : Summary) → row < high → Sound high counters s → Sound high counters (disturb counters row s)
  sound_disturb row s h k =
      by_cases (λ made. Sound high counters made) counters row s
      (λ tracked. sound_raise row s k)
      (λ untracked free. sound_enter row s h untracked free k)
      (λ untracked full low.
      sound_enter row (make_room s) h (untracked_without_count row s.spillover s.entries untracked)
      (omega (arith, length_without_count s.spillover s.entries low, k.fits))
      (sound_without_count s.spillover s low k))
      (λ untracked full high. sound_spill s high k)

  pub sound_each : {rows : List ℕ} → Below high rows → {s : Summary} → Sound high counters s → Sound high counters (disturb_each counters rows s)
  unfolding disturb_each
  sound_each below_none k = k
  sound_each (below_more row b h) {s} k = sound_each b (sound_disturb row s h k)
