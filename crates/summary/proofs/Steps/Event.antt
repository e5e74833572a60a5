-- What the steps of an event and an activation do to levels, estimates and the summary's own rules: the laws that the limit rests on.
use mathlib.Core.Path.{◌≡◌, refl}
use mathlib.Core.Bool.{Bool}
use mathlib.Core.List.{List, [], ◌∷◌, ◌++◌}
use Prim.Native.Nat.{ℕ, ◌+◌, ◌*◌, ◌/◌, ◌≤◌, ◌<◌}
use native.Mathlib.Omega.{arith}
use lib.ListN.{length}
use Rattle.device.proofs.Occurrences.{times, hit_other}
use Rattle.summary.specs.Entries.{Entry, without, without_all}
use Rattle.summary.specs.Steps.{Summary, estimate, disturb_each, drop_rows, spread, activation, picked, taken_out, cleared_if, sources, event}
use Rattle.summary.specs.Rules.{Below, below_none, below_more, Sound}
use Rattle.summary.proofs.Steps.Level.{level_drop, Level, level_more, level_disturb}
use Rattle.summary.proofs.Steps.LevelPicks.{level_picks}
use Rattle.summary.proofs.Steps.Estimate.{estimate_disturb, estimate_drop}
use Rattle.summary.proofs.Rules.Sound.{sound_disturb, sound_drop, sound_each}

pub without_append : (xs ys : List ℕ) (es : List Entry) → without_all (xs ++ ys) es ≡ without_all ys (without_all xs es)
unfolding without_all
without_append [] ys es = refl
without_append (x ∷ xs) ys es = without_append xs ys (without x es)

module _ {high counters : ℕ} where
  level_each : {rows : List ℕ} {size most : ℕ} → Below high rows → {s : Summary} → Sound high counters s → size ≤ counters + 1 → Level size most s → Level size (most + length rows) (disturb_each counters rows s)
  unfolding disturb_each
  level_each below_none k few l = level_more l (omega arith)
  level_each (below_more row b h) {s} k few l =
      level_more (level_each b (sound_disturb row s h k) few (level_disturb counters row s few k.floor l)) (omega arith)

  estimate_each : (v : ℕ) {rows : List ℕ} → Below high rows → {s : Summary} → Sound high counters s → estimate s v + times v rows ≤ estimate (disturb_each counters rows s) v
  unfolding disturb_each times
  estimate_each v below_none k = omega arith
  estimate_each v (below_more row b h) {s} k =
      omega (arith, estimate_disturb counters row v s k.floor, estimate_each v b (sound_disturb row s h k))

  -- steps 1 and 3 of an event, at the level of D slots before and after
  pub level_taken_out : (volume : ℕ) (block : List ℕ) {E D M : ℕ} {s : Summary} → Sound high counters s → 0 < E → D ≤ E → E ≤ D + volume → Level E M s → Level D (M * D / E) (taken_out volume block s)
  unfolding taken_out picked drop_rows
  level_taken_out volume block {s} k pos l few h =
      rw without_append (level_drop block (level_picks volume k.ordered pos l few h))

  pub sound_taken_out : (volume : ℕ) (block : List ℕ) {s : Summary} → Sound high counters s → Sound high counters (taken_out volume block s)
  unfolding taken_out
  sound_taken_out volume block {s} k = sound_drop (picked volume s ++ block) k

pub estimate_taken_out : (row volume : ℕ) (block : List ℕ) (s : Summary) → times row (picked volume s ++ block) ≡ 0 → estimate (taken_out volume block s) row ≡ estimate s row
unfolding taken_out
estimate_taken_out row volume block s e = estimate_drop row (picked volume s ++ block) s e

-- whom a row disturbs: rows of the bank, at most so many
pub record Reach (high most : ℕ) (victims_of : ℕ → List ℕ) : Type 0 where
  pub inside : (row : ℕ) → row < high → Below high (victims_of row)
  pub few : (row : ℕ) → length (victims_of row) ≤ most

-- how often rows disturb a row
unfoldable pub reached : (ℕ → List ℕ) → ℕ → List ℕ → ℕ
reached victims_of v [] = 0
reached victims_of v (row ∷ rows) = times v (victims_of row) + reached victims_of v rows

module _ {high counters reach : ℕ} {victims_of : ℕ → List ℕ} where
  sound_spread : Reach high reach victims_of → {rows : List ℕ} → Below high rows → {s : Summary} → Sound high counters s → Sound high counters (spread counters victims_of rows s)
  unfolding spread
  sound_spread w below_none k = k
  sound_spread w (below_more row b h) {s} k = sound_spread w b (sound_each (w.inside row h) k)

  level_spread : {size most : ℕ} → Reach high reach victims_of → {rows : List ℕ} → Below high rows → {s : Summary} → Sound high counters s → size ≤ counters + 1 → Level size most s → Level size (most + reach * length rows) (spread counters victims_of rows s)
  unfolding spread
  level_spread w below_none k few l = level_more l (omega arith)
  level_spread {size = size} {most = most} w (below_more row {rows} b h) {s} k few l =
      let one : most + length (victims_of row) ≤ most + reach = omega (arith, w.few row) in
      level_more (level_spread {size = size} {most = most + reach} w b (sound_each (w.inside row h) k) few (level_more (level_each (w.inside row h) k few l) one)) (omega arith)

  estimate_spread : (v : ℕ) → Reach high reach victims_of → {rows : List ℕ} → Below high rows → {s : Summary} → Sound high counters s → estimate s v + reached victims_of v rows ≤ estimate (spread counters victims_of rows s) v
  unfolding spread reached
  estimate_spread v w below_none k = omega arith
  estimate_spread v w (below_more row b h) {s} k =
      omega (arith, estimate_each v (w.inside row h) k, estimate_spread v w b (sound_each (w.inside row h) k))

  -- an activation: one row disturbs its victims
  module _ (row : ℕ) (w : Reach high reach victims_of) (h : row < high) {s : Summary} (k : Sound high counters s) where
    pub sound_activation : Sound high counters (activation counters victims_of row s)
    unfolding activation
    sound_activation = sound_each (w.inside row h) (sound_drop (row ∷ []) k)

    pub level_activation : {size most : ℕ} → size ≤ counters + 1 → Level size most s → Level size (most + reach) (activation counters victims_of row s)
    unfolding activation
    level_activation few l =
        level_more (level_each (w.inside row h) (sound_drop (row ∷ []) k) few (level_drop (row ∷ []) l)) (omega (arith, w.few row))

    pub estimate_activation : (v : ℕ) → (row ≡ v → ⊥) → estimate s v + times v (victims_of row) ≤ estimate (activation counters victims_of row s) v
    unfolding activation times
    estimate_activation v other =
        omega (
          arith,
          estimate_drop v (row ∷ []) s (omega (arith, hit_other row v other)),
          estimate_each v (w.inside row h) (sound_drop (row ∷ []) k),
        )

    pub estimate_activated : (v : ℕ) → times v (victims_of row) ≤ estimate (activation counters victims_of row s) v
    unfolding activation
    estimate_activated v = omega (arith, estimate_each v (w.inside row h) (sound_drop (row ∷ []) k))

  -- an event, from the summary that steps 1 to 4 leave
  module _ (volume : ℕ) (block : List ℕ) (last : Bool) (w : Reach high reach victims_of) (s : Summary) (inside : Below high (sources volume block s)) (k : Sound high counters (cleared_if last (taken_out volume block s))) where
    pub estimate_event : (v : ℕ) → estimate (cleared_if last (taken_out volume block s)) v + reached victims_of v (sources volume block s) ≤ estimate (event counters victims_of volume block last s) v
    unfolding event
    estimate_event v = estimate_spread v w inside k

    pub sound_event : Sound high counters (event counters victims_of volume block last s)
    unfolding event
    sound_event = sound_spread w inside k

    pub level_event : {size most : ℕ} → size ≤ counters + 1 → Level size most (cleared_if last (taken_out volume block s)) → Level size (most + reach * length (sources volume block s)) (event counters victims_of volume block last s)
    unfolding event
    level_event few l = level_spread w inside k few l
