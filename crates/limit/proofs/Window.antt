-- One window: the invariant of the averaging argument, kept by an activation, by an event with any block, and by the event that ends the window.
use mathlib.Core.Path.{◌≡◌}
use mathlib.Core.Bool.{true, false}
use mathlib.Core.Logic.{◌⊎◌, ⊎_elim}
use mathlib.Core.List.{List, [], ◌∷◌, ◌++◌}
use Prim.Native.Nat.{ℕ, suc, ◌+◌, ◌*◌, ◌/◌, ◌≤◌, ◌<◌}
use native.Mathlib.Nat.{mul-le-mul_left, add-zero, zero-add}
use native.Mathlib.Omega.{arith}
use borrow.Author.Tests.{eq-eqb}
use lib.ListN.{length}
use Rattle.device.proofs.Occurrences.{hit, times}
use Rattle.bound.specs.Totals.{total}
use Rattle.summary.specs.Steps.{Summary, empty, estimate, activation, picked, taken_out, cleared_if, sources, event}
use Rattle.summary.proofs.Steps.Level.{Level, level_more, estimate_level, level_empty}
use Rattle.summary.specs.Rules.{Sound, Below, below_none, below_more}
use Rattle.summary.proofs.Rules.Sound.{sound_empty}
use Rattle.summary.proofs.Steps.Sources.{sources_below}
use Rattle.summary.proofs.Steps.Event.{reached, sound_activation, level_activation, estimate_activation, estimate_activated, level_taken_out, sound_taken_out, estimate_taken_out, sound_event, level_event, estimate_event}
use Rattle.limit.proofs.Scheme.{Scheme, total_from, total_of}

-- after e events, with j more to come: the size(j) largest slots sum to at most a number from which j steps lead no further than j + e from 0,
-- and to what g rows have added since the last event took out its picks
pub record LevelAt (c : Scheme) (j e g : ℕ) (s : Summary) : Type 0 where
  pub sum : ℕ
  pub under : total_from c j sum ≤ total_of c (j + e)
  pub level : Level (c.size j) (sum + c.reach * g) s

-- e events into a window, g rows since the last event; cur: each row's disturbance in this window
pub record Window (c : Scheme) (e g : ℕ) (cur : ℕ → ℕ) (s : Summary) : Type 0 where
  pub sound : Sound c.rows c.counters s
  pub levels : (j : ℕ) → j + e < c.window → LevelAt c j e g s
  pub estimates : (v : ℕ) → cur v ≤ estimate s v
  pub closer : (v : ℕ) → cur v ≤ total_of c e + g

-- a window begins
pub window_empty : (c : Scheme) → Window c 0 0 (λ v. 0) empty
window_empty c =
    record {
      sound = sound_empty;
      levels = λ j h. record { sum = 0; under = rw (add-zero j) (omega arith); level = level_empty (0 + c.reach * 0) };
      estimates = λ v. omega arith;
      closer = λ v. omega arith;
    }

-- what each row's number becomes where rows are set to 0 and rows disturb their victims: only what disturbs it, or, for a row not among the
-- former, that besides
unfoldable pub Renewed : Scheme → List ℕ → List ℕ → (ℕ → ℕ) → (ℕ → ℕ) → Type 0
Renewed c rows sources cur cur' =
    (v : ℕ) →
    (cur' v ≤ reached c.victims_of v sources) ⊎
    ((times v rows ≡ 0) × (cur' v ≤ cur v + reached c.victims_of v sources))

not_itself : (row v : ℕ) → times v (row ∷ []) ≡ 0 → row ≡ v → ⊥
unfolding times hit
not_itself row v e same = let e' = rw (eq-eqb row v same) at e in omega arith

-- a row is dropped and disturbs its victims
pub window_activation : (c : Scheme) (row : ℕ) {e g : ℕ} {cur cur' : ℕ → ℕ} {s : Summary} → row < c.rows → Window c e g cur s → Renewed c (row ∷ []) (row ∷ []) cur cur' → Window c e (g + 1) cur' (activation c.counters c.victims_of row s)
unfolding Renewed reached
window_activation c row {e} {g} {cur} {cur'} {s} h w step =
    record {
      sound = sound_activation row c.reaches h w.sound;
      levels = λ j less.
          let a = w.levels j less in
          record {
            sum = a.sum;
            under = a.under;
            level = level_more (level_activation row c.reaches h w.sound (c.most j) a.level) (omega arith);
          };
      estimates = λ v.
          ⊎_elim
          (λ gone. omega (arith, gone, estimate_activated row c.reaches h w.sound v))
          (λ other.
          omega (arith, other.1, w.estimates v, estimate_activation row c.reaches h w.sound v (not_itself row v other.0)))
          (step v);
      closer = λ v.
          ⊎_elim
          (λ gone. omega (arith, gone, c.once row v h))
          (λ other. omega (arith, other.1, w.closer v, c.once row v h))
          (step v);
    }

-- rows of the bank disturb a row at most once each
pub reached_le : (c : Scheme) (v : ℕ) {rows : List ℕ} → Below c.rows rows → reached c.victims_of v rows ≤ length rows
unfolding reached
reached_le c v below_none = omega arith
reached_le c v (below_more row b h) = omega (arith, c.once row v h, reached_le c v b)

-- steps 1 and 3 of an event: one more event, and nobody has disturbed anything since
levels_taken_out : (c : Scheme) (block : List ℕ) {e g : ℕ} {cur : ℕ → ℕ} {s : Summary} → Window c e g cur s → g ≤ c.disturbers → (j : ℕ) → j + suc e < c.window → LevelAt c j (suc e) 0 (taken_out c.volume block s)
unfolding total
levels_taken_out c block {e} {g} {cur} {s} w few j less =
    let a = w.levels (suc j) (omega arith) in
    let added : ℕ = c.reach * c.disturbers in
    let more_rows : a.sum + c.reach * g ≤ a.sum + added = omega (arith, mul-le-mul_left c.reach few) in
    let same : suc j + e ≡ j + suc e = omega arith in
    record {
      sum = (a.sum + added) * c.size j / c.size (suc j);
      under = rw same at a.under;
      level =
          level_more
          (level_taken_out c.volume block w.sound (c.positive (suc j)) (c.grows j) (c.steps j) (level_more a.level more_rows))
          (omega arith);
    }

-- an event within a window
pub window_event : (c : Scheme) {block : List ℕ} {e g : ℕ} {cur cur' : ℕ → ℕ} {s : Summary} → Below c.rows block → Window c e g cur s → g ≤ c.disturbers → suc e < c.window → Renewed c (picked c.volume s ++ block) (sources c.volume block s) cur cur' → Window c (suc e) (length (sources c.volume block s)) cur' (event c.counters c.victims_of c.volume block false s)
unfolding Renewed cleared_if total
window_event c {block} {e} {g} {cur} {cur'} {s} inside w few within step =
    record {
      sound = sound_event c.volume block false c.reaches s from_bank rest;
      levels = λ j less.
          let a = levels_taken_out c block w few j less in
          record {
            sum = a.sum;
            under = a.under;
            level = level_more (level_event c.volume block false c.reaches s from_bank rest (c.most j) a.level) (omega arith);
          };
      estimates = λ v.
          let rises = estimate_event c.volume block false c.reaches s from_bank rest v in
          ⊎_elim
          (λ gone. omega arith)
          (λ other. omega (arith, other.1, w.estimates v, estimate_taken_out v c.volume block s other.0))
          (step v);
      closer = λ v.
          let a = levels_taken_out c block w few 0 (omega arith) in
          let under : a.sum ≤ total_of c (suc e) = rw (zero-add (suc e)) at a.under in
          ⊎_elim
          (λ gone. omega (arith, gone, reached_le c v from_bank))
          (λ other.
          omega (
            arith,
            other.1,
            w.estimates v,
            estimate_taken_out v c.volume block s other.0,
            estimate_level (rw c.first at a.level) v,
            reached_le c v from_bank,
          ))
          (step v);
    }
  where
    from_bank : Below c.rows (sources c.volume block s)
    from_bank = sources_below c.volume s w.sound.ordered inside

    rest : Sound c.rows c.counters (taken_out c.volume block s)
    rest = sound_taken_out c.volume block w.sound

-- the event that ends a window: what it disturbs is the next window's
pub window_last_event : (c : Scheme) {block : List ℕ} {e g : ℕ} {cur cur' : ℕ → ℕ} {s : Summary} → Below c.rows block → Window c e g cur s → ((v : ℕ) → cur' v ≤ reached c.victims_of v (sources c.volume block s)) → Window c 0 (length (sources c.volume block s)) cur' (event c.counters c.victims_of c.volume block true s)
unfolding cleared_if
window_last_event c {block} {cur'} {s} inside w step =
    record {
      sound = sound_event c.volume block true c.reaches s from_bank sound_empty;
      levels = λ j less.
          record {
            sum = 0;
            under = rw (add-zero j) (omega arith);
            level = level_event c.volume block true c.reaches s from_bank sound_empty (c.most j) (level_empty 0);
          };
      estimates = λ v. omega (arith, step v, estimate_event {counters = c.counters} c.volume block true c.reaches s from_bank sound_empty v);
      closer = λ v. omega (arith, step v, reached_le c v from_bank);
    }
  where
    from_bank : Below c.rows (sources c.volume block s)
    from_bank = sources_below c.volume s w.sound.ordered inside
