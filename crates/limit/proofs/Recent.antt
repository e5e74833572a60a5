-- Since a row's regular block, where every event is a regular one: at most T' rows disturb it from one event to the next. So a row whose own event b has
-- passed in this window has gathered at most T' × (e − 1 − b) up to the last event, and carries at most T' × (n − 1 − b) over the window's end.
use mathlib.Core.Path.{◌≡◌}
use mathlib.Core.Logic.{⊎_elim}
use mathlib.Core.List.{List}
use Prim.Native.Nat.{ℕ, zero, suc, ◌+◌, ◌*◌, ◌≤◌, ◌<◌}
use native.Mathlib.Nat.{le_trans}
use native.Mathlib.Omega.{arith}
use lib.ListN.{length}
use Rattle.laws.proofs.Cases.{le_or_lt}
use Rattle.device.specs.declared.Settings.{Settings}
use Rattle.bound.specs.Totals.{disturbers}
use Rattle.summary.specs.Rules.{Below}
use Rattle.tracker.specs.Calls.{block_rows}
use Rattle.limit.specs.Exact.{restored, disturbed_by}
use Rattle.limit.proofs.Exact.{disturbed_by_reached, restored_le}
use Rattle.limit.proofs.Window.{reached_le}
use Rattle.limit.proofs.Block.{block_restored}
use Rattle.limit.proofs.SchemeOf.{scheme_of}

-- e events into the window, g rows since the last of them; cur: the disturbance of the present window, old: what is carried into it
pub record Recent (s : Settings) (e g : ℕ) (cur old : ℕ → ℕ) : Type 0 where
  -- b < e and e − 1 − b ≤ k, said without b
  pub present : (v k : ℕ) → v < s.rows → v < e * s.block → e * s.block ≤ v + suc k * s.block → cur v ≤ disturbers s * k + g
  -- n − 1 − b ≤ k
  pub carried : (v k : ℕ) → v < s.rows → s.window * s.block ≤ v + suc k * s.block → old v ≤ disturbers s * k

pub recent_at_rest : (s : Settings) → Recent s 0 0 (λ v. 0) (λ v. 0)
recent_at_rest s = record { present = λ v k below passed near. omega arith; carried = λ v k below near. omega arith }

-- rows of the bank disturb a row at most once each
disturbed_by_le : (s : Settings) {sources : List ℕ} → Below s.rows sources → (d : ℕ → ℕ) (v : ℕ) → disturbed_by s sources d v ≤ d v + length sources
disturbed_by_le s {sources} inside d v =
    omega (arith, disturbed_by_reached s sources d v, reached_le (scheme_of s s.window) v inside)

module _ (s : Settings) (named : List ℕ) {e g : ℕ} {cur old : ℕ → ℕ} (r : Recent s e g cur old) where
  -- rows are set to 0, and rows of the bank disturb their victims
  pub recent_renewed : (block : List ℕ) {sources : List ℕ} → Below s.rows sources → Recent s e (g + length sources) (disturbed_by s sources (restored named block cur)) (restored named block old)
  recent_renewed block inside =
      record {
        present = λ v k below passed near.
            omega (arith, disturbed_by_le s inside (restored named block cur) v, restored_le named block cur v, r.present v k below passed near);
        carried = λ v k below near. le_trans (restored_le named block old v) (r.carried v k below near);
      }

  -- one event further, a row that had passed before has the rows of one interval more
  longer : (v k : ℕ) → g ≤ disturbers s → v < s.rows → v < e * s.block → suc e * s.block ≤ v + suc k * s.block → cur v ≤ disturbers s * k
  longer v zero few below before near = absurd (omega arith)
  longer v (suc k) few below before near = omega (arith, r.present v k below before (omega arith))

  -- an event sets its block to 0; any other row that has passed has gathered at most T' more since the event before
  swept : g ≤ disturbers s → (v k : ℕ) → v < s.rows → v < suc e * s.block → suc e * s.block ≤ v + suc k * s.block → restored named (block_rows s e) cur v ≤ disturbers s * k
  swept few v k below passed near =
      ⊎_elim
      (λ from. omega (arith, block_restored s named e cur v below from passed))
      (λ before. le_trans (restored_le named (block_rows s e) cur v) (longer v k few below before near))
      (le_or_lt (e * s.block) v)

  -- an event within a window
  pub recent_event : g ≤ disturbers s → {sources : List ℕ} → Below s.rows sources → Recent s (suc e) (length sources) (disturbed_by s sources (restored named (block_rows s e) cur)) (restored named (block_rows s e) old)
  recent_event few inside =
      let block = block_rows s e in
      record {
        present = λ v k below passed near. omega (arith, disturbed_by_le s inside (restored named block cur) v, swept few v k below passed near);
        carried = λ v k below near. le_trans (restored_le named block old v) (r.carried v k below near);
      }

  -- the event that ends a window: its own disturbances are the next window's
  pub recent_last_event : g ≤ disturbers s → s.rows ≤ suc e * s.block → suc e ≡ s.window → (sources : List ℕ) → Recent s 0 (length sources) (disturbed_by s sources (restored named (block_rows s e) (λ v. 0))) (restored named (block_rows s e) cur)
  recent_last_event few covered whole sources =
      record {
        present = λ v k below passed near. absurd (omega arith);
        carried = λ v k below near. swept few v k below (omega arith) (rw (← whole) at near);
      }
