-- What a row carries over from the window before: at most what a window leaves, nothing in the first window, and nothing once its regular block has
-- passed.
use mathlib.Core.Path.{◌≡◌, refl}
use mathlib.Core.Logic.{⊎_elim}
use mathlib.Core.List.{List}
use Prim.Native.Nat.{ℕ, suc, ◌+◌, ◌*◌, ◌≤◌, ◌<◌}
use native.Mathlib.Nat.{le_trans}
use native.Mathlib.Omega.{arith}
use Rattle.device.specs.declared.Settings.{Settings}
use Rattle.laws.proofs.Cases.{le_or_lt}
use Rattle.tracker.specs.Calls.{block_rows}
use Rattle.limit.specs.Exact.{restored, disturbed_by}
use Rattle.limit.proofs.Exact.{disturbed_by_reached, restored_le, restored_zero, restored_sum_le}
use Rattle.limit.proofs.Block.{block_restored}

-- most: what a window leaves at most; d: the exact disturbance; cur: that of the present window; f events so far, e of them in the window
pub record Carry (s : Settings) (most f e : ℕ) (d cur old : ℕ → ℕ) : Type 0 where
  pub split : (v : ℕ) → v < s.rows → d v ≤ cur v + old v
  pub small : (v : ℕ) → v < s.rows → old v ≤ most
  pub first : f < s.window → (v : ℕ) → v < s.rows → old v ≡ 0
  pub passed : (v : ℕ) → v < s.rows → v < e * s.block → old v ≡ 0

pub carry_at_rest : (s : Settings) (most : ℕ) → Carry s most 0 0 (λ v. 0) (λ v. 0) (λ v. 0)
carry_at_rest s most =
    record { split = λ v h. omega arith; small = λ v h. omega arith; first = λ h v b. refl; passed = λ v b h. refl }

-- Rows are set to 0, and rows disturb their victims.
module _ (s : Settings) (named sources : List ℕ) {most f e : ℕ} {d cur old : ℕ → ℕ} (k : Carry s most f e d cur old) where
  pub carry_renewed : (block : List ℕ) → Carry s most f e (disturbed_by s sources (restored named block d)) (disturbed_by s sources (restored named block cur)) (restored named block old)
  carry_renewed block =
      record {
        split = λ v h.
            omega (
              arith,
              disturbed_by_reached s sources (restored named block d) v,
              disturbed_by_reached s sources (restored named block cur) v,
              restored_sum_le named block d cur old v (k.split v h),
            );
        small = λ v h. le_trans (restored_le named block old v) (k.small v h);
        first = λ h v b. restored_zero named block old v (k.first h v b);
        passed = λ v b h. restored_zero named block old v (k.passed v b h);
      }

  -- an event's block passes: nothing is carried any more by the rows up to its end
  passed_event : (v : ℕ) → v < s.rows → v < suc e * s.block → restored named (block_rows s e) old v ≡ 0
  passed_event v b h =
      ⊎_elim
      (λ from. block_restored s named e old v b from h)
      (λ before. restored_zero named (block_rows s e) old v (k.passed v b before))
      (le_or_lt (e * s.block) v)

  -- an event within a window
  pub carry_event : Carry s most (f + 1) (suc e) (disturbed_by s sources (restored named (block_rows s e) d)) (disturbed_by s sources (restored named (block_rows s e) cur)) (restored named (block_rows s e) old)
  carry_event =
      let k' = carry_renewed (block_rows s e) in
      record { split = k'.split; small = k'.small; first = λ h. k'.first (omega arith); passed = passed_event }

  -- the event that ends a window: what the window left is carried
  pub carry_last_event : s.rows ≤ suc e * s.block → s.window ≤ f + 1 → ((v : ℕ) → cur v ≤ most) → Carry s most (f + 1) 0 (disturbed_by s sources (restored named (block_rows s e) d)) (disturbed_by s sources (restored named (block_rows s e) (λ v. 0))) (restored named (block_rows s e) cur)
  carry_last_event covered late left =
      let block = block_rows s e in
      record {
        split = λ v h.
            omega (
              arith,
              disturbed_by_reached s sources (restored named block cur) v,
              disturbed_by_reached s sources (restored named block (λ v. 0)) v,
              (carry_renewed block).split v h,
              passed_event v h (omega arith),
            );
        small = λ v h. le_trans (restored_le named block cur v) (left v);
        first = λ h. absurd (omega arith);
        passed = λ v b h. absurd (omega arith);
      }
