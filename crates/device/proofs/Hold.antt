-- Laws of holds: the range of an accepted one, and units done in two parts.
use mathlib.Core.Path.{◌≡◌, ap}
use mathlib.Core.Bool.{true}
use Prim.Native.Nat.{ℕ, zero, suc, ◌+◌}
use native.Mathlib.Nat.{add-zero, add-suc}
use Rattle.device.specs.Hold.{hold_allowed, repeated}
use Rattle.device.proofs.Acceptance.{Between, within_between}

pub hold_between : (hold : ℕ) → hold_allowed hold ≡ true → Between 1 16 hold
unfolding hold_allowed
hold_between hold e = within_between 1 16 hold e

-- the units of a sum are those of its parts, one behind the other
pub repeated_sum : {A : Type 0} (h k : ℕ) (step : A → A) (x : A) → repeated (h + k) step x ≡ repeated k step (repeated h step x)
unfolding repeated
repeated_sum h zero step x = rw (add-zero h)
repeated_sum h (suc k) step x = rw (add-suc h k) (ap step (repeated_sum h k step x))
