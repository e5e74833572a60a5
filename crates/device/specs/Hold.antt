-- 'Rows held open': an activation 'of 1 to 16 units', each of which does what one activation does.
use Rattle.std.specs.Prelude.{ℕ, zero, suc, Bool}
use Rattle.device.specs.Acceptance.{within}

-- a 'hold' of '1 to 16 units'
unfoldable pub hold_allowed : ℕ → Bool
hold_allowed hold = within 1 16 hold

-- a unit's step, 'that many' times 'in succession', each on what the one before left
unfoldable pub repeated : {A : Type 0} → ℕ → (A → A) → A → A
repeated zero step x = x
repeated (suc units) step x = step (repeated units step x)
