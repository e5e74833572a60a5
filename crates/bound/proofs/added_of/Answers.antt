-- `bound::added_of` meets its contract: the settings' ranges keep the product small.
use mathlib.Core.Path.{refl}
use native.Mathlib.Omega.{arith}
use Rattle.device.proofs.Acceptance.{accepted_but_counters}
use Rattle.bound.proofs.Totals.Bound.{added_le}
use Rattle.bound.proofs.added_of.Goals as goal

pub overflow_mul-result : goal.overflow_mul-result
overflow_mul-result c = rw c.disturbers_of.ensures (omega (arith, added_le c.args.s (accepted_but_counters c.args.s c.requires)))

pub returns : goal.returns
returns c = rw c.disturbers_of.ensures refl
