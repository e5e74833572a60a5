-- `device::occurs` meets its contract: all sixteen places are looked at.
use mathlib.Core.Path.{◌≡◌}
use native.Mathlib.Omega.{arith}
use Rattle.device.proofs.occurs.Goals as goal

pub returns : goal.returns
returns c = let all : c.loop-number.number-index ≡ 16 = omega arith in rw all at c.loop-number.invariant
