-- `device::occurs` meets its contract. The loop's invariant: what the places up to here said.
use mathlib.Core.Path.{◌≡◌}
use Rattle.device.specs.Remap.{occurs_in}
use Rattle.device.proofs.occurs.Given as goal

abbrev pub invariant-loop-number : goal.invariant-loop-number
invariant-loop-number l = l.found ≡ occurs_in l.number-index l.number-items l.k
