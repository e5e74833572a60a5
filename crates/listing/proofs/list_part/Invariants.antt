-- `listing::list_part` meets its contract. The invariant: what is left to do from `at` on is what was to be done at the start.
use Prim.Native.Nat.{◌-◌}
use lib.ListN.{length}
use Rattle.steps.specs.Memory.{Banked}
use Rattle.listing.proofs.Chunks.PartLoop.{come, Turning}
use Rattle.listing.proofs.list_part.Given as goal

abbrev pub invariant-loop-out : goal.invariant-loop-out
invariant-loop-out l = Turning l.text (come l.initial.place l.initial.counts l.initial.out 0 0) (come l.place l.counts l.out l.at l.end) × Banked l.place l.counts l.marks l.bounds

abbrev pub decreases-loop-out : goal.decreases-loop-out
decreases-loop-out l = length l.text - l.at
