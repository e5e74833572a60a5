-- `listing::run::run_activations` meets its contract. The invariant: what is left to do from `at` on is what was to be done at the start.
use Prim.Native.Nat.{◌-◌}
use lib.ListN.{length}
use Rattle.listing.proofs.Chunks.Runs.{Running}
use Rattle.listing.proofs.run.run_activations.Given as goal

abbrev pub invariant-loop-row : goal.invariant-loop-row
invariant-loop-row l = Running l.text l.p l.initial.counts l.from l.counts l.marks l.bounds l.activations l.tally l.at

abbrev pub decreases-loop-row : goal.decreases-loop-row
decreases-loop-row l = length l.text - l.at
