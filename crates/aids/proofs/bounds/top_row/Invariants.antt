-- `aids::bounds::top_row` meets its contract. The invariant: the bounds hold. The measure is all bounds together.
use Rattle.aids.specs.Bounds.{Capped, total}
use Rattle.aids.proofs.bounds.top_row.Given as goal

abbrev pub invariant-loop-row : goal.invariant-loop-row
invariant-loop-row l = Capped l.counts l.bounds

abbrev pub decreases-loop-row : goal.decreases-loop-row
decreases-loop-row l = total l.bounds
