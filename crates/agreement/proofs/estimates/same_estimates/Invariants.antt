-- `estimates::same_estimates` meets its contract. The invariant: both walks have passed every row below low, and each of these has the same
-- estimate in both summaries.
use Prim.Native.Nat.{◌-◌}
use Rattle.agreement.proofs.InnerContracts.TwoWalks.{TwoWalks}
use Rattle.agreement.proofs.estimates.same_estimates.Given as goal

abbrev pub invariant-loop-low : goal.invariant-loop-low
invariant-loop-low l = TwoWalks l.a.rows.now l.a.counts.now l.a.tally.tracked l.a.tally.spillover l.b.rows.now l.b.counts.now l.b.tally.tracked l.b.tally.spillover l.high l.low l.i l.j

abbrev pub decreases-loop-low : goal.decreases-loop-low
decreases-loop-low l = l.high - l.low
