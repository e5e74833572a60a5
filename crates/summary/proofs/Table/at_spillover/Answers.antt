-- `summary::Table::at_spillover` meets its contract.
use native.Mathlib.Omega.{arith}
use Rattle.summary.proofs.InnerContracts.Holds.{tracked_le, long_counts}
use Rattle.summary.proofs.Table.at_spillover.Goals as goal

pub first_equal-requires : goal.first_equal-requires
first_equal-requires c = let h = c.args.self.now.tracks in omega (arith, tracked_le h, long_counts h)
