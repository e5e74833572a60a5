-- `summary::Table::highest` meets its contract.
use native.Mathlib.Omega.{arith}
use Rattle.summary.proofs.InnerContracts.Holds.{tracked_le, long_counts}
use Rattle.summary.proofs.Table.highest.Goals as goal

pub first_highest-requires : goal.first_highest-requires
first_highest-requires c = let h = c.args.self.now.tracks in (c.requires, omega (arith, tracked_le h, long_counts h))
