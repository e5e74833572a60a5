-- `summary::Table::place` meets its contract.
use Rattle.summary.proofs.InnerContracts.Holds.{tracked_le, used_rising}
use Rattle.summary.proofs.Table.place.Goals as goal

pub lower_bound-requires : goal.lower_bound-requires
lower_bound-requires c = let h = c.args.self.now.tracks in (tracked_le h, used_rising h)
