-- `summary::Table::find` meets its contract.
use Rattle.summary.proofs.InnerContracts.Holds.{tracked_le, used_rising}
use Rattle.summary.proofs.Table.find.Goals as goal

pub lookup-requires : goal.lookup-requires
lookup-requires c = let h = c.args.self.now.tracks in (tracked_le h, used_rising h)
