-- `tracker::event::clear_if` meets its contract.
use Rattle.std.proofs.Common.{refl}
use Rattle.summary.specs.Steps.{cleared_if}
use Rattle.summary.proofs.Turned.{turned_as, turned_none}
use Rattle.tracker.proofs.event.clear_if.Goals as goal

pub returns-then-last : goal.returns-then-last
unfolding cleared_if
returns-then-last g c = turned_as c.clear.ensures (rw c.if-last.true refl)

pub returns-else-last : goal.returns-else-last
unfolding cleared_if
returns-else-last g c = turned_none g.met.L.Ledger.same_reflexive c.requires (rw c.if-last.false refl)
