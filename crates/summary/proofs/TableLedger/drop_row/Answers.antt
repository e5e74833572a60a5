-- `summary::TableLedger::drop_row` meets its contract.
use Rattle.std.proofs.Common.{refl}
use Rattle.summary.proofs.InnerContracts.Changes.{same_drop, holds_drop_untracked}
use Rattle.summary.proofs.Turned.{turned_as}
use Rattle.summary.proofs.Kept.{turns}
use Rattle.summary.proofs.TableLedger.drop_row.Goals as goal

pub returns-then-p-self : goal.returns-then-p-self
returns-then-p-self c =
    let p = c.find-p in
    turned_as c.remove.ensures.turns (same_drop c.args.self.now.tracks c.args.row p.result p.ensures c.if-p-self.true)

pub returns-else-p-self : goal.returns-else-p-self
returns-else-p-self c =
    let p = c.find-p in
    turns (holds_drop_untracked c.args.self.now.tracks c.args.row p.result p.ensures c.if-p-self.false) (refl, refl)
