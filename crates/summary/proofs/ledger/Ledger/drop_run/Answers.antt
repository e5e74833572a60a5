-- `summary::ledger::Ledger::drop_run` meets its contract. The invariant: the rows left, on the summary as it is now.
use Rattle.summary.specs.Entries.{without_all}
use Rattle.summary.specs.Steps.{drop_rows}
use Rattle.device.specs.Victims.{rows_between}
use Rattle.device.proofs.Victims.{between_none}
use Rattle.std.proofs.Common.{◌+◌}
use Rattle.summary.proofs.Turned.{drop_next, left_step, left_done}
use Rattle.summary.proofs.ledger.Ledger.drop_run.Goals as goal

pub loop-row-preserved : goal.loop-row-preserved
loop-row-preserved g c =
    left_step g.met.Self.Ledger.same_transitive {rest' = drop_rows (rows_between (c.loop-row.row + 1) c.args.high)} c.loop-row.invariant c.drop_row.ensures (drop_next c.loop-row.row c.args.high c.loop-row-test.true _)

pub returns : goal.returns
unfolding drop_rows without_all
returns g c = left_done c.loop-row.invariant (rw (between_none c.loop-row.row c.args.high c.loop-row-test.false))
