-- `tracker::event::take_out` meets its contract.
use Rattle.std.proofs.Common.{sym}
use Rattle.device.specs.Victims.{rows_between}
use Rattle.summary.proofs.Turned.{turned_then}
use Rattle.tracker.proofs.Steps.Event.{taken_out_split}
use Rattle.tracker.proofs.event.take_out.Goals as goal

pub returns-clause-turned : goal.returns-clause-turned
returns-clause-turned g c =
    turned_then g.met.L.Ledger.same_transitive c.pick-count.ensures.turned c.drop_run.ensures
    (sym (taken_out_split c.args.s.volume (rows_between c.args.low c.args.high) (g.L.Ledger.summary c.args.t.now)))
