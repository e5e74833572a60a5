-- `tracker::event::spread_run` meets its contract. The invariant: the rows left, on the summary as it is now, and how far counts rose.
use Rattle.std.proofs.Common.{take, ◌+◌, ◌-◌, ◌*◌}
use Rattle.device.specs.Victims.{rows_between}
use Rattle.summary.specs.Steps.{spread, besides}
use Rattle.summary.specs.Rules.{Room}
use Rattle.summary.proofs.Turned.{Left}
use Rattle.tracker.specs.Calls.{victims_in}
use Rattle.tracker.proofs.event.spread_run.Given as goal

abbrev pub invariant-loop-row : goal.invariant-loop-row
invariant-loop-row g l =
    let t = g.L.Ledger in
    let n = t.places l.fn.t in
    Left t.kept t.summary t.places t.bound t.same (spread n (victims_in l.s) (besides (take l.used l.picks) (rows_between l.low l.high))) (spread n (victims_in l.s) (besides (take l.used l.picks) (rows_between l.row l.high))) l.fn.t l.t ×
    Room (4294966975 + 4 * (l.row - l.low)) (t.summary l.t)
