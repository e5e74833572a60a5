-- `tracker::event::spread_picks` meets its contract. The invariant: the rows left, on the summary as it is now, and how far counts rose.
use Rattle.std.proofs.Common.{take, drop, ◌+◌, ◌*◌}
use Rattle.summary.specs.Steps.{spread}
use Rattle.summary.specs.Rules.{Room}
use Rattle.summary.proofs.Turned.{Left}
use Rattle.tracker.specs.Calls.{victims_in}
use Rattle.tracker.proofs.event.spread_picks.Given as goal

abbrev pub invariant-loop-i : goal.invariant-loop-i
invariant-loop-i g l =
    let t = g.L.Ledger in
    let n = t.places l.fn.t in
    Left t.kept t.summary t.places t.bound t.same (spread n (victims_in l.s) (take l.used l.picks)) (spread n (victims_in l.s) (drop l.i (take l.used l.picks))) l.fn.t l.t ×
    Room (4294967167 + 4 * l.i) (t.summary l.t)
