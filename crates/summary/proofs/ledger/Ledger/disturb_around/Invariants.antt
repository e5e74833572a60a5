-- `summary::ledger::Ledger::disturb_around` meets its contract. The invariants: the rows left of each run, on the summary as it is now, and how far counts rose.
use Rattle.std.proofs.Common.{◌++◌, ◌+◌, ◌-◌}
use Rattle.device.specs.Victims.{rows_between}
use Rattle.summary.specs.Steps.{disturb_each}
use Rattle.summary.specs.Rules.{Room}
use Rattle.summary.proofs.Turned.{Left}
use Rattle.summary.proofs.ledger.Ledger.disturb_around.Given as goal

abbrev pub invariant-loop-row : goal.invariant-loop-row
invariant-loop-row g l =
    let t = g.Self.Ledger in
    let n = t.places l.fn.self in
    Left t.kept t.summary t.places t.bound t.same (disturb_each n (rows_between l.low l.middle)) (disturb_each n (rows_between l.row l.middle)) l.fn.self l.self ×
    Room (4294967231 + (l.row - l.low)) (t.summary l.self)

abbrev pub invariant-loop-row-2 : goal.invariant-loop-row-2
invariant-loop-row-2 g l =
    let t = g.Self.Ledger in
    let n = t.places l.fn.self in
    Left t.kept t.summary t.places t.bound t.same (disturb_each n (rows_between l.low l.middle ++ rows_between (l.middle + 1) l.high)) (disturb_each n (rows_between l.row l.high)) l.fn.self l.self ×
    Room (4294967231 + (l.row - l.low)) (t.summary l.self)
