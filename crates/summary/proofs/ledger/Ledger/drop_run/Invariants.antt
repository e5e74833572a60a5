-- `summary::ledger::Ledger::drop_run` meets its contract. The invariant: the rows left, on the summary as it is now.
use Rattle.device.specs.Victims.{rows_between}
use Rattle.summary.specs.Steps.{drop_rows}
use Rattle.summary.proofs.Turned.{Left}
use Rattle.summary.proofs.ledger.Ledger.drop_run.Given as goal

abbrev pub invariant-loop-row : goal.invariant-loop-row
invariant-loop-row g l = let t = g.Self.Ledger in Left t.kept t.summary t.places t.bound t.same (drop_rows (rows_between l.low l.high)) (drop_rows (rows_between l.row l.high)) l.initial.self l.self
