-- `summary::ledger::Ledger::pick` meets its contract. The invariant: the rows left to pick, after those named so far.
use Rattle.summary.proofs.Turned.{Picking}
use Rattle.summary.proofs.ledger.Ledger.pick.Given as goal

abbrev pub invariant-loop-i : goal.invariant-loop-i
invariant-loop-i g l = let t = g.Self.Ledger in Picking t.kept t.summary t.places t.bound t.same l.volume l.initial.list l.initial.self l.self l.list l.i
