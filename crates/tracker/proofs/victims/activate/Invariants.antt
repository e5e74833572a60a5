-- `tracker::victims::activate` meets its contract. The invariant: the units so far, on the summary without the row.
use Rattle.std.proofs.Common.{[], ◌∷◌, ◌+◌, ◌*◌}
use Rattle.device.specs.Hold.{repeated}
use Rattle.summary.specs.Steps.{disturb_each, drop_rows}
use Rattle.summary.specs.Ledger.{Turned}
use Rattle.summary.specs.Rules.{Room}
use Rattle.tracker.specs.Calls.{victims_in}
use Rattle.tracker.proofs.victims.activate.Given as goal

abbrev pub invariant-loop-unit : goal.invariant-loop-unit
invariant-loop-unit g l =
    let t = g.L.Ledger in
    Turned t.kept t.summary t.places t.bound t.same (λ sum. repeated l._unit (disturb_each (t.places l.fn.t) (victims_in l.s l.row)) (drop_rows (l.row ∷ []) sum)) l.fn.t l.t ×
    Room (4294967167 + 4 * l._unit) (t.summary l.t)
