-- `summary::ledger::Ledger::pick` meets its contract. The invariant: the rows left to pick, after those named so far.
use native.Mathlib.Omega.{arith}
use Rattle.summary.specs.Ledger.{named}
use Rattle.summary.proofs.Turned.{picking_init, picking_long, picking_again, picking_full, picking_empty}
use Rattle.summary.proofs.ledger.Ledger.pick.Goals as goal

pub loop-i-init : goal.loop-i-init
loop-i-init g c = picking_init g.met.Self.Ledger.same_reflexive c.requires.kept

pub take_top-requires : goal.take_top-requires
take_top-requires g c = c.loop-i.invariant.goes_on.keeps

pub bounds-list-i : goal.bounds-list-i
bounds-list-i g c =
    let i = c.loop-i.invariant in
    omega (arith, c.loop-i-test.true, c.requires.volume_in_bounds, picking_long i (omega (arith, i.most, c.requires.volume_in_bounds)))

pub shape_of-list-in_default : goal.shape_of-list-in_default
shape_of-list-in_default g c = let i = c.loop-i.invariant in picking_long i (omega (arith, i.most, c.requires.volume_in_bounds))

pub returns-in_default-clause-names : goal.returns-in_default-clause-names
unfolding named
returns-in_default-clause-names g c = (picking_empty c.loop-i.invariant g.met.Self.Ledger.same_transitive c.in_default.ensures.row c.in_default.ensures.turned).0

pub returns-in_default-clause-turned : goal.returns-in_default-clause-turned
unfolding named
returns-in_default-clause-turned g c = (picking_empty c.loop-i.invariant g.met.Self.Ledger.same_transitive c.in_default.ensures.row c.in_default.ensures.turned).1

pub loop-i-preserved : goal.loop-i-preserved
unfolding named
loop-i-preserved g c = picking_again c.loop-i.invariant g.met.Self.Ledger.same_transitive c.loop-i-test.true c.requires.volume_in_bounds c.in-Some.ensures.row c.in-Some.ensures.turned

pub returns-clause-names : goal.returns-clause-names
returns-clause-names g c = (picking_full c.loop-i.invariant c.loop-i-test.false).0

pub returns-clause-turned : goal.returns-clause-turned
returns-clause-turned g c = (picking_full c.loop-i.invariant c.loop-i-test.false).1
