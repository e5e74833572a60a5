-- `dense::RowTable::enter_row` meets its contract.
use mathlib.Core.Path.{◌≡◌, refl}
use native.Mathlib.Omega.{arith}
use Rattle.dense.proofs.InnerContracts.DisturbedIn.{enter_free}
use Rattle.dense.proofs.RowTable.enter_row.Goals as goal

pub overflow_add-self : goal.overflow_add-self
overflow_add-self c = omega (arith, c.if-t-counters.true)

pub returns-then-t-counters : goal.returns-then-t-counters
returns-then-t-counters c =
    let bank = c.requires.0 in
    let e = c.enter.ensures in
    (enter_free bank.kept bank.inside bank.most c.requires.1 c.requires.2 c.args.self.now.counters c.if-t-counters.true e.counts_after e.marked, refl, refl, refl, (refl, refl, refl))

pub returns-else-t-counters : goal.returns-else-t-counters
returns-else-t-counters c =
    let full : c.args.self.now.tally.tracked ≡ c.args.self.now.counters = omega (arith, c.requires.0.fits, c.if-t-counters.false) in
    (rw full at c.disturb_full-self.ensures, refl, refl, refl, (refl, refl, refl))
