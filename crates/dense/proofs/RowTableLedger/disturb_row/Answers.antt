-- `dense::RowTable` disturbs a row.
use mathlib.Core.Path.{refl}
use Prim.Native.Nat.{◌<◌}
use native.Mathlib.Omega.{arith}
use lib.ListN.{get_or}
use Rattle.dense.proofs.InnerContracts.Turned.{room_one, turned_raised, turned_disturbed}
use Rattle.dense.proofs.Keeping.{turns}
use Rattle.dense.proofs.RowTableLedger.disturb_row.Goals as goal

pub overflow_add-self : goal.overflow_add-self
overflow_add-self c = omega (arith, (room_one c.args.self.now.counts.now c.args.self.now.tally.spillover c.args.row c.requires.room_for.1).0)

pub overflow_add-old : goal.overflow_add-old
overflow_add-old c = omega (arith, (room_one c.args.self.now.counts.now c.args.self.now.tally.spillover c.args.row c.requires.room_for.1).0)

pub returns-then-old-ne0 : goal.returns-then-old-ne0
returns-then-old-ne0 c =
    let p : 0 < get_or c.args.self.now.counts.now c.args.row 0 = omega (arith, c.if-old-ne0.true) in
    turns (turned_raised c.requires.kept c.requires.room_for.0 p c.cover.ensures) refl refl (refl, refl, refl)

pub enter_row-requires : goal.enter_row-requires
enter_row-requires c =
    (c.requires.kept, c.requires.room_for.0, c.if-old-ne0.false, (room_one c.args.self.now.counts.now c.args.self.now.tally.spillover c.args.row c.requires.room_for.1).1)

pub returns-else-old-ne0 : goal.returns-else-old-ne0
returns-else-old-ne0 c =
    let e = c.enter_row.ensures in
    turns (turned_disturbed c.requires.kept c.requires.room_for.0 e.0 (rw e.3 at c.cover-else-old-ne0.ensures)) e.1 e.2 e.4
