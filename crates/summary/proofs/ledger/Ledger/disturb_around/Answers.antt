-- `summary::ledger::Ledger::disturb_around` meets its contract. The invariants: the rows left of each run, on the summary as it is now, and how far counts rose.
use Rattle.std.proofs.Common.{sym, ap, ◌∙◌, ◌+◌}
use native.Mathlib.Omega.{arith}
use Rattle.device.specs.Victims.{rows_between}
use Rattle.device.proofs.Victims.{between_none}
use Rattle.summary.specs.Steps.{disturb_each}
use Rattle.summary.proofs.Rules.Room.{room_more, room_disturb}
use Rattle.summary.proofs.Turned.{disturb_next, each_append, turned_room, left_step, left_done}
use Rattle.summary.proofs.ledger.Ledger.disturb_around.Goals as goal

pub disturb_row-requires-clause-room_for : goal.disturb_row-requires-clause-room_for
disturb_row-requires-clause-room_for g c =
    let i = c.loop-row.invariant in
    (omega (arith, c.loop-row-test.true, c.requires.around, i.0.one_bank), room_more i.1 (omega (arith, c.loop-row-test.true, c.requires.around)))

pub loop-row-preserved : goal.loop-row-preserved
loop-row-preserved g c =
    let t = g.Self.Ledger in
    let i = c.loop-row.invariant in
    let row = c.loop-row.row in (
      left_step g.met.Self.Ledger.same_transitive {rest' = disturb_each (t.places c.args.self.now) (rows_between (row + 1) c.args.middle)} i.0 c.disturb_row.ensures
          (rw i.0.as_many (disturb_next (t.places c.args.self.now) row c.args.middle c.loop-row-test.true (t.summary c.loop-row.self))),
      room_more (turned_room c.disturb_row.ensures (room_disturb _ row _ i.1)) (omega (arith, c.loop-row.auto.row)),
    )

pub loop-row-2-init : goal.loop-row-2-init
unfolding disturb_each
loop-row-2-init g c =
    let t = g.Self.Ledger in
    let i = c.loop-row.invariant in
    let n = t.places c.args.self.now in
    let low = rows_between c.args.low c.args.middle in
    let high = rows_between (c.args.middle + 1) c.args.high in
    let past = left_done i.0 (rw (between_none c.loop-row.row c.args.middle c.loop-row-test.false)) in (
      record {
        keeps = past.keeps;
        left = ap (disturb_each n high) past.holds ∙ sym (each_append n low high (t.summary c.args.self.now));
        as_many = past.as_many;
        one_bank = past.one_bank;
        one_memory = past.one_memory;
      },
      room_more i.1 (omega (arith, c.loop-row.auto.row-end c.requires.around.0, c.requires.around)),
    )

pub disturb_row-requires-in-loop-row-2-clause-room_for :
    goal.disturb_row-requires-in-loop-row-2-clause-room_for
disturb_row-requires-in-loop-row-2-clause-room_for g c =
    let i = c.loop-row-2.invariant in
    (omega (arith, c.loop-row-2-test.true, c.requires.around, i.0.one_bank), room_more i.1 (omega (arith, c.loop-row-2-test.true, c.requires.around)))

pub loop-row-2-preserved : goal.loop-row-2-preserved
loop-row-2-preserved g c =
    let t = g.Self.Ledger in
    let i = c.loop-row-2.invariant in
    let row = c.loop-row-2.row in (
      left_step g.met.Self.Ledger.same_transitive {rest' = disturb_each (t.places c.args.self.now) (rows_between (row + 1) c.args.high)} i.0 c.disturb_row-in-loop-row-2.ensures
          (rw i.0.as_many (disturb_next (t.places c.args.self.now) row c.args.high c.loop-row-2-test.true (t.summary c.loop-row-2.self))),
      room_more (turned_room c.disturb_row-in-loop-row-2.ensures (room_disturb _ row _ i.1)) (omega (arith, c.loop-row-2.auto.row, c.requires.around)),
    )

pub returns : goal.returns
unfolding disturb_each
returns g c = left_done c.loop-row-2.invariant.0 (rw (between_none c.loop-row-2.row c.args.high c.loop-row-2-test.false))
