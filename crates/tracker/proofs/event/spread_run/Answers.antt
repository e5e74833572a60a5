-- `tracker::event::spread_run` meets its contract. The invariant: the rows left, on the summary as it is now, and how far counts rose.
use Rattle.std.proofs.Common.{refl, take, ◌+◌}
use native.Mathlib.Omega.{arith}
use Rattle.device.specs.Victims.{rows_between}
use Rattle.device.proofs.Victims.{between_step, between_none}
use Rattle.summary.specs.Steps.{spread, besides}
use Rattle.summary.proofs.Rules.Room.{room_more}
use Rattle.summary.proofs.Turned.{turned_room, left_step, left_done}
use Rattle.tracker.specs.Calls.{victims_in}
use Rattle.tracker.proofs.Calls.VictimsIn.{victims_four}
use Rattle.tracker.proofs.Steps.Spread.{besides_one, room_besides}
use Rattle.tracker.proofs.event.spread_run.Goals as goal

pub spread_unlisted-requires-clause-room_for : goal.spread_unlisted-requires-clause-room_for
spread_unlisted-requires-clause-room_for g c = room_more c.loop-row.invariant.1 (omega (arith, c.loop-row-test.true, c.requires.run_in_bank))

pub loop-row-preserved : goal.loop-row-preserved
loop-row-preserved g c =
    let l = c.loop-row.invariant in
    let row = c.loop-row.row in
    let names = take c.args.used c.args.picks.now in
    let n = g.L.Ledger.places c.args.t.now in
    let sum = g.L.Ledger.summary c.loop-row.t in (
      left_step g.met.L.Ledger.same_transitive {rest' = spread n (victims_in c.args.s) (besides names (rows_between (row + 1) c.args.high))} l.0 c.spread_unlisted.ensures
          (rw (between_step row c.args.high c.loop-row-test.true, l.0.as_many) (besides_one names row (rows_between (row + 1) c.args.high) n (victims_in c.args.s) sum)),
      room_more (turned_room c.spread_unlisted.ensures (room_besides names row _ (victims_in c.args.s) sum l.1 (victims_four c.args.s row c.requires.rows_in_bank.0))) (omega (arith, c.loop-row.auto.row)),
    )

pub returns : goal.returns
unfolding spread besides
returns g c = left_done c.loop-row.invariant.0 (rw (between_none c.loop-row.row c.args.high c.loop-row-test.false) refl)
