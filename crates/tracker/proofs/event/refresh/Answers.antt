-- `tracker::event::refresh` meets its contract: its steps, one after the other, are the event.
use Rattle.std.proofs.Common.{refl, take, ◌*◌, ◌-◌, eqb}
use native.Mathlib.Omega.{arith}
use lib.Seq.{length-take-le}
use Rattle.device.specs.Victims.{rows_between}
use Rattle.summary.specs.Steps.{spread, taken_out, cleared_if}
use Rattle.summary.proofs.Rules.Room.{room_more}
use Rattle.summary.proofs.Turned.{turned_then, turned_room}
use Rattle.tracker.specs.Calls.{victims_in, block_rows, ends_window}
use Rattle.tracker.proofs.Calls.VictimsIn.{victims_four}
use Rattle.tracker.proofs.Steps.Spread.{room_spread}
use Rattle.tracker.proofs.Steps.Event.{take_picked, count_picked_le, take_picked_below, room_taken_out, room_cleared, event_split}
use Rattle.tracker.proofs.event.refresh.Goals as goal

pub spread_picks-requires-clause-picks_in_bank : goal.spread_picks-requires-clause-picks_in_bank
spread_picks-requires-clause-picks_in_bank g c =
    let p = c.requires.ranges.0 in
    let t = c.take_out-count in
    let few = count_picked_le t.ensures.names in
    (omega (arith, few, p.2), omega (arith, few, p.6, t.auto.picks), take_picked_below t.ensures.names c.requires.room_for.1)

pub spread_picks-requires-clause-room_for : goal.spread_picks-requires-clause-room_for
spread_picks-requires-clause-room_for g c =
    room_more (turned_room c.clear_if.ensures (room_cleared _ (turned_room c.take_out-count.ensures.turned (room_taken_out _ _ c.requires.room_for.0)))) (omega arith)

pub spread_run-requires-clause-room_for : goal.spread_run-requires-clause-room_for
spread_run-requires-clause-room_for g c =
    let p = c.requires.ranges.0 in
    let t = c.take_out-count in
    let few = count_picked_le t.ensures.names in
    let long = length-take-le t.result t.new.picks (omega (arith, few, p.6, t.auto.picks)) in
    let begun = turned_room c.clear_if.ensures (room_cleared _ (turned_room t.ensures.turned (room_taken_out _ _ c.requires.room_for.0))) in
    room_more (turned_room c.spread_picks.ensures (room_spread _ (victims_in c.args.s) (λ row. victims_four c.args.s row p.0) (take t.result t.new.picks) _ begun)) (omega (arith, long, few, p.2))

pub returns-clause-turned : goal.returns-clause-turned
unfolding block_rows ends_window
returns-clause-turned g c =
    let trans = g.met.L.Ledger.same_transitive in
    let s = c.args.s in
    let t = c.take_out-count in
    let n = g.L.Ledger.places c.args.t.now in
    let names = take t.result t.new.picks in
    let block = rows_between (c.args.e * s.block) c.min-high.result in
    let last = eqb c.args.e (s.window - 1) in
    let begun = turned_then trans {h = λ sum. cleared_if last (taken_out s.volume block sum)} t.ensures.turned c.clear_if.ensures refl in
    let named = turned_then trans {h = λ sum. spread n (victims_in s) names (cleared_if last (taken_out s.volume block sum))} begun c.spread_picks.ensures (rw begun.as_many refl) in
    rw (← c.min-high.ensures)
    (turned_then trans named c.spread_run.ensures (rw named.as_many (event_split n (victims_in s) s.volume block last (g.L.Ledger.summary c.args.t.now) (take_picked t.ensures.names))))
