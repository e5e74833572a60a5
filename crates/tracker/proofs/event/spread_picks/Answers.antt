-- `tracker::event::spread_picks` meets its contract. The invariant: the rows left, on the summary as it is now, and how far counts rose.
use Rattle.std.proofs.Common.{refl, take, drop, ◌+◌}
use native.Mathlib.Numerals.{add-one}
use native.Mathlib.Omega.{arith}
use lib.ListN.{get_or}
use lib.Seq.{get_or-take, length-take-le}
use Rattle.tables.proofs.Scans.{used_step, left_none}
use Rattle.summary.specs.Steps.{spread}
use Rattle.summary.proofs.Rules.Room.{room_more, room_each}
use Rattle.summary.proofs.Turned.{turned_room, left_step, left_done}
use Rattle.tracker.specs.Calls.{victims_in}
use Rattle.tracker.proofs.Calls.VictimsIn.{victims_four}
use Rattle.tracker.proofs.Steps.Spread.{below_at}
use Rattle.tracker.proofs.event.spread_picks.Goals as goal

pub disturb_victims-requires-clause-row_in_bank : goal.disturb_victims-requires-clause-row_in_bank
disturb_victims-requires-clause-row_in_bank g c =
    let p = c.requires.rows_in_bank in
    let q = c.requires.picks_in_bank in
    let i = c.loop-i.i in
    let less = c.loop-i-test.true in (
      p.0,
      rw (get_or-take c.args.used c.args.picks.now i 0 less) at (below_at q.2 i (omega (arith, less, length-take-le c.args.used c.args.picks.now q.1))),
      p.1,
      omega (arith, p.2, c.loop-i.invariant.0.one_bank),
    )

pub disturb_victims-requires-clause-room_for : goal.disturb_victims-requires-clause-room_for
disturb_victims-requires-clause-room_for g c = room_more c.loop-i.invariant.1 (omega (arith, c.loop-i-test.true, c.requires.picks_in_bank.0))

pub loop-i-preserved : goal.loop-i-preserved
unfolding spread
loop-i-preserved g c =
    let l = c.loop-i.invariant in
    let i = c.loop-i.i in
    let xs = take c.args.used c.args.picks.now in (
      left_step g.met.L.Ledger.same_transitive {rest' = spread (g.L.Ledger.places c.args.t.now) (victims_in c.args.s) (drop (i + 1) xs)} l.0 c.disturb_victims.ensures
          (rw (used_step c.args.picks.now c.args.used i c.requires.picks_in_bank.1 c.loop-i-test.true, add-one i, l.0.as_many) refl),
      room_more (turned_room c.disturb_victims.ensures (room_each _ _ _ l.1)) (omega (arith, victims_four c.args.s (get_or c.args.picks.now i 0) c.requires.rows_in_bank.0)),
    )

pub returns : goal.returns
unfolding spread
returns g c = left_done c.loop-i.invariant.0 (rw (left_none c.args.picks.now c.args.used c.loop-i.i c.requires.picks_in_bank.1 c.loop-i-test.false) refl)
