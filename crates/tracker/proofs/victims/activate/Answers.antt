-- `tracker::victims::activate` meets its contract. The invariant: the units so far, on the summary without the row.
use Rattle.std.proofs.Common.{refl, sym, ◌≡◌, [], ◌∷◌}
use native.Mathlib.Numerals.{add-one}
use native.Mathlib.Omega.{arith}
use Rattle.device.specs.Hold.{repeated}
use Rattle.summary.proofs.Rules.Room.{room_more, room_drop, room_each}
use Rattle.summary.proofs.Turned.{turned_as, turned_then, turned_room}
use Rattle.tracker.specs.Calls.{victims_in}
use Rattle.tracker.proofs.Calls.VictimsIn.{victims_four, victims_others}
use Rattle.tracker.proofs.Steps.Units.{units_drop_once}
use Rattle.tracker.proofs.victims.activate.Goals as goal

pub loop-unit-init : goal.loop-unit-init
unfolding repeated
loop-unit-init g c = (c.drop_row.ensures, room_more (turned_room c.drop_row.ensures (room_drop (c.args.row ∷ []) c.requires.units.2)) (omega arith))

pub disturb_victims-requires-clause-kept : goal.disturb_victims-requires-clause-kept
disturb_victims-requires-clause-kept g c = c.loop-unit.invariant.0.keeps

pub disturb_victims-requires-clause-row_in_bank : goal.disturb_victims-requires-clause-row_in_bank
disturb_victims-requires-clause-row_in_bank g c =
    let p = c.requires.row_in_bank in
    (p.0, p.1, p.2, omega (arith, p.3, c.loop-unit.invariant.0.one_bank))

pub disturb_victims-requires-clause-room_for : goal.disturb_victims-requires-clause-room_for
disturb_victims-requires-clause-room_for g c = room_more c.loop-unit.invariant.1 (omega (arith, c.loop-unit-test.true, c.requires.units.1))

pub loop-unit-preserved : goal.loop-unit-preserved
unfolding repeated
loop-unit-preserved g c =
    let i = c.loop-unit.invariant in (
      turned_then g.met.L.Ledger.same_transitive i.0 c.disturb_victims.ensures (rw (add-one c.loop-unit._unit, i.0.as_many) refl),
      room_more (turned_room c.disturb_victims.ensures (room_each _ _ _ i.1)) (omega (arith, victims_four c.args.s c.args.row c.requires.row_in_bank.0)),
    )

pub returns : goal.returns
returns g c =
    let t = g.L.Ledger in
    let a = c.args in
    let all : c.loop-unit._unit ≡ a.units = omega (arith, c.loop-unit.auto._unit-end, c.loop-unit-test.false) in
    let ordered = g.met.L.Ledger.ordered a.t.now c.requires.kept in
    let once = units_drop_once (t.places a.t.now) (victims_in a.s) a.row (victims_others a.s a.row c.requires.row_in_bank.1) (t.summary a.t.now) ordered a.units c.requires.units.0 in
    turned_as c.loop-unit.invariant.0 (rw all (sym once))
