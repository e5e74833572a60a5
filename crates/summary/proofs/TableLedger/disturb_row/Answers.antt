-- `summary::TableLedger::disturb_row` meets its contract, by its four cases.
use Rattle.std.proofs.Common.{refl, sym}
use native.Mathlib.Omega.{arith}
use lib.ListN.{length}
use Rattle.summary.specs.Steps.{raise}
use Rattle.summary.specs.Kept.{held, places_of}
use Rattle.summary.proofs.Rules.Ceiling.{count_le}
use Rattle.summary.proofs.InnerContracts.Holds.{tracked_le, long_counts, count_at_place, held_again}
use Rattle.summary.proofs.InnerContracts.Changes.{has_found, has_missed, holds_raise}
use Rattle.summary.proofs.Steps.Disturb.{disturb_raise, disturb_enter}
use Rattle.summary.proofs.Turned.{turned_as}
use Rattle.summary.proofs.Kept.{turns}
use Rattle.summary.proofs.TableLedger.disturb_row.Goals as goal

pub bounds-self-p : goal.bounds-self-p
bounds-self-p c = let h = c.args.self.now.tracks in omega (arith, c.if-p-self.true, tracked_le h, long_counts h)

pub overflow_add-self : goal.overflow_add-self
overflow_add-self c =
    let h = c.args.self.now.tracks in
    let p = c.find-p.result in
    omega (arith, count_at_place h p c.if-p-self.true, count_le c.requires.room_for.1.counts p (omega (arith, c.if-p-self.true, h.tracked_is)))

pub bounds-self-p-then-p-self : goal.bounds-self-p-then-p-self
bounds-self-p-then-p-self c = let h = c.args.self.now.tracks in omega (arith, c.if-p-self.true, tracked_le h, long_counts h)

pub invariant_of-self : goal.invariant_of-self
invariant_of-self c =
    let a = c.args.self.now in
    let p = c.find-p in
    record { tracks = held_again {places = length a.rows.now} {sum = raise c.args.row (held a)} (holds_raise a.tracks c.args.row p.result p.ensures c.if-p-self.true) }

pub enter_row-requires-clause-untracked : goal.enter_row-requires-clause-untracked
enter_row-requires-clause-untracked c = has_missed c.args.self.now.tracks c.args.row c.find-p.result c.find-p.ensures c.if-p-self.false

pub disturb_full-requires-clause-untracked : goal.disturb_full-requires-clause-untracked
disturb_full-requires-clause-untracked c = has_missed c.args.self.now.tracks c.args.row c.find-p.result c.find-p.ensures c.if-p-self.false

pub returns-then-p-self : goal.returns-then-p-self
returns-then-p-self c =
    let a = c.args.self.now in
    let p = c.find-p in
    turns (rw (disturb_raise (places_of a) c.args.row (held a) (has_found a.tracks c.args.row p.result p.ensures c.if-p-self.true)) (holds_raise a.tracks c.args.row p.result p.ensures c.if-p-self.true)) (refl, refl)

pub returns-then-self : goal.returns-then-self
returns-then-self c =
    let a = c.args.self.now in
    let p = c.find-p in
    turned_as c.enter_row.ensures (sym (disturb_enter (places_of a) c.args.row (held a) (has_missed a.tracks c.args.row p.result p.ensures c.if-p-self.false) (omega (arith, a.tracks.tracked_is, c.if-self.true))))
