-- `tracker::refresh_accepted` meets its contract.
use native.Mathlib.Omega.{arith}
use Rattle.summary.proofs.Rules.Room.{room_more}
use Rattle.summary.proofs.InnerContracts.Holds.{tracked_le}
use Rattle.std.proofs.Common.{rules, ◌≡◌, List, ℕ, true}
use Rattle.state.specs.declared.Position.{Position}
use Rattle.tracker.specs.Calls.{RefreshCall}
use Rattle.summary.proofs.Kept.{turned_holds}
use Rattle.state.specs.State.{summary_of, given}
use Rattle.tracker.specs.Answers.{refresh_call, refresh_accepts, refresh_refusal, refresh_count, refresh_position}
use Rattle.tracker.proofs.Calls.Ready.{refresh_ready, ready_held, diameter_four}
use Rattle.tracker.proofs.Calls.Outcomes.{refresh_done}
use Rattle.tracker.proofs.Steps.Event.{count_picked_le}
use Rattle.tracker.proofs.refresh_accepted.Goals as goal

-- what the table leaves stands in the lent tables
ends : {count : ℕ} {rows counts rows' counts' list : List ℕ} (p : Position) {x : RefreshCall} → rows' ≡ rows → counts' ≡ counts → record { accepts = true; refusal = 0; count = count; state = given rows counts p; picks = list } ≡ x → record { accepts = true; refusal = 0; count = count; state = given rows' counts' p; picks = list } ≡ x
ends p er ec h = rw (er, ec) h

pub invariant_of-t : goal.invariant_of-t
unfolding given
invariant_of-t c = record { tracks = ready_held (refresh_ready c.args.s (given c.args.rows.now c.args.counts.now c.args.p) c.args.picks.now c.requires).0 }

pub refresh-count-requires-clause-ranges : goal.refresh-count-requires-clause-ranges
unfolding given
refresh-count-requires-clause-ranges c =
    let r = refresh_ready c.args.s (given c.args.rows.now c.args.counts.now c.args.p) c.args.picks.now c.requires in
    let o = r.0.settings.others in
    ((diameter_four r.0.settings, o.rows.most, o.volume.most, o.block.most, o.window.least, omega (arith, r.0.facts.early, o.window.most), r.1), omega (arith, o.rows.most))

pub refresh-count-requires-clause-room_for : goal.refresh-count-requires-clause-room_for
unfolding given summary_of
refresh-count-requires-clause-room_for c =
    let r = refresh_ready c.args.s (given c.args.rows.now c.args.counts.now c.args.p) c.args.picks.now c.requires in
    (room_more r.0.facts.room (omega arith), r.0.facts.holds.sound.ordered)

pub overflow_cast-result : goal.overflow_cast-result
unfolding given
overflow_cast-result c =
    let r = refresh_ready c.args.s (given c.args.rows.now c.args.counts.now c.args.p) c.args.picks.now c.requires in
    omega (arith, count_picked_le c.refresh-count.ensures.names, r.0.settings.others.volume.most)

pub next_event-requires : goal.next_event-requires
unfolding given
next_event-requires c =
    let r = refresh_ready c.args.s (given c.args.rows.now c.args.counts.now c.args.p) c.args.picks.now c.requires in
    let o = r.0.settings.others in
    (o.window.least, omega (arith, r.0.facts.early, o.window.most))

pub overflow_cast-result-2 : goal.overflow_cast-result-2
unfolding given
overflow_cast-result-2 c =
    let r = refresh_ready c.args.s (given c.args.rows.now c.args.counts.now c.args.p) c.args.picks.now c.requires in
    omega (arith, tracked_le (turned_holds c.refresh-count.ensures.turned), r.0.fitting.rows_long, r.0.settings.counters.most)

pub returns : goal.returns
unfolding refresh_call refresh_accepts refresh_refusal refresh_count refresh_position given summary_of
returns c =
    ends _ (search rules) (search rules)
    (refresh_done c.args.s (given c.args.rows.now c.args.counts.now c.args.p) c.args.picks.now c.requires c.refresh-count.ensures.names (turned_holds c.refresh-count.ensures.turned) c.next_event.ensures)
