-- `steps::line::list_event` meets its contract.
use native.Mathlib.Omega.{arith}
use borrow.Author.Tests.{not-true, not-false}
use Rattle.steps.specs.Steps.{refused_step, record_step_to}
use Rattle.steps.proofs.Memory.Tracker.{tracker_inactive, leaves_unmoved, banked_unmoved}
use Rattle.steps.proofs.Steps.CallLines.{banked_moved, event_ranges, event_room, event_few, event_prints, event_moves}
use Rattle.steps.proofs.line.list_event.Goals as goal

pub returns-then-not-p : goal.returns-then-not-p
unfolding refused_step record_step_to
returns-then-not-p c =
    let none = tracker_inactive c.args.p c.args.counts.now (not-true _ c.if-not-p.true) in
    let r = c.list_refusal.ensures in record { lists_line = rw none (rw none at (leaves_unmoved c.args.p c.args.counts.now r.place_value _ r.prints_into)); banked_in = banked_unmoved c.args.p c.args.counts.now r.place_value c.requires.1 }

pub refresh-picked-requires : goal.refresh-picked-requires
refresh-picked-requires c = let on = not-false _ c.if-not-p.false in record { holds = c.requires.1.bank on; ranges = (event_ranges c.args.p c.args.counts.now c.requires.0 on 16 (omega arith), event_room c.args.p c.args.counts.now c.requires.0 on) }

pub print_refresh-end-requires : goal.print_refresh-end-requires
print_refresh-end-requires c =
    let r = c.refresh-picked in
    let few = event_few c.args.p c.args.counts.now c.requires.0 (not-false _ c.if-not-p.false) r.ensures.names in
    (omega (arith, r.auto.picks, few), omega (arith, c.requires.2, few))

pub next_event-requires : goal.next_event-requires
next_event-requires c =
    let ranges = event_ranges c.args.p c.args.counts.now c.requires.0 (not-false _ c.if-not-p.false) 16 (omega arith) in
    (ranges.4, ranges.5)

pub returns : goal.returns
returns c =
    let on = not-false _ c.if-not-p.false in
    let r = c.refresh-picked in
    let m = c.moved in record {
      lists_line = record {
        printed = rw (← event_prints c.args.p c.args.counts.now c.requires.0 on c.args.line r.ensures.names) c.print_refresh-end.ensures;
        left = rw m.ensures (event_moves c.args.p c.args.counts.now c.requires.0 on c.args.line c.next_event.ensures r.ensures.turns);
      };
      banked_in = rw m.ensures (banked_moved c.args.p _ 0 c.args.line r.ensures.turns);
    }
