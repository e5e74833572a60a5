-- `listing::run::run_activations` meets its contract. The invariant: what is left to do from `at` on is what was to be done at the start.
use Prim.Native.Nat.{◌-◌, ◌/◌, ◌<◌, ◌%◌}
use mathlib.Core.Path.{◌≡◌}
use native.Mathlib.Nat.{mod-lt}
use native.Mathlib.Omega.{arith}
use borrow.Author.Tests.{not-false}
use lib.Dec.{lit<}
use Rattle.device.specs.Remap.{physical}
use Rattle.device.proofs.Remap.{entry_below}
use Rattle.columns.specs.Answers.{found}
use Rattle.summary.proofs.Rules.Room.{room_more}
use Rattle.trace.proofs.Reading.Activations.{activates_told}
use Rattle.steps.specs.InnerContracts.{moved}
use Rattle.listing.specs.InnerContracts.{numbers_on}
use Rattle.steps.specs.Memory.{next_number}
use Rattle.steps.proofs.Steps.CallLines.{activations_few, activation_facts, physical_inside, activation_diameter, activation_room}
use Rattle.listing.proofs.Chunks.Runs.{runs_none, run_free, running_more}
use Rattle.listing.proofs.run.run_activations.Goals as goal

pub returns-then-not-p : goal.returns-then-not-p
returns-then-not-p c = record { runs_on = runs_none c.args.text.now c.args.from c.requires.0 c.requires.2; banked_in = c.requires.1 }

pub loop-row-init : goal.loop-row-init
unfolding numbers_on
loop-row-init c = record { count = 0; far = omega arith; runs = runs_none c.args.text.now c.args.from c.requires.0 c.requires.2; banked = c.requires.1 }

pub overflow_add-row : goal.overflow_add-row
overflow_add-row c =
    let l = c.loop-row in
    let on = not-false _ c.if-not-p.false in
    let row = c.in-Some.row in
    let free = run_free l.invariant on row c.if-row-s.true c.if-activations-s.true in
    let facts = activation_facts (moved c.args.p c.args.p.events l.activations l.tally (numbers_on c.args.p.lines l.invariant.count)) l.counts l.invariant.runs.ready row 1 free in
    omega (arith, entry_below c.args.p.remap facts.allowed (row % 16) (mod-lt row (lit< tt)), c.if-row-s.true, (c.requires.1.bank on).most)

pub activate-tally-requires : goal.activate-tally-requires
unfolding physical
activate-tally-requires c =
    let l = c.loop-row in
    let on = not-false _ c.if-not-p.false in
    let row = c.in-Some.row in
    let free = run_free l.invariant on row c.if-row-s.true c.if-activations-s.true in
    let q = moved c.args.p c.args.p.events l.activations l.tally (numbers_on c.args.p.lines l.invariant.count) in record {
      holds = l.invariant.banked.bank on;
      diameter_bound = (
        activation_diameter q l.counts l.invariant.runs.ready row 1 free,
        physical_inside q l.counts l.invariant.runs.ready row 1 free,
        omega arith,
        omega arith,
        room_more (activation_room q l.counts l.invariant.runs.ready row 1 free) (omega arith),
      );
    }

pub overflow_add-at : goal.overflow_add-at
unfolding found
overflow_add-at c = omega (arith, (activates_told c.args.text.now c.loop-row.at c.in-Some.row c.in-Some.ensures).inside)

pub loop-row-smaller : goal.loop-row-smaller
unfolding found
loop-row-smaller c = omega (arith, (activates_told c.args.text.now c.loop-row.at c.in-Some.row c.in-Some.ensures).inside)

pub loop-row-preserved : goal.loop-row-preserved
unfolding physical next_number found
loop-row-preserved c =
    running_more c.loop-row.invariant (not-false _ c.if-not-p.false) c.in-Some.row c.if-row-s.true c.if-activations-s.true c.activate-tally.ensures
    (activates_told c.args.text.now c.loop-row.at c.in-Some.row c.in-Some.ensures)

pub lines_behind-lines-requires : goal.lines_behind-lines-requires
lines_behind-lines-requires c = omega (arith, c.loop-row.invariant.runs.within, c.well_formed)

pub returns : goal.returns
returns c =
    let l = c.loop-row in
    let passed : (l.at - c.args.from) / 8 ≡ l.invariant.count = omega (arith, l.invariant.far) in record {
      runs_on = rw (c.lines_behind-lines.ensures, passed) l.invariant.runs;
      banked_in = rw (c.lines_behind-lines.ensures, passed) l.invariant.banked;
    }
