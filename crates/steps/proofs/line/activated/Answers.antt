-- `steps::line::activated` meets its contract.
use native.Mathlib.Omega.{arith}
use Rattle.summary.proofs.Rules.Room.{room_more}
use Rattle.state.specs.State.{state_of}
use Rattle.steps.proofs.Steps.CallLines.{banked_moved, activation_active, activation_facts, physical_inside, activation_diameter, activation_room, activation_moves}
use Rattle.steps.proofs.line.activated.Goals as goal

pub physical_row-physical-requires : goal.physical_row-physical-requires
physical_row-physical-requires c = (activation_facts c.args.p c.args.counts.now c.requires.0 c.args.row c.args.hold c.requires.2).allowed

pub activate-tally-requires : goal.activate-tally-requires
activate-tally-requires c =
    let facts = activation_facts c.args.p c.args.counts.now c.requires.0 c.args.row c.args.hold c.requires.2 in record {
      holds = c.requires.1.bank (activation_active c.args.p c.args.counts.now c.requires.0 c.args.row c.args.hold c.requires.2);
      diameter_bound = (
        activation_diameter c.args.p c.args.counts.now c.requires.0 c.args.row c.args.hold c.requires.2,
        omega (arith, c.physical_row-physical.ensures, physical_inside c.args.p c.args.counts.now c.requires.0 c.args.row c.args.hold c.requires.2),
        facts.units.least,
        facts.units.most,
        room_more (activation_room c.args.p c.args.counts.now c.requires.0 c.args.row c.args.hold c.requires.2) (omega arith),
      );
    }

pub overflow_add-p : goal.overflow_add-p
unfolding state_of
overflow_add-p c =
    let facts = activation_facts c.args.p c.args.counts.now c.requires.0 c.args.row c.args.hold c.requires.2 in
    omega (arith, facts.spare, facts.state.settings.others.interval.most)

pub returns : goal.returns
returns c =
    let t = c.activate-tally.ensures in
    let m = c.moved in
    let f = c.physical_row-physical.ensures in record { leaves_in = rw m.ensures (activation_moves c.args.p c.args.counts.now c.requires.0 c.args.row c.args.hold c.requires.2 c.args.line f t); banked_in = rw m.ensures (banked_moved c.args.p _ _ c.args.line t) }
