-- `tracker::activate_accepted` meets its contract.
use mathlib.Core.Path.{◌≡◌, ap, ◌∙◌}
use mathlib.Core.List.{List}
use Prim.Native.Nat.{ℕ, ◌+◌}
use native.Mathlib.Omega.{arith}
use Rattle.device.specs.declared.Settings.{Settings}
use Rattle.device.specs.Remap.{physical}
use Rattle.device.specs.Hold.{repeated}
use Rattle.device.proofs.Remap.{physical_below}
use Rattle.summary.specs.Steps.{Summary, activation}
use Rattle.summary.specs.InnerContracts.{Holds}
use Rattle.summary.proofs.Rules.Room.{room_more}
use Rattle.summary.proofs.InnerContracts.Holds.{tracked_le}
use Rattle.std.proofs.Common.{rules}
use Rattle.summary.proofs.Kept.{turned_holds}
use Rattle.state.specs.State.{summary_of, state_of, given}
use Rattle.state.proofs.StateOf.{state_of_holds}
use Rattle.tracker.specs.Calls.{victims_in}
use Rattle.tracker.proofs.Calls.Ready.{activation_ready, ready_held, diameter_four}
use Rattle.tracker.proofs.Calls.Outcomes.{activation_leaves}
use Rattle.tracker.proofs.activate_accepted.Goals as goal

-- the state that an activation leaves, by a row that is the physical one
made_by : (s : Settings) (e a : ℕ) (sum : Summary) (at : ℕ) (remap : List ℕ) (row hold : ℕ) {rows counts rows' counts' : List ℕ} {k spill : ℕ} → at ≡ physical remap row → rows' ≡ rows → counts' ≡ counts → Holds s.counters 4294967296 (repeated hold (activation s.counters (victims_in s) at) sum) rows counts k spill → given rows' counts' (record { events = e; activations = a; tracked = k; spillover = spill }) ≡ state_of s e a (repeated hold (activation s.counters (victims_in s) (physical remap row)) sum)
made_by s e a sum at remap row hold same er ec h = rw (er, ec) (state_of_holds s e a h) ∙ ap (λ x. state_of s e a (repeated hold (activation s.counters (victims_in s) x) sum)) same

pub physical_row-physical-requires : goal.physical_row-physical-requires
unfolding given
physical_row-physical-requires c = (activation_ready c.args.s c.args.remap (given c.args.rows.now c.args.counts.now c.args.p) c.args.row c.args.hold c.requires).allowed

pub invariant_of-t : goal.invariant_of-t
unfolding given
invariant_of-t c = record { tracks = ready_held (activation_ready c.args.s c.args.remap (given c.args.rows.now c.args.counts.now c.args.p) c.args.row c.args.hold c.requires).state }

pub activate-requires-clause-row_in_bank : goal.activate-requires-clause-row_in_bank
unfolding given
activate-requires-clause-row_in_bank c =
    let r = activation_ready c.args.s c.args.remap (given c.args.rows.now c.args.counts.now c.args.p) c.args.row c.args.hold c.requires in
    let below = physical_below c.args.remap r.allowed c.args.s.rows c.args.row r.state.settings.others.rows_whole r.inside in
    (diameter_four r.state.settings, omega (arith, c.physical_row-physical.ensures, below, r.inside), r.state.settings.others.rows.most, omega (arith, r.state.settings.others.rows.most))

pub activate-requires-clause-units : goal.activate-requires-clause-units
unfolding given summary_of
activate-requires-clause-units c =
    let r = activation_ready c.args.s c.args.remap (given c.args.rows.now c.args.counts.now c.args.p) c.args.row c.args.hold c.requires in
    (omega (arith, r.units.least), omega (arith, r.units.most), room_more r.state.facts.room (omega arith))

pub overflow_add-result : goal.overflow_add-result
unfolding given
overflow_add-result c =
    let r = activation_ready c.args.s c.args.remap (given c.args.rows.now c.args.counts.now c.args.p) c.args.row c.args.hold c.requires in
    omega (arith, r.spare, r.state.settings.others.interval.most)

pub overflow_cast-result : goal.overflow_cast-result
unfolding given
overflow_cast-result c =
    let r = activation_ready c.args.s c.args.remap (given c.args.rows.now c.args.counts.now c.args.p) c.args.row c.args.hold c.requires in
    omega (arith, tracked_le (turned_holds c.activate.ensures), r.state.fitting.rows_long, r.state.settings.counters.most)

pub returns : goal.returns
unfolding given summary_of
returns c =
    let st = given c.args.rows.now c.args.counts.now c.args.p in
    let r = activation_ready c.args.s c.args.remap st c.args.row c.args.hold c.requires in
    let f = c.physical_row-physical in
    rw (activation_leaves c.args.s c.args.remap st c.args.row c.args.hold c.requires)
    (made_by c.args.s c.args.p.events (c.args.p.activations + c.args.hold) (summary_of st) f.result c.args.remap c.args.row c.args.hold f.ensures (search rules) (search rules) (rw r.state.fitting.rows_long at (turned_holds c.activate.ensures)))
