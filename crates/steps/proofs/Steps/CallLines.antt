-- The lines of an activation and of an event: what the tests said, what the bank's tables hold then and what was printed make the definition's step.
use mathlib.Core.Path.{◌≡◌, refl, sym, ◌∙◌}
use mathlib.Core.Bool.{true}
use mathlib.Core.List.{List, []}
use Prim.Native.Nat.{ℕ, zero, suc, ◌+◌, ◌≤◌, ◌<◌}
use native.Mathlib.Omega.{arith}
use lib.ListN.{length, take, replicate, length-replicate}
use Rattle.laws.proofs.Cases.{split}
use Rattle.device.specs.declared.Settings.{Settings}
use Rattle.device.specs.declared.refusal.Refusal.{Refusal}
use Rattle.device.specs.Refusal.{first_failed, refuse, number}
use Rattle.device.specs.Remap.{physical}
use Rattle.device.specs.Hold.{repeated}
use Rattle.device.specs.Victims.{victims}
use Rattle.device.proofs.Acceptance.{accepted_settings}
use Rattle.device.proofs.Remap.{physical_below}
use Rattle.device.proofs.Tests.{refuse_passed, number_not_0}
use Rattle.summary.specs.Steps.{Summary, activation, event}
use Rattle.summary.specs.Rules.{Room, RoomFor}
use Rattle.summary.specs.InnerContracts.{PickedFrom}
use Rattle.summary.proofs.Rules.Room.{room_more}
use Rattle.state.specs.State.{State, summary_of, state_of, most_count}
use Rattle.state.proofs.StateOf.{read_back}
use Rattle.tracker.specs.Calls.{kept_unless, activation_tests, refresh_to, victims_in, block_rows, ends_window, next_event}
use Rattle.tracker.specs.InnerContracts.{Ranges}
use Rattle.tracker.proofs.Calls.Ready.{ReadyActivation, activation_ready, refresh_ready, diameter_four}
use Rattle.tracker.proofs.Calls.Outcomes.{activation_refused_by_number, activation_done, activation_leaves}
use Rattle.tracker.proofs.Steps.Event.{take_picked, count_picked_le}
use Rattle.limit.specs.Reachable.{Reached}
use Rattle.limit.proofs.Reachable.{activation_refused_with, reached_accepted, reached_within}
use Rattle.dense.specs.declared.Tally.{Tally}
use Rattle.dense.specs.Dense.{dense}
use Rattle.dense.specs.InnerContracts.{Turned}
use Rattle.trace.specs.declared.Record.TheVariants.{Activate, Refresh}
use Rattle.columns.specs.Output.{refusal_line}
use Rattle.steps.specs.declared.Place.{Place}
use Rattle.steps.specs.Output.{refresh_line}
use Rattle.steps.specs.Steps.{refused_step, answered, activation_step, refresh_step, record_step_to, record_step}
use Rattle.steps.specs.Memory.{memory, state_in, tracker_in, Ready, Banked}
use Rattle.steps.specs.InnerContracts.{moved, activation_refusal}
use Rattle.steps.proofs.Memory.Tracker.{tracker_active, tracker_inactive, reached_active}
use Rattle.steps.proofs.Steps.ReachedCalls.{event_accepted, event_is}

answered_refusal : (line k : ℕ) (text : List ℕ) → (k ≡ 0 → ⊥) → refusal_line line k ≡ answered line k text
unfolding answered
answered_refusal line zero text h = absurd (h refl)
answered_refusal line (suc k) text h = refl

-- the tables of a tracker that moved on
pub banked_moved : (p : Place) (events activations line : ℕ) {sum : Summary} {counts marks bounds : List ℕ} {t : Tally} → Turned p.settings.rows p.settings.counters sum counts marks bounds t → Banked (moved p events activations t line) counts marks bounds
banked_moved p events activations line t =
    record { marked = t.bank.kept.marked; bounds_long = t.bank.capped.nested.bounds_long; bank = λ e. t.bank }

module _ (p : Place) (counts : List ℕ) (ready : Ready (memory p counts)) where
  -- units so far, where they may be added to
  pub activations_few : p.active ≡ true → p.activations ≤ 4096
  unfolding state_of
  activations_few e =
      let r = reached_active p counts e ready.running in
      omega (arith, reached_within r.0, (accepted_settings p.settings (reached_accepted r.0)).others.interval.most)

  tests_fail : p.active ≡ true → (row hold : ℕ) → first_failed (activation_tests p.settings p.remap (state_in p counts) row hold) ≡ activation_refusal p row hold
  unfolding activation_refusal refuse state_of
  tests_fail e row hold =
      let r = reached_active p counts e ready.running in
      activation_refused_with r.0 p.remap row hold ∙ rw (r.1, e)

  -- a refused activation: the tracker, if one stands, is as it was
  pub activation_refused_step_by_number : (line row hold k : ℕ) → k ≡ activation_refusal p row hold → (k ≡ 0 → ⊥) → record { prints = refusal_line line k; tracker = tracker_in p counts } ≡ record_step line p.loaded (tracker_in p counts) (Activate row hold)
  unfolding activation_refusal refuse record_step_to refused_step activation_step
  activation_refused_step_by_number line row hold k e other =
      split p.active
      (λ on.
      rw (tracker_active p counts on, ← activation_refused_by_number p.settings p.remap (state_in p counts) row hold k (e ∙ sym (tests_fail on row hold)) other, ← answered_refusal line k [] other))
      (λ off. rw (tracker_inactive p counts off, (rw off at e)))

  pub activation_refused_step : (line row hold : ℕ) (r : Refusal) → number r ≡ activation_refusal p row hold → record { prints = refusal_line line (number r); tracker = tracker_in p counts } ≡ record_step line p.loaded (tracker_in p counts) (Activate row hold)
  activation_refused_step line row hold r e = activation_refused_step_by_number line row hold (number r) e (number_not_0 r)

  -- an accepted one: what it asks for is there, it prints nothing, and what the tables hold then is what it leaves
  module _ (row hold : ℕ) (free : activation_refusal p row hold ≡ 0) where
    pub activation_active : p.active ≡ true
    unfolding activation_refusal
    activation_active = (refuse_passed p.active 10 _ free).0

    no_test_fails : first_failed (activation_tests p.settings p.remap (state_in p counts) row hold) ≡ 0
    no_test_fails = tests_fail activation_active row hold ∙ free

    pub activation_facts : ReadyActivation p.settings p.remap (state_in p counts) row hold
    activation_facts = activation_ready p.settings p.remap (state_in p counts) row hold no_test_fails

    pub physical_inside : physical p.remap row < p.settings.rows
    physical_inside =
        let f = activation_facts in
        physical_below p.remap f.allowed p.settings.rows row f.state.settings.others.rows_whole f.inside

    pub activation_diameter : p.settings.blast_diameter ≤ 4
    activation_diameter = diameter_four activation_facts.state.settings

    pub activation_room : RoomFor 192 (dense counts p.tally.spillover)
    activation_room =
        let sum : Summary = dense counts p.tally.spillover in
        let room : Room most_count sum = rw (read_back p.settings p.events p.activations sum) at activation_facts.state.facts.room in
        room_more room (omega arith)

    pub activation_prints : (line : ℕ) → (record_step line p.loaded (tracker_in p counts) (Activate row hold)).prints ≡ []
    unfolding record_step_to activation_step answered
    activation_prints line =
        rw (tracker_active p counts activation_active, ← activation_done p.settings p.remap (state_in p counts) row hold no_test_fails refl)

    pub activation_moves : (line : ℕ) {at : ℕ} {counts' marks' bounds' : List ℕ} {t : Tally} → at ≡ physical p.remap row → Turned p.settings.rows p.settings.counters (repeated hold (activation p.settings.counters (victims p.settings.rows p.settings.blast_diameter) at) (dense counts p.tally.spillover)) counts' marks' bounds' t → memory (moved p p.events (p.activations + hold) t line) counts' ≡ record { tracker = (record_step line p.loaded (tracker_in p counts) (Activate row hold)).tracker; loaded = p.loaded; lines = line }
    unfolding tracker_in record_step_to activation_step state_of victims_in
    activation_moves line {at} {counts'} {t = t} same turned =
        let leaves = activation_leaves p.settings p.remap (state_in p counts) row hold no_test_fails in
        rw (activation_active, turned.holds, same, leaves, read_back p.settings p.events p.activations (dense counts p.tally.spillover))

pub volume_most : {s : Settings} {st : State} → Reached s st → s.volume ≤ 16
volume_most {s} r = (accepted_settings s (reached_accepted r)).others.volume.most

pub list_long : (n : ℕ) → n ≤ length {A = ℕ} (replicate n 0)
list_long n = let long : length {A = ℕ} (replicate n 0) ≡ n = length-replicate n 0 in omega arith

-- an event, where a tracker stands
module _ (p : Place) (counts : List ℕ) (ready : Ready (memory p counts)) (on : p.active ≡ true) where
  reached : Reached p.settings (state_in p counts)
  reached = (reached_active p counts on ready.running).0

  back : summary_of (state_in p counts) ≡ dense counts p.tally.spillover
  back = read_back p.settings p.events p.activations (dense counts p.tally.spillover)

  pub event_ranges : (places : ℕ) → 16 ≤ places → Ranges p.settings p.events places
  unfolding state_of
  event_ranges places long =
      let list : List ℕ = replicate p.settings.volume 0 in
      let r = (refresh_ready p.settings (state_in p counts) list (event_accepted reached list (list_long p.settings.volume))).0 in
      let o = r.settings.others in
      (diameter_four r.settings, o.rows.most, o.volume.most, o.block.most, o.window.least, omega (arith, r.facts.early, o.window.most), omega (arith, o.volume.most))

  pub event_room : RoomFor 448 (dense counts p.tally.spillover)
  event_room =
      let list : List ℕ = replicate p.settings.volume 0 in
      let r = (refresh_ready p.settings (state_in p counts) list (event_accepted reached list (list_long p.settings.volume))).0 in
      let room : Room most_count (dense counts p.tally.spillover) = rw back at r.facts.room in
      room_more room (omega arith)

  pub event_few : {list₀ list : List ℕ} {count : ℕ} → PickedFrom p.settings.volume (dense counts p.tally.spillover) list₀ list count → count ≤ 16
  event_few named = omega (arith, count_picked_le named, volume_most reached)

  pub event_prints : (line : ℕ) {list₀ list : List ℕ} {count : ℕ} → PickedFrom p.settings.volume (dense counts p.tally.spillover) list₀ list count → refresh_line p.events (take count list) ≡ (record_step line p.loaded (tracker_in p counts) Refresh).prints
  unfolding record_step_to refresh_step answered state_of
  event_prints line named =
      let lent : List ℕ = replicate p.settings.volume 0 in
      let is = event_is reached lent (list_long p.settings.volume) in
      rw (tracker_active p counts on, is.free, is.named, back, take_picked named)

  pub event_moves : (line : ℕ) {next : ℕ} {counts' marks' bounds' : List ℕ} {t : Tally} → next ≡ next_event p.settings p.events → Turned p.settings.rows p.settings.counters (event p.settings.counters (victims_in p.settings) p.settings.volume (block_rows p.settings p.events) (ends_window p.settings p.events) (dense counts p.tally.spillover)) counts' marks' bounds' t → memory (moved p next 0 t line) counts' ≡ record { tracker = (record_step line p.loaded (tracker_in p counts) Refresh).tracker; loaded = p.loaded; lines = line }
  unfolding tracker_in record_step_to refresh_step refresh_to kept_unless state_of
  event_moves line next turned =
      let lent : List ℕ = replicate p.settings.volume 0 in
      rw (on, turned.holds, next, event_accepted reached lent (list_long p.settings.volume), back)
