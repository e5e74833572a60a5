-- An activation's hold: what an accepted call leaves, how far its units raise counts, and units done in two calls.
use mathlib.Core.Path.{◌≡◌, sym}
use mathlib.Core.Bool.{true}
use mathlib.Core.List.{List}
use Prim.Native.Nat.{ℕ, ◌+◌, ◌*◌, ◌≤◌}
use native.Mathlib.Nat.{add_assoc, mul-le-mul}
use native.Mathlib.Omega.{arith}
use borrow.Author.Tests.{eqb-true, le-leb}
use Rattle.device.specs.declared.Settings.{Settings}
use Rattle.device.specs.Refusal.{first_failed}
use Rattle.device.specs.Remap.{physical}
use Rattle.device.specs.Hold.{hold_allowed, repeated}
use Rattle.device.proofs.Hold.{repeated_sum}
use Rattle.device.proofs.Victims.{length_victims_le}
use Rattle.summary.specs.Steps.{Summary, activation}
use Rattle.summary.specs.Rules.{Room}
use Rattle.state.specs.State.{State, summary_of, state_of, most_count}
use Rattle.state.proofs.StateOf.{read_back}
use Rattle.tracker.specs.Calls.{victims_in, activation_tests, activation_to, activation_on}
use Rattle.tracker.proofs.Steps.Units.{room_units}
use Rattle.tracker.proofs.Calls.Ready.{activation_passed, passed_activation, activation_ready, diameter_four}
use Rattle.tracker.proofs.Calls.Outcomes.{activation_done, activation_leaves}

module _ (s : Settings) (remap : List ℕ) (st : State) (row : ℕ) where
  -- the summary after so many units
  units_of : ℕ → Summary
  units_of hold = repeated hold (activation s.counters (victims_in s) (physical remap row)) (summary_of st)

  accepted_tests : (hold : ℕ) → (activation_on s remap st row hold).accepts ≡ true → first_failed (activation_tests s remap st row hold) ≡ 0
  unfolding activation_to
  accepted_tests hold ok = eqb-true (first_failed (activation_tests s remap st row hold)) 0 ok

  -- an accepted activation, by what it leaves
  accepted_call : (hold : ℕ) → first_failed (activation_tests s remap st row hold) ≡ 0 → activation_on s remap st row hold ≡ record { accepts = true; refusal = 0; state = state_of s st.position.events (st.position.activations + hold) (units_of hold) }
  unfolding units_of
  accepted_call hold e = sym (activation_done s remap st row hold e (sym (activation_leaves s remap st row hold e)))

  pub counts_within : (hold : ℕ) → (activation_on s remap st row hold).accepts ≡ true → Room most_count (summary_of st) × ((most : ℕ) → Room most (summary_of st) → Room (most + s.blast_diameter * hold) (summary_of (activation_on s remap st row hold).state)) × (s.blast_diameter * hold ≤ 64)
  unfolding units_of victims_in
  counts_within hold ok =
      let e = accepted_tests hold ok in
      let r = activation_ready s remap st row hold e in
      let at = physical remap row in
      let few = length_victims_le s.rows s.blast_diameter at in (
        r.state.facts.room,
        (λ most room.
            rw (activation_leaves s remap st row hold e, read_back s st.position.events (st.position.activations + hold) (units_of hold))
            (room_units s.counters (victims_in s) at s.blast_diameter few hold (summary_of st) room)),
        mul-le-mul (diameter_four r.state.settings) r.units.most,
      )

-- units done in two calls
module _ (s : Settings) (remap : List ℕ) (st : State) (row h k : ℕ) where
  pub units_in_two : hold_allowed (h + k) ≡ true → (activation_on s remap st row h).accepts ≡ true → (activation_on s remap (activation_on s remap st row h).state row k).accepts ≡ true → activation_on s remap st row (h + k) ≡ activation_on s remap (activation_on s remap st row h).state row k
  unfolding units_of state_of
  units_in_two both ok ok' =
      let e = accepted_tests s remap st row h ok in
      let left = state_of s st.position.events (st.position.activations + h) (units_of s remap st row h) in
      let e' : first_failed (activation_tests s remap left row k) ≡ 0 = rw (accepted_call s remap st row h e) at (accepted_tests s remap (activation_on s remap st row h).state row k ok') in
      let p = activation_passed s remap st row h e in
      let spare : st.position.activations + (h + k) ≤ s.interval = omega (arith, (activation_ready s remap left row k e').spare) in
      let all =
      passed_activation s remap st row (h + k)
      (record {
        tables = p.tables;
        inside = p.inside;
        held = both;
        allowed = p.allowed;
        sound = p.sound;
        spare = le-leb (st.position.activations + (h + k)) s.interval spare;
      })
      in
      rw (
        accepted_call s remap st row h e,
        accepted_call s remap st row (h + k) all,
        accepted_call s remap left row k e',
        read_back s st.position.events (st.position.activations + h) (units_of s remap st row h),
        add_assoc st.position.activations h k,
        repeated_sum h k (activation s.counters (victims_in s) (physical remap row)) (summary_of st),
      )
