-- An activation line on both sides: an accepted one is one call more, and a refused one leaves the tracker and the silicon as they were;
-- behind a refused `S` all are refused.
use mathlib.Core.Path.{◌≡◌, refl, sym, ◌∙◌, ap}
use mathlib.Core.Bool.{true, false}
use mathlib.Core.List.{List, [], ◌∷◌, ◌++◌}
use mathlib.Core.Option.{none, some}
use Prim.Native.Nat.{ℕ, zero, suc}
use native.Mathlib.Omega.{arith}
use borrow.Author.Tests.{eqb-true, eqb-false, eq-eqb}
use lib.ListN.{length}
use Rattle.laws.proofs.Cases.{split}
use Rattle.device.specs.Refusal.{first_failed}
use Rattle.state.specs.State.{State, state_of}
use Rattle.tracker.specs.Calls.{ActivationCall, activation_tests, kept_unless, activation_to, activation_on}
use Rattle.tracker.proofs.Calls.Outcomes.{activation_leaves}
use Rattle.limit.specs.Exact.{Happened, activated}
use Rattle.limit.specs.Run.{activation_of, left_by, told_by}
use Rattle.columns.specs.Output.{refusal_line}
use Rattle.columns.proofs.Output.{length_refusal_line}
use Rattle.steps.specs.Steps.{Tracker, answered, activation_step}
use Rattle.silicon.specs.Silicon.{takes, activated_by}
use Rattle.silicon.proofs.Standing.{beside, beside_stopped, Matched, Stands, both, earlier, stands_by, matched_on, accepts_taken}

-- a refusal prints something
pub refusal_prints : (number k : ℕ) → refusal_line number k ≡ [] → ⊥
refusal_prints number k e = omega (arith, ap length e, length_refusal_line number k)

-- what prints nothing was accepted
answered_nothing : (number k : ℕ) → answered number k [] ≡ [] → k ≡ 0
unfolding answered
answered_nothing number zero e = refl
answered_nothing number (suc k) e = absurd (refusal_prints number (suc k) e)

-- what came is kept where a call is refused
kept : (k : ℕ) (came made : State) → (k ≡ 0 → ⊥) → kept_unless k came made ≡ came
unfolding kept_unless
kept zero came made h = absurd (h refl)
kept (suc k) came made h = refl

module _ {Own : Type 0} (t : Tracker) (did : List Happened) (m : Matched Own t did) (row hold : ℕ) where
  abbrev k : ℕ
  k = first_failed (activation_tests t.settings t.remap t.state row hold)

  abbrev call : ActivationCall
  call = activation_on t.settings t.remap t.state row hold

  refused_keeps : (k ≡ 0 → ⊥) → call.state ≡ t.state
  unfolding activation_to
  refused_keeps other = kept k t.state _ other

  accepts_same : call.accepts ≡ takes (beside t did) row hold
  unfolding activation_to
  accepts_same = accepts_taken m row hold

  accepted_stands : takes (beside t did) row hold ≡ true
      → Stands Own (some (record { settings = t.settings; remap = t.remap; state = call.state })) (some (activated_by row hold (beside t did)))
  unfolding activated_by left_by told_by state_of
  accepted_stands on =
      let free : k ≡ 0 = eqb-true k 0 (accepts_taken m row hold ∙ on) in
      let did' : List Happened = did ++ activated t.remap row hold true ∷ [] in
      let told : did' ≡ did ++ activated t.remap row hold call.accepts ∷ [] = rw (accepts_same ∙ on) in
      stands_by (record { settings = t.settings; remap = t.remap; state = call.state }) did' (activated_by row hold (beside t did))
      (rw (on, activation_leaves t.settings t.remap t.state row hold free))
      (matched_on m (activation_of t.remap row hold) did' (λ own. told))

  pub activation_stands : (number : ℕ) → Stands Own (activation_step number t.settings t.remap call).tracker (some (activated_by row hold (beside t did)))
  unfolding activation_step activated_by
  activation_stands number =
      split (takes (beside t did) row hold)
      accepted_stands
      (λ off.
      let stays = refused_keeps (eqb-false k 0 (accepts_taken m row hold ∙ off)) in
      rw (off, stays) (both t did m))

  -- the silicon takes those that print nothing
  pub taken_prints : (number : ℕ) → takes (beside t did) row hold ≡ true → (activation_step number t.settings t.remap call).prints ≡ []
  unfolding activation_step activation_to answered
  taken_prints number on =
      let free : k ≡ 0 = eqb-true k 0 (accepts_taken m row hold ∙ on) in
      rw free

  pub prints_taken : (number : ℕ) → (activation_step number t.settings t.remap call).prints ≡ [] → takes (beside t did) row hold ≡ true
  unfolding activation_step activation_to
  prints_taken number e = sym (accepts_taken m row hold) ∙ eq-eqb k 0 (answered_nothing number k e)

  -- behind a refused `S` the silicon takes none, and stays as it is
  pub stopped_takes : takes (beside_stopped t did) row hold ≡ false
  unfolding takes
  stopped_takes = refl

  pub stopped_stays : Stands Own none (some (activated_by row hold (beside_stopped t did)))
  unfolding activated_by
  stopped_stays = rw stopped_takes (earlier t did m)
