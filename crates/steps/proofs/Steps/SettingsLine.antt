-- A settings line: what the bound and the settings' tests answered, and an empty table, make the definition's step.
use mathlib.Core.Path.{◌≡◌, refl, sym, ◌∙◌, ap, subst}
use mathlib.Core.Bool.{Bool, true}
use mathlib.Core.List.{List}
use mathlib.Core.Option.{Option, none, some}
use Prim.Native.Nat.{ℕ, zero, suc}
use native.Mathlib.Omega.{arith}
use borrow.Author.Tests.{eqb-true, eqb-false, ne_eqb}
use lib.Dec.{eqb}
use Rattle.std.specs.Prelude.{Result, Ok, Err, is_ok}
use lib.ListN.{replicate, length-replicate}
use Rattle.laws.proofs.Cases.{split}
use Rattle.device.specs.declared.Settings.{Settings}
use Rattle.device.specs.declared.refusal.Refusal.{Refusal}
use Rattle.device.specs.Refusal.{first_failed, Outcome, accepted, tested, outcome}
use Rattle.device.specs.Acceptance.{settings_tests}
use Rattle.device.specs.Remap.{remap_allowed}
use Rattle.device.proofs.Tests.{or_later}
use Rattle.bound.specs.Totals.{bound_of}
use Rattle.bound.specs.Answers.{bound_answer_to, bound_answer}
use Rattle.summary.specs.Steps.{empty}
use Rattle.state.specs.declared.Position.{Position}
use Rattle.state.specs.State.{state_of}
use Rattle.tracker.specs.Calls.{SetUpCall, kept_unless, set_up_tests, set_up_to}
use Rattle.dense.specs.declared.Tally.{Tally}
use Rattle.dense.specs.Dense.{dense}
use Rattle.trace.specs.declared.Record.TheVariants.{Set}
use Rattle.columns.specs.Output.{Prints}
use Rattle.steps.specs.Steps.{Tracker, refused_step, set_up_step, record_step_to, record_step}
use Rattle.steps.specs.Memory.{memory, tracker_in}
use Rattle.steps.specs.InnerContracts.{settings_line}
use Rattle.steps.proofs.Steps.LineNumbers.{set_up_first}

pub cleared_first : (s : Settings) (remap : List ℕ) → remap_allowed remap ≡ true → first_failed (set_up_tests s remap (replicate s.counters 0) (replicate s.counters 0)) ≡ or_later (first_failed (settings_tests s)) 0
cleared_first s remap ok =
    set_up_first s remap (replicate s.counters 0) (replicate s.counters 0) ok (length-replicate s.counters 0) (length-replicate s.counters 0)

prints_by : (number : ℕ) (s : Settings) (remap : List ℕ) (call : SetUpCall) (p : Position) (k : ℕ) → (set_up_step number s remap call (tested (or_later k 0) (accepted p))).prints ≡ settings_line number (tested k (accepted (bound_of s)))
unfolding set_up_step tested or_later settings_line refused_step
prints_by number s remap call p zero = refl
prints_by number s remap call p (suc k) = refl

refused_by : (number : ℕ) (s : Settings) (remap : List ℕ) (call : SetUpCall) (p : Position) (k : ℕ) → (k ≡ 0 → ⊥) → (set_up_step number s remap call (tested (or_later k 0) (accepted p))).tracker ≡ none
unfolding set_up_step tested or_later refused_step
refused_by number s remap call p zero h = absurd (h refl)
refused_by number s remap call p (suc k) h = refl

answers_by : (answer : Result ℕ Refusal) (k h : ℕ) → outcome answer ≡ tested k (accepted h) → is_ok answer ≡ eqb k 0
unfolding tested outcome
answers_by (Ok x) zero h e = refl
answers_by (Ok x) (suc k) h e = cc
answers_by (Err r) zero h e = cc
answers_by (Err r) (suc k) h e = sym (ne_eqb (suc k) 0 (λ zero. omega arith))

-- the bound is given where the settings are accepted
pub bound_given : (s : Settings) (answer : Result ℕ Refusal) → outcome answer ≡ bound_answer s → is_ok answer ≡ eqb (first_failed (settings_tests s)) 0
unfolding bound_answer_to
bound_given s answer e = answers_by answer (first_failed (settings_tests s)) (bound_of s) e

-- the loaded remap is an accepted one
module _ (loaded : List ℕ) (ok : remap_allowed loaded ≡ true) where
  settings_print : (number : ℕ) (s : Settings) (t : Option Tracker) → (record_step number loaded t (Set s)).prints ≡ settings_line number (bound_answer s)
  unfolding record_step_to set_up_to bound_answer_to
  settings_print number s t =
      rw (cleared_first s loaded ok) (prints_by number s loaded _ (state_of s 0 0 empty).position (first_failed (settings_tests s)))

  -- 'after an S line .. whose settings are refused no tracker stands'
  pub settings_refused : (number : ℕ) (s : Settings) (t : Option Tracker) → (first_failed (settings_tests s) ≡ 0 → ⊥) → (record_step number loaded t (Set s)).tracker ≡ none
  unfolding record_step_to set_up_to
  settings_refused number s t h =
      rw (cleared_first s loaded ok) (refused_by number s loaded _ (state_of s 0 0 empty).position (first_failed (settings_tests s)) h)

  -- 'an accepted S sets up afresh'
  pub settings_stand : (number : ℕ) (s : Settings) (t : Option Tracker) → first_failed (settings_tests s) ≡ 0 → (record_step number loaded t (Set s)).tracker ≡ some (record { settings = s; remap = loaded; state = state_of s 0 0 empty })
  unfolding record_step_to set_up_step set_up_to tested kept_unless or_later state_of
  settings_stand number s t e = rw (cleared_first s loaded ok, e)

  -- what either leaves, where the table of counts is empty then
  pub settings_leave : (number : ℕ) (s : Settings) (t : Option Tracker) (active : Bool) (tally : Tally) (counts : List ℕ) → active ≡ eqb (first_failed (settings_tests s)) 0 → dense counts tally.spillover ≡ empty → memory (record { active = active; settings = s; remap = loaded; events = 0; activations = 0; tally = tally; loaded = loaded; lines = number }) counts ≡ record { tracker = (record_step number loaded t (Set s)).tracker; loaded = loaded; lines = number }
  unfolding tracker_in
  settings_leave number s t active tally counts stands no_rows =
      split (eqb (first_failed (settings_tests s)) 0)
      (λ on. rw (stands, on, settings_stand number s t (eqb-true (first_failed (settings_tests s)) 0 on), no_rows))
      (λ off. rw (stands, off, settings_refused number s t (eqb-false (first_failed (settings_tests s)) 0 off)))

  pub settings_printed : {before after : List ℕ} {at end : ℕ} (number : ℕ) (s : Settings) (t : Option Tracker) (answer : Result ℕ Refusal) → outcome answer ≡ bound_answer s → Prints before at (settings_line number (outcome answer)) after end → Prints before at (record_step number loaded t (Set s)).prints after end
  settings_printed {before} {after} {at} {end} number s t answer e p =
      subst (λ (text : List ℕ). Prints before at text after end) (ap (λ (o : Outcome ℕ). settings_line number o) e ∙ sym (settings_print number s t)) p
