-- Every printed line ends in byte 10.
use mathlib.Core.Path.{◌≡◌, refl}
use mathlib.Core.Bool.{true}
use mathlib.Core.List.{List, [], ◌∷◌, ◌++◌}
use mathlib.Core.Option.{Option, none, some}
use Prim.Native.Nat.{ℕ, zero, suc, ◌*◌, ◌%◌}
use lib.ListN.{length}
use Rattle.device.specs.declared.Settings.{Settings}
use Rattle.device.specs.Refusal.{Outcome, accepted, refused}
use Rattle.bound.specs.Totals.{bound_of}
use Rattle.state.specs.declared.Position.{Position}
use Rattle.tracker.specs.Calls.{SetUpCall}
use Rattle.trace.specs.declared.Record.{Record}
use Rattle.trace.specs.declared.Record.TheVariants.{Set, Remap, Activate, Refresh, Blank}
use Rattle.columns.specs.Numbers.{printed}
use Rattle.columns.specs.Output.{number_columns, refusal_line}
use Rattle.trace.specs.Texts.{whole}
use Rattle.steps.specs.Output.{bound_line, refresh_line}
use Rattle.steps.specs.Steps.{Tracker, refused_step, set_up_step, answered, remap_step, activation_step, refresh_step, record_step_to, line_step_to, line_step}

whole_ended : (text : List ℕ) → whole (text ++ 10 ∷ []) ≡ true
unfolding whole
whole_ended [] = refl
whole_ended (b ∷ []) = refl
whole_ended (b ∷ c ∷ cs) = whole_ended (c ∷ cs)

refusal_whole : (number k : ℕ) → whole (refusal_line number k) ≡ true
unfolding refusal_line
refusal_whole number k = whole_ended (88 ∷ (printed 10 (number % 10000000000) ++ printed 6 k))

set_up_whole : (number : ℕ) (s : Settings) (remap : List ℕ) (call : SetUpCall) (o : Outcome Position) → whole (set_up_step number s remap call o).prints ≡ true
unfolding set_up_step refused_step bound_line
set_up_whole number s remap call (accepted p) = whole_ended (66 ∷ (printed 10 (bound_of s) ++ printed 10 (2 * bound_of s)))
set_up_whole number s remap call (refused k) = refusal_whole number k

refresh_whole : (e : ℕ) (picks : List ℕ) → whole (refresh_line e picks) ≡ true
unfolding refresh_line
refresh_whole e picks = whole_ended (82 ∷ ((printed 6 e ++ printed 6 (length picks)) ++ number_columns picks))

answered_whole : (number k : ℕ) (text : List ℕ) → whole text ≡ true → whole (answered number k text) ≡ true
unfolding answered
answered_whole number zero text h = h
answered_whole number (suc k) text h = refusal_whole number (suc k)

pub step_whole : (number : ℕ) (loaded : List ℕ) (t : Option Tracker) (o : Outcome Record) → whole (line_step number loaded t o).prints ≡ true
unfolding line_step_to record_step_to refused_step remap_step activation_step refresh_step whole
step_whole number loaded t (refused k) = refusal_whole number k
step_whole number loaded t (accepted (Set s)) = set_up_whole number s loaded _ _
step_whole number loaded t (accepted (Remap table)) = answered_whole number _ [] refl
step_whole number loaded none (accepted (Activate row hold)) = refusal_whole number 11
step_whole number loaded (some t) (accepted (Activate row hold)) = answered_whole number _ [] refl
step_whole number loaded none (accepted Refresh) = refusal_whole number 11
step_whole number loaded (some t) (accepted Refresh) = answered_whole number _ _ (refresh_whole _ _)
step_whole number loaded t (accepted Blank) = refl
