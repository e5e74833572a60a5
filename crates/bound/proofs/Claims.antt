-- The claims of specs/Claims.antt, each under its own name.
use Prim.Native.Nat.{◌-◌}
use native.Mathlib.Omega.{arith}
use Rattle.device.specs.Refusal.{tested}
use Rattle.device.proofs.Acceptance.{accepted_skipping, accepted_but_counters, settings_alike, but_counters_alike, settings_above, but_counters_above}
use Rattle.bound.specs.Least.{meets, least_of}
use Rattle.bound.specs.Answers.{bound_answer_to, least_answer_to}
use Rattle.bound.specs.Claims.{BoundGrowsWithWindow, BoundFallsWithCounters, LeastIsLeast, TwelveIsNone, BoundIsSmall, AnswersStay}
use Rattle.bound.proofs.Totals.Bound.{bound_grows, bound_counters, bound_lt}
use Rattle.bound.proofs.Least.{first_from_found, first_from_none, none_first_from}

pub bound_grows_with_window : BoundGrowsWithWindow
unfolding BoundGrowsWithWindow
bound_grows_with_window s i k h = bound_grows s h

pub bound_falls_with_counters : BoundFallsWithCounters
unfolding BoundFallsWithCounters
bound_falls_with_counters s c d h = bound_counters s h

pub least_is_least : LeastIsLeast
unfolding LeastIsLeast least_of
least_is_least s threshold c e =
    let f = first_from_found (meets s threshold) (2049 - s.volume) s.volume c e in
    record { from_volume = f.least; allowed = omega (arith, f.least, f.most); meets_it = f.met; none_before = f.before }

pub twelve_is_none : TwelveIsNone
unfolding TwelveIsNone least_of
twelve_is_none s threshold =
    record {
      means_none = λ e c l h. first_from_none (meets s threshold) (2049 - s.volume) s.volume e c l (omega arith);
      of_none = λ none. none_first_from (meets s threshold) (2049 - s.volume) s.volume (λ c l h. none c l (omega arith));
    }

pub bound_is_small : BoundIsSmall
unfolding BoundIsSmall
bound_is_small s e = bound_lt s (accepted_but_counters s (accepted_skipping s e))

pub answers_stay : AnswersStay
unfolding AnswersStay bound_answer_to least_answer_to tested
answers_stay most s threshold = (
  λ alike. (rw (settings_alike most s alike), rw (but_counters_alike most s alike)),
  λ h. (rw (settings_above most s h), rw (but_counters_above most s h)),
)
