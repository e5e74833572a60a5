-- Answers that can be said as one signed number of 64 bits: the bound's and the least count's.
use mathlib.Core.Path.{◌≡◌, refl}
use mathlib.Core.Bool.{Bool, true, false}
use Prim.Native.Nat.{ℕ, zero, suc, ◌+◌, ◌-◌, ◌^◌, ◌≤◌, ◌<◌}
use native.Mathlib.Omega.{arith}
use Rattle.device.specs.declared.Settings.{Settings}
use Rattle.device.specs.Refusal.{Outcome, accepted, first_failed, tested}
use Rattle.device.specs.Acceptance.{settings_tests, settings_tests_but_counters}
use Rattle.device.proofs.Acceptance.{accepted_skipping, accepted_but_counters, refusals_le, refusals_but_counters_le}
use Rattle.bound.specs.Totals.{bound_of}
use Rattle.bound.specs.Least.{meets, first_from, or_else, least_of}
use Rattle.bound.specs.Answers.{Small, bound_answer_to, bound_answer, least_answer_to, least_answer}
use Rattle.bound.proofs.Totals.Bound.{bound_lt}

-- no refusal has more than two digits
pub small_tested : (k : ℕ) (answer : Outcome ℕ) → k ≤ 99 → (k ≡ 0 → Small answer) → Small (tested k answer)
unfolding tested Small
small_tested zero answer few small = small refl
small_tested (suc k) answer few small = omega arith

pub small_bound_answer : (s : Settings) → Small (bound_answer s)
unfolding bound_answer_to Small
small_bound_answer s =
    small_tested (first_failed (settings_tests s)) (accepted (bound_of s)) (omega (arith, refusals_le s))
    (λ e. omega (arith, bound_lt s (accepted_but_counters s (accepted_skipping s e))))

small_or_else : (b : Bool) (c : ℕ) (later : Outcome ℕ) → c < 2 ^ 63 → Small later → Small (or_else b c later)
unfolding or_else Small
small_or_else true c later h small = h
small_or_else false c later h small = small

small_first_from : (passes : ℕ → Bool) (k c : ℕ) → k + c ≤ 2 ^ 62 → Small (first_from passes k c)
unfolding first_from Small
small_first_from passes zero c h = omega arith
small_first_from passes (suc k) c h =
    small_or_else (passes c) c (first_from passes k (suc c)) (omega arith) (small_first_from passes k (suc c) (omega arith))

pub small_least_answer : (s : Settings) (threshold : ℕ) → Small (least_answer s threshold)
unfolding least_answer_to least_of
small_least_answer s threshold =
    small_tested (first_failed (settings_tests_but_counters s)) (least_of s threshold) (omega (arith, refusals_but_counters_le s))
    (λ e. small_first_from (meets s threshold) (2049 - s.volume) s.volume (omega (arith, (accepted_but_counters s e).volume.most)))
