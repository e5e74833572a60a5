-- What is claimed of the bound and of the least count, besides the calls' contracts. proofs/Claims.antt proves each under the same name.
use Rattle.std.specs.Prelude.{ℕ, ◌≤◌, ◌<◌, ◌^◌, ◌≡◌, true, false}
use Rattle.device.specs.declared.Settings.{Settings}
use Rattle.device.specs.Refusal.{accepted, refused, first_failed}
use Rattle.device.specs.Acceptance.{most_counters, settings_tests}
use Rattle.device.specs.Claims.{Alike}
use Rattle.bound.specs.Totals.{bound_at, bound_of}
use Rattle.bound.specs.Least.{with_counters, meets, least_of}
use Rattle.bound.specs.Answers.{bound_answer_to, least_answer_to, bound_answer, least_answer}

-- a longer window gives no lower bound
unfoldable pub BoundGrowsWithWindow : Type 0
BoundGrowsWithWindow = (s : Settings) (i k : ℕ) → i ≤ k → bound_at s i ≤ bound_at s k

-- more counters give no higher one
unfoldable pub BoundFallsWithCounters : Type 0
BoundFallsWithCounters = (s : Settings) (c d : ℕ) → c ≤ d → bound_of (with_counters s d) ≤ bound_of (with_counters s c)

-- 'the smallest C from V to 2,048 with 2 × H below the threshold': it meets the threshold, and no smaller one from V on does
pub record Least (s : Settings) (threshold c : ℕ) : Type 0 where
  pub from_volume : s.volume ≤ c
  pub allowed : c ≤ most_counters
  pub meets_it : meets s threshold c ≡ true
  pub none_before : (d : ℕ) → s.volume ≤ d → d < c → meets s threshold d ≡ false

-- the least count is the least
unfoldable pub LeastIsLeast : Type 0
LeastIsLeast = (s : Settings) (threshold c : ℕ) → least_of s threshold ≡ accepted c → Least s threshold c

-- refusal 12 exactly if no count from V to 2,048 meets the threshold
pub record Twelve (s : Settings) (threshold : ℕ) : Type 0 where
  pub means_none : least_of s threshold ≡ refused 12 → (c : ℕ) → s.volume ≤ c → c ≤ most_counters → meets s threshold c ≡ false
  pub of_none : ((c : ℕ) → s.volume ≤ c → c ≤ most_counters → meets s threshold c ≡ false) → least_of s threshold ≡ refused 12

-- 12 means none
unfoldable pub TwelveIsNone : Type 0
TwelveIsNone = (s : Settings) (threshold : ℕ) → Twelve s threshold

-- the bound of accepted settings is below 2^28
unfoldable pub BoundIsSmall : Type 0
BoundIsSmall = (s : Settings) → first_failed (settings_tests s) ≡ 0 → bound_of s < 2 ^ 28

-- the answers where N may be up to another most: as they are for settings whose N is judged alike, so for all 'that were valid' (`SettingsStay`), and
-- refused with 1 where N is above it
unfoldable pub AnswersStay : Type 0
AnswersStay =
    (most : ℕ) (s : Settings) (threshold : ℕ) →
    (Alike most s → (bound_answer_to most s ≡ bound_answer s) × (least_answer_to most s threshold ≡ least_answer s threshold)) ×
    (most < s.rows → (bound_answer_to most s ≡ refused 1) × (least_answer_to most s threshold ≡ refused 1))
