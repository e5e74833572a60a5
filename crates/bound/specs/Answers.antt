-- What the calls answer: the paper's number and value for each case, and the one signed number that C gets.
use Rattle.std.specs.Prelude.{ℕ, ◌<◌, ◌^◌, ℤ, pos, neg_ℤ}
use Rattle.device.specs.declared.Settings.{Settings}
use Rattle.device.specs.Refusal.{Outcome, accepted, refused, first_failed, tested}
use Rattle.device.specs.Acceptance.{most_rows, settings_tests_to, settings_tests_but_counters_to}
use Rattle.bound.specs.Totals.{bound_of}
use Rattle.bound.specs.Least.{least_of}

-- the bound's answer, where N may be up to the most: the settings' refusals, else H
unfoldable pub bound_answer_to : ℕ → Settings → Outcome ℕ
bound_answer_to most s = tested (first_failed (settings_tests_to most s)) (accepted (bound_of s))

-- the least count's answer: the settings' refusals but 4, else the least count, which may be refusal 12
unfoldable pub least_answer_to : ℕ → Settings → ℕ → Outcome ℕ
least_answer_to most s threshold = tested (first_failed (settings_tests_but_counters_to most s)) (least_of s threshold)

-- both with N up to `most_rows`
abbrev pub bound_answer : Settings → Outcome ℕ
bound_answer s = bound_answer_to most_rows s

abbrev pub least_answer : Settings → ℕ → Outcome ℕ
least_answer s threshold = least_answer_to most_rows s threshold

-- 'one signed number of 64 bits out; refusal k comes back there as −k'
unfoldable pub signed : Outcome ℕ → ℤ
signed (accepted v) = pos v
signed (refused k) = neg_ℤ (pos k)

-- an outcome that one signed number of 64 bits can say
unfoldable pub Small : Outcome ℕ → Type 0
Small (accepted v) = v < 2 ^ 63
Small (refused k) = k < 2 ^ 63

-- the settings as numbers, in their order
unfoldable pub settings_of : ℕ → ℕ → ℕ → ℕ → ℕ → ℕ → ℕ → Settings
settings_of rows diameter volume counters interval window block =
    record {
      rows = rows;
      blast_diameter = diameter;
      volume = volume;
      counters = counters;
      interval = interval;
      window = window;
      block = block;
    }
