-- 'The least counter count for a threshold'.
use Rattle.std.specs.Prelude.{ℕ, zero, suc, ◌+◌, ◌-◌, ◌*◌, Bool, true, false, ltb}
use Rattle.device.specs.declared.Settings.{Settings}
use Rattle.device.specs.Acceptance.{most_counters}
use Rattle.device.specs.Refusal.{Outcome, accepted, refused}
use Rattle.bound.specs.Totals.{bound_of}

-- the settings with another C
unfoldable pub with_counters : Settings → ℕ → Settings
with_counters s c =
    record {
      rows = s.rows;
      blast_diameter = s.blast_diameter;
      volume = s.volume;
      counters = c;
      interval = s.interval;
      window = s.window;
      block = s.block;
    }

-- '2 × H below the threshold' at C = c
unfoldable pub meets : Settings → ℕ → ℕ → Bool
meets s threshold c = ltb (2 * bound_of (with_counters s c)) threshold

-- c where it passes, else another answer
unfoldable pub or_else : Bool → ℕ → Outcome ℕ → Outcome ℕ
or_else true c later = accepted c
or_else false c later = later

-- the first that passes of so many numbers from c on, or refusal 12
unfoldable pub first_from : (ℕ → Bool) → ℕ → ℕ → Outcome ℕ
first_from passes zero c = refused 12
first_from passes (suc k) c = or_else (passes c) c (first_from passes k (suc c))

-- 'the smallest C from V to 2,048 with 2 × H below the threshold'
unfoldable pub least_of : Settings → ℕ → Outcome ℕ
least_of s threshold = first_from (meets s threshold) (most_counters + 1 - s.volume) s.volume
