-- The scheme of a tracker's settings, with what it bounds: the rows since an event, each row's disturbance in the window by H, and the counts.
use mathlib.Core.Path.{◌≡◌}
use Prim.Native.Nat.{ℕ, ◌+◌, ◌-◌, ◌*◌, ◌≤◌, ◌<◌}
use native.Mathlib.Nat.{le_trans, mul-le-mul, mul-le-mul_left, zero-add}
use native.Mathlib.Omega.{arith}
use Rattle.device.specs.declared.Settings.{Settings}
use Rattle.device.proofs.Acceptance.{Accepted}
use Rattle.device.proofs.Victims.{victims_ascend, length_victims_le}
use Rattle.device.proofs.Occurrences.{times, victims_once}
use Rattle.bound.specs.Totals.{size, total, disturbers, bound_at}
use Rattle.bound.proofs.Totals.Size.{size_first, size_positive, size_grows, size_steps, size_le}
use Rattle.bound.proofs.Totals.Bound.{disturbers_cover, added_le}
use Rattle.bound.proofs.Totals.Total.{total_le}
use Rattle.summary.proofs.Steps.Level.{ceiling_level, spillover_level, Level}
use Rattle.summary.proofs.Rules.Ceiling.{ceiling_higher}
use Rattle.summary.proofs.Steps.Event.{Reach}
use Rattle.summary.specs.Steps.{Summary}
use Rattle.tracker.specs.Calls.{victims_in}
use Rattle.tracker.proofs.Calls.SoundTests.{Held}
use Rattle.limit.proofs.Block.{below_ascends}
use Rattle.limit.proofs.Scheme.{Scheme, total_of}
use Rattle.limit.proofs.Window.{Window}

pub reach_victims : (s : Settings) → Reach s.rows s.blast_diameter (victims_in s)
unfolding victims_in
reach_victims s =
    record {
      inside = λ row h. below_ascends (victims_ascend s.rows s.blast_diameter row h);
      few = λ row. length_victims_le s.rows s.blast_diameter row;
    }

pub once_victims : (s : Settings) (row v : ℕ) → row < s.rows → times v (victims_in s row) ≤ 1
unfolding victims_in
once_victims s row v h = victims_once s.rows s.blast_diameter row v h

-- a tracker with these settings, in a window that may have so many events of every kind: regular ones, and others that pick rows
abbrev pub scheme_of : Settings → ℕ → Scheme
scheme_of s all =
    record {
      rows = s.rows;
      counters = s.counters;
      volume = s.volume;
      window = all;
      reach = s.blast_diameter;
      disturbers = disturbers s;
      size = size s.volume s.counters;
      victims_of = victims_in s;
      first = size_first s.volume s.counters;
      positive = size_positive s.volume s.counters;
      grows = size_grows s.volume s.counters;
      steps = size_steps s.volume s.counters;
      most = size_le s.volume s.counters;
      reaches = reach_victims s;
      once = once_victims s;
    }

-- k events of every kind so far in the window; g: the rows that have disturbed since the last one, at most its own and a
module _ (s : Settings) {all k a g : ℕ} {cur : ℕ → ℕ} {sum : Summary} (w : Window (scheme_of s all) k g cur sum) (since : g ≤ s.volume + s.block + a) (within : a ≤ s.interval) where
  pub since_le : g ≤ disturbers s
  since_le = omega (arith, disturbers_cover s)

  -- H(k + 1), of the window so far
  pub present_le : (v : ℕ) → cur v ≤ bound_at s (k + 1)
  unfolding bound_at
  present_le v =
      let same : k + 1 - 1 ≡ k = omega arith in
      rw same (omega (arith, w.closer v, since_le))

  -- no count comes near 2,000,000,000
  pub window_held : Accepted s → {e : ℕ} → e < s.window → k < all → all ≤ 16384 → Held s e a sum
  unfolding total
  window_held ok {e} early room few_events =
      let c : Scheme = scheme_of s all in
      let at = w.levels 0 (omega arith) in
      let added : ℕ = s.blast_diameter * disturbers s in
      let one : Level 1 (at.sum + s.blast_diameter * g) sum = rw c.first at at.level in
      let under : at.sum ≤ total_of c k = rw (zero-add k) at at.under in
      let events : k + 1 ≤ 16384 = omega arith in
      let few : at.sum + s.blast_diameter * g ≤ 2000000000 =
      omega (
        arith,
        total_le c.size added c.grows k 0,
        mul-le-mul_left s.blast_diameter since_le,
        mul-le-mul events (added_le s ok.others),
      ) in
      record {
        sound = w.sound;
        early = early;
        within = within;
        ceiling = ceiling_higher (ceiling_level one) few;
        spillover_le = le_trans (spillover_level one) few;
      }
