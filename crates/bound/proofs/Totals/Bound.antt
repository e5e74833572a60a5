-- The bound H: longer windows give no lower one and more counters no higher one, and nothing comes near 2^63.
use mathlib.Core.Logic.{⊎_elim}
use Prim.Native.Nat.{ℕ, ◌+◌, ◌-◌, ◌*◌, ◌≤◌, ◌<◌, ◌^◌}
use native.Mathlib.Nat.{le_refl, mul-le-mul}
use native.Mathlib.Omega.{arith}
use Rattle.device.specs.declared.Settings.{Settings}
use Rattle.device.proofs.Acceptance.{InRange}
use Rattle.bound.specs.Totals.{size, disturbers, bound_at, bound_of}
use Rattle.bound.specs.Least.{with_counters}
use Rattle.bound.proofs.Totals.Total.{total_grows, total_le, total_counters}
use Rattle.bound.proofs.Totals.Size.{size_grows}

-- H does not fall as the window grows
pub bound_grows : (s : Settings) {i k : ℕ} → i ≤ k → bound_at s i ≤ bound_at s k
unfolding bound_at
bound_grows s {i} {k} h =
    let shorter : i - 1 ≤ k - 1 = omega arith in
    omega (arith, total_grows (size s.volume s.counters) (s.blast_diameter * disturbers s) shorter)

-- H does not rise as C grows
pub bound_counters : (s : Settings) {c c' : ℕ} → c ≤ c' → bound_of (with_counters s c') ≤ bound_of (with_counters s c)
unfolding bound_of bound_at with_counters disturbers
bound_counters s {c} {c'} h =
    omega (arith, total_counters s.volume (s.blast_diameter * disturbers s) h (s.window - 1) (le_refl 0))

-- T' counts every row that can disturb its victims between two events
pub disturbers_cover : (s : Settings) → s.interval + s.volume + s.block ≤ disturbers s
unfolding disturbers
disturbers_cover s = omega arith

-- what an accepted device adds in a step, and its T'
pub disturbers_le : (s : Settings) → InRange s → disturbers s ≤ 4176
unfolding disturbers
disturbers_le s ok = omega arith

diameter_le : (s : Settings) → InRange s → s.blast_diameter ≤ 4
diameter_le s ok = ⊎_elim (λ e. omega arith) (λ e. omega arith) ok.diameter

pub added_le : (s : Settings) → InRange s → s.blast_diameter * disturbers s ≤ 16704
added_le s ok = omega (arith, mul-le-mul (diameter_le s ok) (disturbers_le s ok))

-- H of i events is at most what they all add, and T'
bound_at_le : (s : Settings) (i most : ℕ) → InRange s → i - 1 ≤ most → bound_at s i ≤ most * 16704 + 4176
unfolding bound_at
bound_at_le s i most ok few =
    let added : ℕ = s.blast_diameter * disturbers s in
    let whole : (i - 1) * added ≤ most * 16704 = mul-le-mul few (added_le s ok) in
    omega (arith, total_le (size s.volume s.counters) added (size_grows s.volume s.counters) (i - 1) 0, disturbers_le s ok)

-- no bound of an accepted device comes near 2^63
pub bound_lt : (s : Settings) → InRange s → bound_of s < 2 ^ 28
unfolding bound_of
bound_lt s ok = omega (arith, bound_at_le s s.window 8191 ok (omega arith))

pub bound_at_lt : (s : Settings) (i : ℕ) → InRange s → i ≤ 16384 → bound_at s i < 2 ^ 29
bound_at_lt s i ok few = omega (arith, bound_at_le s i 16383 ok (omega arith))
