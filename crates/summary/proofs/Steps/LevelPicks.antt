-- Picks take their share: from 'the E largest slots sum to at most M', after picks enough to go down to D slots, the D largest
-- sum to at most M × D / E, rounded down.
use mathlib.Core.Path.{◌≡◌, refl}
use mathlib.Core.Bool.{false}
use mathlib.Core.Logic.{⊎_elim}
use mathlib.Core.List.Memᴰ
use mathlib.Core.List.{List, [], ◌∷◌, Memᴰ}
use Prim.Native.Nat.{ℕ, zero, suc, ◌+◌, ◌-◌, ◌*◌, ◌/◌, ◌≤◌, ◌<◌, min}
use native.Mathlib.Nat.{le-div_iff_mul-le, mul-le-mul_left, mul-le-mul_right, le_of_mul-le-mul_left, le_trans, le_of_eq, eq-or-lt_of_le, zero-lt-suc}
use native.Mathlib.Omega.{arith}
use borrow.Author.Tests.{eq-eqb, ne_eqb}
use lib.Dec.{eqb}
use Rattle.laws.proofs.Cases.{le_or_lt}
use Rattle.summary.specs.Entries.{Entry, without, without_all, top, picks}
use Rattle.summary.specs.Steps.{Summary, drop_rows}
use Rattle.summary.specs.Rules.{Ceiling, bare, under, Ordered, ordered_none, ordered_more}
use Rattle.summary.proofs.Entries.Picks.{top_best, top_ceiling, top_in}
use Rattle.summary.proofs.Steps.Level.{excess, Level, excess_without}
use Rattle.summary.proofs.Rules.Order.{ordered_without, ordered_member}

-- how many counts are above a level
count_above : ℕ → List Entry → ℕ
count_above t [] = 0
count_above t (x ∷ xs) = min (x.count - t) 1 + count_above t xs

-- one level more takes 1 from each count above it
excess_up : (t : ℕ) (es : List Entry) → excess (suc t) es + count_above t es ≡ excess t es
unfolding excess count_above
excess_up t [] = omega arith
excess_up t (x ∷ xs) = omega (arith, excess_up t xs)

excess_high : (t high : ℕ) {es : List Entry} → Ceiling high es → excess t es ≤ count_above t es * (high - t)
unfolding excess count_above
excess_high t high bare = omega arith
excess_high t high (under x {xs} c l) =
    ⊎_elim
    (λ low. let nothing : min (x.count - t) 1 ≡ 0 = omega arith in rw nothing (omega (arith, excess_high t high c)))
    (λ up. let one : min (x.count - t) 1 ≡ 1 = omega arith in rw one (omega (arith, excess_high t high c)))
    (le_or_lt x.count t)

-- a level at which at most so many counts stand above it, and whose sum is no greater
record RaisedLevel (size t high : ℕ) (es : List Entry) : Type 0 where
  level : ℕ
  up : t ≤ level
  sum : size * level + excess level es ≤ size * t + excess t es
  few : excess level es ≤ size * (high - level)

raised_level : (size high : ℕ) {es : List Entry} → Ceiling high es → (fuel t : ℕ) → high ≤ t + fuel → RaisedLevel size t high es
raised_level size high {es} c zero t h =
    let gone : high - t ≡ 0 = omega arith in
    record { level = t; up = omega arith; sum = omega arith; few = omega (arith, rw gone at (excess_high t high c)) }
raised_level size high {es} c (suc fuel) t h =
    ⊎_elim
    (λ enough.
    record { level = t; up = omega arith; sum = omega arith; few = le_trans (excess_high t high c) (mul-le-mul_right (high - t) enough) })
    (λ many.
    let r = raised_level size high c fuel (suc t) (omega arith) in
    record { level = r.level; up = omega arith; sum = omega (arith, excess_up t es); few = r.few })
    (le_or_lt (count_above t es) size)

-- what a drop of a tracked row takes away
excess_taken : (t : ℕ) (x : Entry) {high low : ℕ} {es : List Entry} → Ordered high low es → Memᴰ x es → excess t (without x.row es) + (x.count - t) ≡ excess t es
unfolding excess without
excess_taken t x ordered_none m = absurd (Memᴰ.not-nil m)
excess_taken t x (ordered_more low y o l b) m =
    ⊎_elim
    (λ same. rw same (rw (eq-eqb y.row y.row refl) (omega arith)))
    (λ later.
    let behind = ordered_member o x later in
    let other : eqb y.row x.row ≡ false = ne_eqb y.row x.row (λ e. omega arith) in
    rw other (omega (arith, excess_taken t x o later)))
    (Memᴰ.cases_cons m)

-- after picks from E slots down to D: E × (D × t and the excess) is at most D × M
pub record Share (from size most : ℕ) (s : Summary) : Type 0 where
  level : ℕ
  above_spill : s.spillover ≤ level
  small : from * (size * level + excess level s.entries) ≤ size * most

-- one pick's arithmetic: S before and S' after, x share-taken away
share_taken : (E D t S S' x M : ℕ) → S' + x ≡ S → S ≤ suc D * x → E * (suc D * t + S) ≤ suc D * M → E * (D * t + S') ≤ D * M
share_taken E D t S S' x M e few h =
    let part : suc D * S' ≤ D * S = omega (arith, mul-le-mul_left (suc D) (le_of_eq e)) in
    let lifted : E * (D * (suc D * t) + suc D * S') ≤ E * (D * (suc D * t) + D * S) = mul-le-mul_left E (omega arith) in
    let scaled : D * (E * (suc D * t + S)) ≤ D * (suc D * M) = mul-le-mul_left D h in
    let whole : suc D * (E * (D * t + S')) ≤ suc D * (D * M) = omega arith in
    le_of_mul-le-mul_left whole (zero-lt-suc D)

module _ {from most : ℕ} where
  -- a drop keeps the share
  share_without : (row : ℕ) {size : ℕ} {s : Summary} → Share from size most s → Share from size most (drop_rows (row ∷ []) s)
  unfolding drop_rows without_all
  share_without row {size} {s} h =
      let lower : size * h.level + excess h.level (without row s.entries) ≤ size * h.level + excess h.level s.entries =
      omega (arith, excess_without h.level row s.entries) in
      record { level = h.level; above_spill = h.above_spill; small = le_trans (mul-le-mul_left from lower) h.small }

  -- the first entry of the highest count is dropped: one slot fewer
  share_top : (size : ℕ) (x : Entry) (xs : List Entry) (spill : ℕ) {high low : ℕ} → Ordered high low (x ∷ xs) → Share from (suc size) most (record { entries = x ∷ xs; spillover = spill }) → Share from size most (record { entries = without (top x xs).row (x ∷ xs); spillover = spill })
  share_top size x xs spill o h =
      let best : Entry = top x xs in
      let r = raised_level (suc size) best.count (under x (top_ceiling x xs) (top_best x xs)) best.count h.level (omega arith) in
      let lower : from * (suc size * r.level + excess r.level (x ∷ xs)) ≤ suc size * most = le_trans (mul-le-mul_left from r.sum) h.small in
      record {
        level = r.level;
        above_spill = omega arith;
        small =
            share_taken from size r.level (excess r.level (x ∷ xs)) (excess r.level (without best.row (x ∷ xs))) (best.count - r.level) most
            (excess_taken r.level best o (top_in x xs))
            r.few
            lower;
      }

  -- nothing is tracked: fewer slots at the same level
  share_empty : (size size' spill : ℕ) → size ≤ size' → Share from size' most (record { entries = []; spillover = spill }) → Share from size most (record { entries = []; spillover = spill })
  unfolding excess
  share_empty size zero spill few h =
      let none_left : size ≡ 0 = omega arith in
      record { level = h.level; above_spill = h.above_spill; small = rw none_left (omega arith) }
  share_empty size (suc size') spill few h =
      let whole : suc size' * (from * h.level) ≤ suc size' * most = omega (arith, h.small) in
      let one : from * h.level ≤ most = le_of_mul-le-mul_left whole (zero-lt-suc size') in
      record { level = h.level; above_spill = h.above_spill; small = omega (arith, mul-le-mul_left size one) }

  -- so many picks, enough to go down to the size
  share_picks : (k size size' : ℕ) (es : List Entry) (spill : ℕ) {high low : ℕ} → Ordered high low es → size ≤ size' → size' ≤ size + k → Share from size' most (record { entries = es; spillover = spill }) → Share from size most (record { entries = without_all (picks k es) es; spillover = spill })
  unfolding picks without_all drop_rows
  share_picks zero size size' es spill o l few h = let same : size' ≡ size = omega arith in rw same at h
  share_picks (suc k) size size' [] spill o l few h = share_empty size size' spill l h
  share_picks (suc k) size size' (x ∷ xs) spill o l few h =
      ⊎_elim
      (λ same.
      share_picks k size size (without (top x xs).row (x ∷ xs)) spill (ordered_without (top x xs).row o) (omega arith) (omega arith)
      (share_without (top x xs).row (rw (← same) at h)))
      (λ less.
      let down : size' ≡ suc (size' - 1) = omega arith in
      share_picks k size (size' - 1) (without (top x xs).row (x ∷ xs)) spill (ordered_without (top x xs).row o) (omega arith) (omega arith)
      (share_top (size' - 1) x xs spill o (rw down at h)))
      (eq-or-lt_of_le l)

-- picks enough to go from E slots down to D leave the D largest at most M × D / E
pub level_picks : (k : ℕ) {E D M high low : ℕ} {s : Summary} → Ordered high low s.entries → 0 < E → D ≤ E → E ≤ D + k → Level E M s → Level D (M * D / E) (drop_rows (picks k s.entries) s)
unfolding drop_rows
level_picks k {E} {D} {M} {s} o pos l few h =
    let start : Share E E M s = record { level = h.level; above_spill = h.above; small = mul-le-mul_left E h.small } in
    let done = share_picks k D E s.entries s.spillover o l few start in
    record {
      level = done.level;
      above = done.above_spill;
      small = (le-div_iff_mul-le pos).1 (omega (arith, done.small));
    }
