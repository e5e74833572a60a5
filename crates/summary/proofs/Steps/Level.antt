-- Levels: 'the D largest slots sum to at most M', said by a level t at or above the spillover with D × t and the excess of the counts over t
-- at most M. A disturbance raises M by at most 1, a drop does not; a level of one slot bounds every count, every estimate and the spillover.
use mathlib.Core.Path.{◌≡◌, refl}
use mathlib.Core.Logic.{⊎_elim}
use mathlib.Core.List.{List, [], ◌∷◌}
use Prim.Native.Nat.{ℕ, suc, ◌+◌, ◌-◌, ◌*◌, ◌≤◌, ◌<◌}
use native.Mathlib.Omega.{arith}
use lib.Dec.{eqb, ltb}
use lib.ListN.{length}
use Rattle.laws.proofs.Cases.{split, le_or_lt}
use Rattle.summary.specs.Entries.{Entry, without, without_all, raised, entered, without_count, count_or}
use Rattle.summary.specs.Steps.{Summary, spill, disturb, empty, estimate, drop_rows}
use Rattle.summary.specs.Rules.{Floor, floor_none, floor_more, Ceiling, bare, under}
use Rattle.summary.proofs.Rules.Floor.{floor_rises}
use Rattle.summary.proofs.Steps.Disturb.{by_cases}
use Rattle.summary.proofs.Rules.Ceiling.{ceiling_higher}

-- the sum of the counts' excess over a level
unfoldable pub excess : ℕ → List Entry → ℕ
excess t [] = 0
excess t (x ∷ xs) = (x.count - t) + excess t xs

pub record Level (size most : ℕ) (s : Summary) : Type 0 where
  pub level : ℕ
  pub above : s.spillover ≤ level
  pub small : size * level + excess level s.entries ≤ most

module _ (t : ℕ) where
  pub excess_without : (row : ℕ) (es : List Entry) → excess t (without row es) ≤ excess t es
  unfolding excess without
  excess_without row [] = omega arith
  excess_without row (x ∷ xs) = split (eqb x.row row) (λ e. rw e (omega arith)) (λ e. rw e (omega (arith, excess_without row xs)))

  excess_raised : (row : ℕ) (es : List Entry) → excess t (raised row es) ≤ excess t es + 1
  unfolding excess raised
  excess_raised row [] = omega arith
  excess_raised row (x ∷ xs) = split (eqb x.row row) (λ e. rw e (omega arith)) (λ e. rw e (omega (arith, excess_raised row xs)))

  excess_entered : (row count : ℕ) (es : List Entry) → excess t (entered row count es) ≡ (count - t) + excess t es
  unfolding excess entered
  excess_entered row count [] = refl
  excess_entered row count (x ∷ xs) =
      split (ltb row x.row) (λ e. rw e) (λ e. rw e (omega (arith, excess_entered row count xs)))

  excess_without_count : (count : ℕ) (es : List Entry) → excess t (without_count count es) ≤ excess t es
  unfolding excess without_count
  excess_without_count count [] = omega arith
  excess_without_count count (x ∷ xs) =
      split (eqb x.count count) (λ e. rw e (omega arith)) (λ e. rw e (omega (arith, excess_without_count count xs)))

  -- where every count is above the level, one level more takes 1 from each
  excess_above : {es : List Entry} → Floor (suc t) es → excess (suc t) es + length es ≡ excess t es
  unfolding excess
  excess_above floor_none = omega arith
  excess_above (floor_more x {xs} f l) = omega (arith, excess_above f)

pub level_more : {size most most' : ℕ} {s : Summary} → Level size most s → most ≤ most' → Level size most' s
level_more l h = record { level = l.level; above = l.above; small = omega arith }

module _ {size most : ℕ} where
  -- a disturbance raises the sum by at most 1
  pub level_disturb : (counters row : ℕ) (s : Summary) → size ≤ counters + 1 → Floor s.spillover s.entries → Level size most s → Level size (most + 1) (disturb counters row s)
  level_disturb counters row s few floor l =
      by_cases (λ made. Level size (most + 1) made) counters row s
      (λ tracked. record { level = t; above = l.above; small = omega (arith, excess_raised t row es) })
      (λ untracked free. record { level = t; above = l.above; small = rw excess_entered (omega arith) })
      (λ untracked full low.
      record {
        level = t;
        above = l.above;
        small = rw excess_entered (omega (arith, excess_without_count t spillover es));
      })
      (λ untracked full high. ⊎_elim (rises (floor_rises floor high) full) stays (le_or_lt t spillover))
    where
      t : ℕ
      t = l.level

      spillover : ℕ
      spillover = s.spillover

      es : List Entry
      es = s.entries

      stays : spillover < t → Level size (most + 1) (spill s)
      stays h = record { level = t; above = omega arith; small = omega arith }

      rises : Floor (suc spillover) es → counters ≤ length es → t ≤ spillover → Level size (most + 1) (spill s)
      rises above full h =
          let same : t ≡ spillover = omega arith in
          record { level = suc t; above = omega arith; small = omega (arith, excess_above t (rw (← same) at above)) }

excess_without_all : (t : ℕ) (rows : List ℕ) (es : List Entry) → excess t (without_all rows es) ≤ excess t es
unfolding without_all
excess_without_all t [] es = omega arith
excess_without_all t (row ∷ rows) es = omega (arith, excess_without t row es, excess_without_all t rows (without row es))

pub level_drop : {size most : ℕ} (rows : List ℕ) {s : Summary} → Level size most s → Level size most (drop_rows rows s)
unfolding drop_rows
level_drop rows {s} l =
    record { level = l.level; above = l.above; small = omega (arith, excess_without_all l.level rows s.entries) }

-- nothing tracked and no spillover is below any sum
pub level_empty : {size : ℕ} (most : ℕ) → Level size most empty
unfolding empty excess
level_empty most = record { level = 0; above = omega arith; small = omega arith }

ceiling_excess : (t : ℕ) (es : List Entry) → Ceiling (t + excess t es) es
unfolding excess
ceiling_excess t [] = bare
ceiling_excess t (x ∷ xs) = under x (ceiling_higher (ceiling_excess t xs) (omega arith)) (omega arith)

pub ceiling_level : {most : ℕ} {s : Summary} → Level 1 most s → Ceiling most s.entries
ceiling_level {s = s} l = ceiling_higher (ceiling_excess l.level s.entries) (omega (arith, l.small))

pub spillover_level : {most : ℕ} {s : Summary} → Level 1 most s → s.spillover ≤ most
spillover_level l = omega arith

count_level : (t row spill : ℕ) (es : List Entry) → spill ≤ t → count_or spill row es ≤ t + excess t es
unfolding count_or excess
count_level t row spill [] h = omega arith
count_level t row spill (x ∷ xs) h =
    split (eqb x.row row) (λ on. rw on (omega arith)) (λ off. rw off (omega (arith, count_level t row spill xs h)))

pub estimate_level : {most : ℕ} {s : Summary} → Level 1 most s → (row : ℕ) → estimate s row ≤ most
unfolding estimate
estimate_level {s} l row = omega (arith, count_level l.level row s.spillover s.entries l.above)
