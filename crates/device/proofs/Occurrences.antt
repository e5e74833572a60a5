-- How often a row stands in a list of rows.
use mathlib.Core.Path.{◌≡◌}
use mathlib.Core.Bool.{cond}
use mathlib.Core.List.{List, [], ◌∷◌, ◌++◌}
use Prim.Native.Nat.{ℕ, zero, suc, ◌+◌, ◌-◌, ◌≤◌, ◌<◌}
use native.Mathlib.Omega.{arith}
use borrow.Author.Tests.{eqb-true, eqb-false, ne_eqb}
use lib.Dec.{eqb}
use Rattle.laws.proofs.Cases.{split}
use Rattle.device.specs.Victims.{rows_from, rows_between, victims}
use Rattle.device.proofs.Victims.{Ascends, ascends_none, ascends_more, victims_ascend}

-- 1 where two rows are the same, else 0
unfoldable pub hit : ℕ → ℕ → ℕ
hit v row = cond (eqb v row) 1 0

unfoldable pub times : ℕ → List ℕ → ℕ
times row [] = 0
times row (v ∷ vs) = hit v row + times row vs

pub hit_le : (v row : ℕ) → hit v row ≤ 1
unfolding hit
hit_le v row = split (eqb v row) (λ e. rw e (omega arith)) (λ e. rw e (omega arith))

pub hit_other : (v row : ℕ) → (v ≡ row → ⊥) → hit v row ≡ 0
unfolding hit
hit_other v row h = rw (ne_eqb v row h)

pub times_append : (row : ℕ) (xs ys : List ℕ) → times row (xs ++ ys) ≡ times row xs + times row ys
unfolding times
times_append row [] ys = omega arith
times_append row (x ∷ xs) ys = omega (arith, times_append row xs ys)

-- a row below the range is not in it, and none is in it twice
pub times_below : (row : ℕ) {low high : ℕ} {vs : List ℕ} → Ascends low high vs → row < low → times row vs ≡ 0
unfolding times
times_below row ascends_none h = omega arith
times_below row (ascends_more {row = v} later from below) h =
    omega (arith, hit_other v row (λ e. omega arith), times_below row later (omega arith))

times_once : (row : ℕ) {low high : ℕ} {vs : List ℕ} → Ascends low high vs → times row vs ≤ 1
unfolding times hit
times_once row ascends_none = omega arith
times_once row (ascends_more {row = v} later from below) =
    split (eqb v row)
    (λ e. let same = eqb-true v row e in rw e (omega (arith, times_below row later (omega arith))))
    (λ e. rw e (omega (arith, times_once row later)))

-- a row disturbs another at most once
pub victims_once : (rows diameter row v : ℕ) → row < rows → times v (victims rows diameter row) ≤ 1
victims_once rows diameter row v h = times_once v (victims_ascend rows diameter row h)

-- a row of a run of rows stands in it
times_from : (v k low : ℕ) → low ≤ v → v < low + k → 1 ≤ times v (rows_from k low)
unfolding rows_from times hit
times_from v zero low l h = absurd (omega arith)
times_from v (suc k) low l h =
    split (eqb low v)
    (λ on. rw on (omega arith))
    (λ off.
    let other = eqb-false low v off in
    rw off (omega (arith, times_from v k (suc low) (omega arith) (omega arith))))

pub times_between : (v low high : ℕ) → low ≤ v → v < high → 1 ≤ times v (rows_between low high)
unfolding rows_between
times_between v low high l h = times_from v (high - low) low l (omega arith)
