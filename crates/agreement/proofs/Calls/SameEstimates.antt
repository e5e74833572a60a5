-- `same_estimates`: what equal rows and a row that differs say of it.
use mathlib.Core.Path.{◌≡◌, refl}
use mathlib.Core.Bool.{true, false}
use mathlib.Core.Logic.{⊎_elim}
use Prim.Native.Nat.{ℕ, zero, suc, ◌≤◌, ◌<◌}
use native.Mathlib.Omega.{arith}
use borrow.Author.Tests.{eqb-true, eq-eqb}
use lib.Dec.{eqb}
use Rattle.laws.proofs.Cases.{split, le_or_lt}
use Rattle.summary.specs.Steps.{Summary, estimate}
use Rattle.agreement.specs.Calls.{same_estimates}

module _ (a b : Summary) where
  -- a row that differs
  pub same_estimates_differ : (high row : ℕ) → row < high → (estimate a row ≡ estimate b row → ⊥) → same_estimates high a b ≡ false
  unfolding same_estimates
  same_estimates_differ zero row h ne = absurd (omega arith)
  same_estimates_differ (suc high) row h ne =
      split (eqb (estimate a high) (estimate b high))
      (λ on.
      let same = eqb-true (estimate a high) (estimate b high) on in
      ⊎_elim
      (λ last. absurd (let e : row ≡ high = omega arith in ne (rw e same)))
      (λ earlier. rw on (same_estimates_differ high row earlier ne))
      (le_or_lt high row))
      (λ off. rw off)

  -- rows that are the same, from one on below which all are
  pub same_estimates_alike : (low high : ℕ) → low ≤ high → same_estimates low a b ≡ true → ((row : ℕ) → low ≤ row → row < high → estimate a row ≡ estimate b row) → same_estimates high a b ≡ true
  unfolding same_estimates
  same_estimates_alike low zero h before each = refl
  same_estimates_alike low (suc high) h before each =
      ⊎_elim
      (λ more. rw (eq-eqb (estimate a high) (estimate b high) (each high more (omega arith))) (same_estimates_alike low high more before (λ row l u. each row l (omega arith))))
      (λ none. let e : low ≡ suc high = omega arith in rw e at before)
      (le_or_lt low high)
