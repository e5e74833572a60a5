-- The least counter count: what the search finds passes, nothing before it does, and refusal 12 means that none does.
use mathlib.Core.Path.{◌≡◌, refl}
use mathlib.Core.Bool.{Bool, true, false}
use mathlib.Core.Logic.{⊎_elim}
use Prim.Native.Nat.{ℕ, zero, suc, ◌+◌, ◌-◌, ◌≤◌, ◌<◌}
use native.Mathlib.Nat.{eq-or-lt_of_le}
use native.Mathlib.Omega.{arith}
use Rattle.laws.proofs.Cases.{split, zero_one}
use Rattle.device.specs.Refusal.{accepted, refused}
use Rattle.bound.specs.Least.{or_else, first_from}

-- a number of a range that passes, none before it in the range does
pub record First (passes : ℕ → Bool) (low high c : ℕ) : Type 0 where
  pub least : low ≤ c
  pub most : c < high
  pub met : passes c ≡ true
  pub before : (d : ℕ) → low ≤ d → d < c → passes d ≡ false

module _ (passes : ℕ → Bool) where
  -- the search ends where a number passes
  pub first_from_here : (k c : ℕ) → 0 < k → passes c ≡ true → first_from passes k c ≡ accepted c
  unfolding first_from or_else
  first_from_here zero c h e = absurd (omega arith)
  first_from_here (suc k) c h e = rw e

  pub first_from_found : (k low c : ℕ) → first_from passes k low ≡ accepted c → First passes low (low + k) c
  unfolding first_from or_else
  first_from_found zero low c e = zero_one (cc)
  first_from_found (suc k) low c e =
      split (passes low)
      (λ yes'.
      let here : low ≡ c = let e' = rw yes' at e in cc in
      record { least = omega arith; most = omega arith; met = rw (← here) yes'; before = λ d l h. absurd (omega arith) })
      (λ no'.
      let f = first_from_found k (suc low) c (rw no' at e) in
      record {
        least = omega arith;
        most = omega arith;
        met = f.met;
        before = λ d l h. ⊎_elim (λ same. rw (← same) no') (λ later. f.before d later h) (eq-or-lt_of_le l);
      })

  pub first_from_none : (k low : ℕ) → first_from passes k low ≡ refused 12 → (d : ℕ) → low ≤ d → d < low + k → passes d ≡ false
  unfolding first_from or_else
  first_from_none zero low e d l h = absurd (omega arith)
  first_from_none (suc k) low e d l h =
      split (passes low)
      (λ yes'. let e' = rw yes' at e in zero_one (cc))
      (λ no'.
      ⊎_elim (λ same. rw (← same) no') (λ later. first_from_none k (suc low) (rw no' at e) d later (omega arith)) (eq-or-lt_of_le l))

  pub none_first_from : (k low : ℕ) → ((d : ℕ) → low ≤ d → d < low + k → passes d ≡ false) → first_from passes k low ≡ refused 12
  unfolding first_from or_else
  none_first_from zero low none = refl
  none_first_from (suc k) low none =
      rw (none low (omega arith) (omega arith)) (none_first_from k (suc low) (λ d l h. none d (omega arith) (omega arith)))

  -- of tests that once passed stay passed: the first passed one is the one behind a failed one
  module _ (falls : (c d : ℕ) → c ≤ d → passes d ≡ false → passes c ≡ false) where
    pub first_from_at : (k low c : ℕ) → low ≤ c → c < low + k → passes c ≡ true → (low < c → passes (c - 1) ≡ false) → first_from passes k low ≡ accepted c
    unfolding first_from or_else
    first_from_at zero low c l h met before = absurd (omega arith)
    first_from_at (suc k) low c l h met before =
        ⊎_elim
        (λ same. rw same (first_from_here (suc k) c (omega arith) met))
        (λ later.
        let no' : passes low ≡ false = falls low (c - 1) (omega arith) (before later) in
        rw no' (first_from_at k (suc low) c later (omega arith) met (λ more. before later)))
        (eq-or-lt_of_le l)

    pub first_from_past : (k low high : ℕ) → low + k ≤ suc high → passes high ≡ false → first_from passes k low ≡ refused 12
    first_from_past k low high few no' = none_first_from k low (λ d l h. falls d high (omega arith) no')

-- equal tests give equal answers
pub first_from_same : {p q : ℕ → Bool} → ((c : ℕ) → p c ≡ q c) → (k c : ℕ) → first_from p k c ≡ first_from q k c
unfolding first_from
first_from_same same zero c = refl
first_from_same same (suc k) c = rw (same c, first_from_same same k (suc c))
