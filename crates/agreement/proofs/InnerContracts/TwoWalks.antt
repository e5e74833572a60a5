-- Two walks side by side, past rows that have the same estimate in both summaries: every step of them, and where they tell a difference.
use mathlib.Core.Path.{◌≡◌, refl, ◌∙◌, sym}
use mathlib.Core.Bool.{true, false}
use mathlib.Core.List.{List}
use Prim.Native.Nat.{ℕ, ◌+◌, ◌≤◌, ◌<◌, min}
use native.Mathlib.Omega.{arith}
use lib.ListN.{length}
use Rattle.summary.specs.Tables.{read}
use Rattle.summary.specs.InnerContracts.{Holds}
use Rattle.agreement.specs.Calls.{same_estimates}
use Rattle.agreement.specs.InnerContracts.{next_row, estimate_at, place_after}
use Rattle.agreement.proofs.Calls.SameEstimates.{same_estimates_differ, same_estimates_alike}
use Rattle.agreement.proofs.InnerContracts.Walk.{Walked, walk_begins, next_row_in_bank, walk_skip_to, estimate_skipped, estimate_is, walk_past}

-- every row below this one has been passed by both walks, and has the same estimate
pub record TwoWalks (rows counts : List ℕ) (tracked spillover : ℕ) (rows' counts' : List ℕ) (tracked' spillover' high row i j : ℕ) : Type 0 where
  pub first : Walked high rows counts tracked spillover row i
  pub second : Walked high rows' counts' tracked' spillover' row j
  pub within : row ≤ high
  pub same : same_estimates row (read rows counts tracked spillover) (read rows' counts' tracked' spillover') ≡ true

-- the next row of the two
abbrev lower : List ℕ → ℕ → ℕ → List ℕ → ℕ → ℕ → ℕ → ℕ
lower rows tracked i rows' tracked' j high = min (next_row rows tracked high i) (next_row rows' tracked' high j)

module _ {rows counts : List ℕ} {tracked spillover : ℕ} {rows' counts' : List ℕ} {tracked' spillover' high : ℕ} where
  pub walks_begin : Holds (length rows) high (read rows counts tracked spillover) rows counts tracked spillover → Holds (length rows') high (read rows' counts' tracked' spillover') rows' counts' tracked' spillover' → TwoWalks rows counts tracked spillover rows' counts' tracked' spillover' high 0 0 0
  unfolding same_estimates
  walks_begin a b =
      record { first = walk_begins a; second = walk_begins b; within = omega arith; same = refl }

  -- the next row is not passed yet, and at most the bank's end
  pub lower_in_bank : {row i j : ℕ} (next : ℕ) → TwoWalks rows counts tracked spillover rows' counts' tracked' spillover' high row i j → next ≡ lower rows tracked i rows' tracked' j high → (row ≤ next) × (next ≤ high)
  lower_in_bank next w e =
      let a = next_row_in_bank w.first w.within in
      let b = next_row_in_bank w.second w.within in
      (omega arith, omega arith)

  -- a row in neither, where the spillovers differ
  pub gap_differs : {row i j : ℕ} (next : ℕ) → TwoWalks rows counts tracked spillover rows' counts' tracked' spillover' high row i j → next ≡ lower rows tracked i rows' tracked' j high → row < next → (spillover ≡ spillover' → ⊥) → same_estimates high (read rows counts tracked spillover) (read rows' counts' tracked' spillover') ≡ false
  gap_differs {row} next w e h ne =
      let a = estimate_skipped row w.first (omega arith) (omega arith) in
      let b = estimate_skipped row w.second (omega arith) (omega arith) in
      same_estimates_differ (read rows counts tracked spillover) (read rows' counts' tracked' spillover') high row (omega (arith, lower_in_bank next w e)) (λ q. ne (sym a ∙ q ∙ b))

  -- rows in neither are passed
  pub walks_past_gap : {row i j : ℕ} (next : ℕ) → TwoWalks rows counts tracked spillover rows' counts' tracked' spillover' high row i j → next ≡ lower rows tracked i rows' tracked' j high → (row < next → spillover ≡ spillover') → TwoWalks rows counts tracked spillover rows' counts' tracked' spillover' high next i j
  walks_past_gap {row} next w e level =
      let in_bank = lower_in_bank next w e in
      record {
        first = walk_skip_to next w.first in_bank.0 (omega arith);
        second = walk_skip_to next w.second in_bank.0 (omega arith);
        within = in_bank.1;
        same =
            same_estimates_alike (read rows counts tracked spillover) (read rows' counts' tracked' spillover') row next in_bank.0 w.same
            (λ r l u.
            estimate_skipped r w.first l (omega arith) ∙ level (omega arith) ∙ sym (estimate_skipped r w.second l (omega arith)));
      }

  -- the row that both walks have come to
  pub row_differs : {row i j : ℕ} → TwoWalks rows counts tracked spillover rows' counts' tracked' spillover' high row i j → row < high → (estimate_at rows counts tracked spillover row i ≡ estimate_at rows' counts' tracked' spillover' row j → ⊥) → same_estimates high (read rows counts tracked spillover) (read rows' counts' tracked' spillover') ≡ false
  row_differs {row} w h ne =
      same_estimates_differ (read rows counts tracked spillover) (read rows' counts' tracked' spillover') high row h
      (λ e. ne (sym (estimate_is w.first) ∙ e ∙ estimate_is w.second))

  pub walks_past_row : {row i j : ℕ} → TwoWalks rows counts tracked spillover rows' counts' tracked' spillover' high row i j → row < high → estimate_at rows counts tracked spillover row i ≡ estimate_at rows' counts' tracked' spillover' row j → TwoWalks rows counts tracked spillover rows' counts' tracked' spillover' high (row + 1) (place_after rows tracked row i) (place_after rows' tracked' row j)
  walks_past_row {row} w h e =
      record {
        first = walk_past w.first;
        second = walk_past w.second;
        within = omega arith;
        same =
            same_estimates_alike (read rows counts tracked spillover) (read rows' counts' tracked' spillover') row (row + 1) (omega arith) w.same
            (λ r l u.
            let this : r ≡ row = omega arith in
            rw this (estimate_is w.first ∙ e ∙ sym (estimate_is w.second)));
      }
