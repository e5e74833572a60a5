-- The place of the highest count is the picked entry's.
use mathlib.Core.Path.{◌≡◌, ap, sym}
use mathlib.Core.List.{List, [], ◌∷◌}
use Prim.Native.Nat.{ℕ, ◌<◌}
use native.Mathlib.Omega.{arith}
use lib.ListN.{length, get_or, take}
use Rattle.tables.specs.InnerContracts.{equal_place, highest_place}
use Rattle.summary.specs.Entries.{Entry, rows_of, counts_of, picks}
use Rattle.summary.specs.Steps.{Summary}
use Rattle.summary.specs.InnerContracts.{Holds}
use Rattle.summary.proofs.InnerContracts.Holds.{used_rows, used_counts, row_at_place}
use Rattle.summary.proofs.Entries.Columns.{equal_place_at, highest_place_top}

-- the picked entry's place
top_cases : (es : List Entry) → 0 < length es → (highest_place (counts_of es) < length es) × (get_or (rows_of es) (highest_place (counts_of es)) 0 ∷ [] ≡ picks 1 es)
unfolding picks
top_cases [] h = absurd (omega arith)
top_cases (x ∷ xs) h = let t = highest_place_top x xs in (t.0, ap (λ (row : ℕ). row ∷ []) t.1)

module _ {places high : ℕ} {sum : Summary} {rows counts : List ℕ} {k spill : ℕ} (h : Holds places high sum rows counts k spill) (some_row : 0 < k) (at : ℕ) (e : at ≡ highest_place (take k counts)) where
  top_is : (at < length sum.entries) × (get_or (rows_of sum.entries) at 0 ∷ [] ≡ picks 1 sum.entries)
  top_is = rw (e, used_counts h) (top_cases sum.entries (omega (arith, h.tracked_is)))

  pub top_inside : at < k
  top_inside = omega (arith, top_is.0, h.tracked_is)

  pub top_named : get_or rows at 0 ∷ [] ≡ picks 1 sum.entries
  top_named = rw (row_at_place h at top_inside) top_is.1

  pub top_place : at ≡ equal_place (get_or rows at 0) (take k rows)
  top_place = rw (row_at_place h at top_inside, used_rows h) (sym (equal_place_at h.sound.ordered at top_is.0))
