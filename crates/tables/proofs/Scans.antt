-- What a scan of a table's used part has left to do at a place: this number and those behind it, or nothing.
use mathlib.Core.Path.{◌≡◌}
use mathlib.Core.List.{List, [], ◌∷◌}
use Prim.Native.Nat.{ℕ, suc, ◌+◌, ◌≤◌, ◌<◌}
use native.Mathlib.Numerals.{add-one}
use native.Mathlib.Omega.{arith}
use lib.ListN.{length, get_or, take, drop, drop_of_length-le}
use lib.Seq.{drop-cons, get_or-take, length-take-le}

module _ (t : List ℕ) (used i : ℕ) (fits : used ≤ length t) where
  left_here : i < used → drop i (take used t) ≡ get_or t i 0 ∷ drop (i + 1) (take used t)
  left_here h =
      let long = length-take-le used t fits in
      rw (add-one i, drop-cons (take used t) i 0 (omega arith), get_or-take used t i 0 h)

  pub left_none : used ≤ i → drop i (take used t) ≡ []
  left_none h = drop_of_length-le (take used t) {i = i} (omega (arith, length-take-le used t fits))

-- the same, with the next place as a successor
pub used_step : (list : List ℕ) (used i : ℕ) → used ≤ length list → i < used → drop i (take used list) ≡ get_or list i 0 ∷ drop (suc i) (take used list)
used_step list used i fits h = rw (add-one i) at (left_here list used i fits h)
