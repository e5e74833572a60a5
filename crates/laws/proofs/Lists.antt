-- Lists of numbers: what lies from a stored element on.
use mathlib.Core.Path.{◌≡◌, ◌∙◌}
use mathlib.Core.List.{List, ◌∷◌}
use Prim.Native.Nat.{ℕ, suc, ◌<◌}
use native.Mathlib.Omega.{arith}
use lib.ListN.{length, drop, set, length-set}
use lib.Seq.{drop-cons, get_or-set_same, drop-set-lt}

pub drop_set : (l : List ℕ) (j x : ℕ) → j < length l → drop j (set l j x) ≡ x ∷ drop (suc j) l
drop_set l j x h =
    drop-cons (set l j x) j 0 (rw length-set h) ∙ rw (get_or-set_same l j x 0 h, drop-set-lt (suc j) l j x (omega arith))
