-- A table of figures holds where one test that is computed over the whole table passes.
use mathlib.Core.Path.{◌≡◌, refl, subst, sym}
use mathlib.Core.Bool.{Bool, true, false, ◌&&◌}
use mathlib.Core.Logic.{⊎_elim}
use mathlib.Core.List.Memᴰ
use mathlib.Core.List.{List, [], ◌∷◌}
use Prim.Native.Nat.{ℕ}
use lib.Dec.{T}
use Rattle.laws.specs.Same.{same}
use Rattle.laws.proofs.Every.{both_left, both_right}
use Rattle.laws.proofs.Same.{same_alike}
use Rattle.figures.specs.Table.{Figure}
use Rattle.figures.specs.Claims.{TableHolds}

same_equal : (xs ys : List ℕ) → T (same xs ys) → xs ≡ ys
same_equal xs ys t = same_alike xs ys (passed (same xs ys) t)
  where
    passed : (b : Bool) → T b → b ≡ true
    passed true t = refl
    passed false t = absurd t

-- the test of a whole table: each of its figures is what the definitions give
unfoldable pub every : List Figure → Bool
every [] = true
every (f ∷ fs) = same f.defined f.given && every fs

-- the shared theorem
pub holds_every : (fs : List Figure) → T (every fs) → TableHolds fs
unfolding every TableHolds
holds_every [] t f m = absurd (Memᴰ.not-nil m)
holds_every (g ∷ gs) t f m =
    ⊎_elim
    (λ e. subst (λ (h : Figure). h.defined ≡ h.given) (sym e) (same_equal g.defined g.given (both_left (same g.defined g.given) (every gs) t)))
    (λ later. holds_every gs (both_right (same g.defined g.given) (every gs) t) f later)
    (Memᴰ.cases_cons m)
