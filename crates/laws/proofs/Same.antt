-- `same`: lists are the same exactly when it says so.
use mathlib.Core.Path.{◌≡◌, refl, sym}
use mathlib.Core.Bool.{true}
use mathlib.Core.List.{List, [], ◌∷◌}
use Prim.Native.Nat.{ℕ}
use borrow.Author.Tests.{eqb-true, eq-eqb}
use lib.Dec.{eqb}
use Rattle.laws.specs.Same.{same}
use Rattle.laws.proofs.Cases.{and_both, clash}

pub same_alike : (l m : List ℕ) → same l m ≡ true → l ≡ m
unfolding same
same_alike [] [] e = refl
same_alike [] (y ∷ ys) e = clash (sym e)
same_alike (x ∷ xs) [] e = clash (sym e)
same_alike (x ∷ xs) (y ∷ ys) e =
    let parts = and_both (eqb x y) (same xs ys) e in
    cc (eqb-true x y parts.0, same_alike xs ys parts.1)

pub alike_same : (l : List ℕ) → same l l ≡ true
unfolding same
alike_same [] = refl
alike_same (x ∷ xs) = rw (eq-eqb x x refl, alike_same xs)
