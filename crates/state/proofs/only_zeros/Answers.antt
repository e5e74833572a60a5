-- `state::only_zeros` meets its contract.
use mathlib.Core.Path.{◌≡◌, ◌∙◌, refl}
use mathlib.Core.List.{List, [], ◌∷◌}
use Prim.Native.Nat.{ℕ}
use lib.Dec.{eqb}
use borrow.Author.Tests.{tests}
use Rattle.std.proofs.Common.{rules}
use Rattle.std.specs.List.{list_all}
use Rattle.std.proofs.lemmas.Iterator.{YieldsList-from_slice}
use Rattle.std.proofs.lemmas.Iterator.Search.{all_from_yields_List}
use Rattle.state.specs.State.{zeros}
use Rattle.state.proofs.only_zeros.Goals as goal

all_zeros : (t : List ℕ) → list_all (λ x. eqb x 0) t ≡ zeros t
unfolding zeros
all_zeros [] = refl
all_zeros (x ∷ xs) = rw (all_zeros xs)

pub returns : goal.returns
returns c =
    all_from_yields_List (λ x. eqb x 0) _ _ _ c.all.ensures.ran (YieldsList-from_slice c.args.part.now cc) (λ x b q k. search (rules, tests))
    ∙ all_zeros c.args.part.now
