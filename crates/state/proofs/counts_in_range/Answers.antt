-- `state::counts_in_range` meets its contract.
use mathlib.Core.Path.{◌≡◌, ◌∙◌, refl}
use mathlib.Core.Bool.{◌&&◌}
use mathlib.Core.List.{List, [], ◌∷◌}
use Prim.Native.Nat.{ℕ}
use lib.Dec.{leb}
use borrow.Author.Tests.{tests}
use Rattle.std.proofs.Common.{rules}
use Rattle.std.specs.List.{list_all}
use Rattle.std.proofs.lemmas.Iterator.{YieldsList-from_slice}
use Rattle.std.proofs.lemmas.Iterator.Search.{all_from_yields_List}
use Rattle.state.specs.State.{counts_allowed, most_count}
use Rattle.state.proofs.counts_in_range.Goals as goal

all_allowed : (spillover : ℕ) (counts : List ℕ) →
    list_all (λ count. leb 1 count && leb spillover count && leb count most_count) counts ≡ counts_allowed spillover counts
unfolding counts_allowed
all_allowed spillover [] = refl
all_allowed spillover (x ∷ xs) = rw (all_allowed spillover xs)

pub returns : goal.returns
returns c =
    all_from_yields_List (λ count. leb 1 count && leb c.args.spillover count && leb count most_count) _ _ _ c.all.ensures.ran
    (YieldsList-from_slice c.args.counts.now cc) (λ x b q k. search (rules, tests))
    ∙ all_allowed c.args.spillover c.args.counts.now
