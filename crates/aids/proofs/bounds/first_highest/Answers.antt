-- `aids::bounds::first_highest` meets its contract.
use Rattle.std.proofs.Common.{rules, tests, ◌≡◌, ℕ, ◌-◌, ◌<◌, length, take, drop, List, Option, Some, None}
use Rattle.std.specs.List.{AllWithin, HoldsAt}
use Rattle.std.specs.Option.{MatchOption, IsSome}
use Rattle.std.proofs.lemmas.Iterator.{IsFirst-from_position, YieldsList-from_slice}
use Rattle.std.proofs.lemmas.Option.{MatchOption-at_some}
use Rattle.aids.proofs.BoundsTop.{some_highest, first_top}
use Rattle.aids.proofs.bounds.first_highest.Goals as goal

is_some : (P : Type 0) (Q : ℕ → Type 0) (r : Option ℕ) → MatchOption r P Q → (P → ⊥) → IsSome r
is_some P Q None m none = absurd (none m)
is_some P Q (Some i) m none = search rules

pub unwrap-requires : goal.unwrap-requires
unwrap-requires c =
    let best = c.highest-best.result in
    let xs = take (c.args.to - c.args.from) (drop c.args.from c.args.t.now) in
    let first = IsFirst-from_position _ _ c.position.result (λ y. y ≡ best) (λ y. y ≡ best → ⊥) c.position.ensures.ran (YieldsList-from_slice xs c.iter.ensures.rest) (λ y q k. search (rules, tests)) (λ y q k. search (rules, tests)) in
    is_some _ _ c.position.result first (some_highest c.requires.1 c.highest-best.ensures)

pub returns : goal.returns
returns c =
    let best = c.highest-best.result in
    let xs = take (c.args.to - c.args.from) (drop c.args.from c.args.t.now) in
    let first = IsFirst-from_position _ _ c.position.result (λ y. y ≡ best) (λ y. y ≡ best → ⊥) c.position.ensures.ran (YieldsList-from_slice xs c.iter.ensures.rest) (λ y q k. search (rules, tests)) (λ y q k. search (rules, tests)) in
    let at = MatchOption-at_some _ _ c.unwrap.result c.unwrap.ensures first in
    first_top c.requires.1 c.highest-best.ensures c.unwrap.result at.0 at.1 at.2
