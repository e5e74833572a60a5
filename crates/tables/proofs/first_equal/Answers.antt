-- `tables::first_equal` meets its contract: the places before the first that holds x hold other numbers.
use Rattle.std.proofs.Common.{rules, tests, ◌≡◌, take, refl}
use native.Mathlib.Omega.{arith}
use lib.Seq.{length-take-le}
use Rattle.std.proofs.lemmas.Iterator.{IsFirst-from_position, YieldsList-from_slice, index_from_first}
use Rattle.tables.specs.InnerContracts.{equal_place}
use Rattle.tables.proofs.Searches.{equal_place_hit, equal_place_miss}
use Rattle.tables.proofs.first_equal.Goals as goal

pub returns : goal.returns
unfolding equal_place
returns c =
    let x = c.args.x in
    let xs = take c.args.used c.args.t.now in
    let first = IsFirst-from_position _ _ c.position.result (λ y. y ≡ x) (λ y. y ≡ x → ⊥) c.position.ensures.ran (YieldsList-from_slice xs c.iter.ensures.rest) (λ y q k. search (rules, tests)) (λ y q k. search (rules, tests)) in
    let place = index_from_first (equal_place x) (λ y. y ≡ x) (λ y. y ≡ x → ⊥) refl (equal_place_hit x) (equal_place_miss x) xs c.position.result first in
    omega (arith, c.unwrap_or.ensures, rw (length-take-le c.args.used c.args.t.now c.requires) at place)
