-- `tables::lower_bound` meets its contract: the ascending numbers are parted at the place that is looked for.
use Rattle.std.proofs.Common.{rules, take}
use native.Mathlib.Omega.{arith}
use borrow.Author.Tests.{ltb-true, ltb-false}
use lib.Dec.{ltb}
use Rattle.std.proofs.lemmas.List.Sorted.{IsPartitionPoint-from_clause}
use Rattle.tables.proofs.Searches.{parted_below, lower_place_is}
use Rattle.tables.proofs.lower_bound.Goals as goal

pub returns : goal.returns
returns c =
    let x = c.args.x in
    let xs = take c.args.used c.args.t.now in
    let point = IsPartitionPoint-from_clause (λ y. ltb y x) xs c.partition_point.result c.partition_point.ensures.partitioned (parted_below x xs c.requires.1) (λ a r q k. search rules) in
    let place = lower_place_is x xs c.partition_point.result (omega (arith, c.partition_point.ensures.bound))
    (λ k h. ltb-true _ _ (point.0 k 0 (omega arith) h))
    (λ h. ltb-false _ _ (point.1 c.partition_point.result 0 (omega arith) h))
    in
    omega (arith, place)
