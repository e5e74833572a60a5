-- `search::least_below` meets its contract, by the laws of the walk.
use mathlib.Core.Path.{◌∙◌}
use Prim.Native.Nat.{◌*◌, ◌^◌, ◌≤◌, ◌<◌}
use native.Mathlib.Nat.{mul-le-mul}
use native.Mathlib.Omega.{arith}
use Rattle.device.specs.Refusal.{outcome}
use Rattle.bound.proofs.Shares.{share_begins, shared_room, share_small, share_enough, share_next}
use Rattle.bound.proofs.Walk.{all_below, walk_begins, walked_small, room_positive, walk_goes_on, walk_gives_up, walk_ends, walk_finds}
use Rattle.bound.proofs.search.least_below.Goals as goal

-- where the walk stands, with its share
pub overflow_mul-sum : goal.overflow_mul-sum
overflow_mul-sum c =
    let n : c.args.steps ≤ 16383 = omega arith in
    let a : c.args.added ≤ 16704 = omega arith in
    omega (arith, mul-le-mul n a)

pub returns-then-sum-end : goal.returns-then-sum-end
unfolding outcome
returns-then-sum-end c =
    let a = c.args in
    all_below a.volume a.added a.steps a.end (omega arith) (omega arith) c.if-sum-end.true

pub overflow_mul-less : goal.overflow_mul-less
overflow_mul-less c =
    let a : c.args.added ≤ 16704 = omega arith in
    let v : c.args.volume ≤ 16 = omega arith in
    omega (arith, mul-le-mul a v)

pub overflow_mul-share : goal.overflow_mul-share
overflow_mul-share c =
    let n : c.args.steps ≤ 16383 = omega arith in
    let a : c.args.added ≤ 16704 = omega arith in
    let few : c.args.end ≤ 16383 * 16704 = omega (arith, mul-le-mul n a) in
    let v : c.args.volume ≤ 16 = omega arith in
    omega (arith, mul-le-mul few v)

pub loop-at-init : goal.loop-at-init
loop-at-init c =
    let a = c.args in
    record {
      walked = walk_begins a.volume a.added a.steps a.end c.if-sum-end.false;
      shared = share_begins a.volume a.end;
    }

pub overflow_add-before : goal.overflow_add-before
overflow_add-before c =
    let a = c.args in
    let x = c.loop-at.invariant in
    let small = walked_small a.volume a.added a.steps a.end x.walked (omega arith) (omega arith) in
    let few : c.loop-at.room < 2 ^ 29 = omega (arith, x.walked.less) in
    omega (arith, share_small x.shared few (omega arith) (omega arith))

pub count_for-requires : goal.count_for-requires
count_for-requires c =
    let a = c.args in
    let x = c.loop-at.invariant in (
      room_positive a.volume a.added a.steps a.end x.walked (rw (shared_room x.shared) (omega arith)),
      walked_small a.volume a.added a.steps a.end x.walked (omega arith) (omega arith),
      omega arith,
    )

pub returns-then-sum-before : goal.returns-then-sum-before
returns-then-sum-before c =
    let a = c.args in
    let x = c.loop-at.invariant in
    c.count_for.ensures
    ∙ walk_finds a.volume a.added a.steps a.end x.walked (omega arith) (rw (shared_room x.shared) (omega arith))

pub returns-then-before-added : goal.returns-then-before-added
unfolding outcome
returns-then-before-added c =
    let a = c.args in
    let x = c.loop-at.invariant in
    let told = shared_room x.shared in
    walk_gives_up a.volume a.added a.steps a.end x.walked (omega arith) (rw told (omega arith)) (rw told (omega arith))

pub share_less-share-requires : goal.share_less-share-requires
share_less-share-requires c =
    let x = c.loop-at.invariant.shared in
    (omega arith, omega arith, omega (arith, x.small), share_enough x (omega arith))

pub loop-at-preserved : goal.loop-at-preserved
loop-at-preserved c =
    let a = c.args in
    let x = c.loop-at.invariant in
    let told = shared_room x.shared in
    let on = walk_goes_on a.volume a.added a.steps a.end x.walked (rw told (omega arith)) (rw told (omega arith)) in
    record {
      walked = rw told at on;
      shared = share_next x.shared (omega arith) c.share_less-share.result.quotient c.share_less-share.result.over c.share_less-share.ensures.0 c.share_less-share.ensures.1;
    }

pub returns : goal.returns
unfolding outcome
returns c =
    let a = c.args in
    walk_ends a.volume a.added a.steps a.end c.loop-at.invariant.walked (omega arith) (omega arith)
