-- The walk of the least count's search: where it stands after m steps, how it goes on, and what each of its ends answers.
use mathlib.Core.Path.{◌≡◌, refl, ◌∙◌, sym}
use mathlib.Core.Bool.{true, false}
use mathlib.Core.Logic.{⊎_elim}
use Prim.Native.Nat.{ℕ, zero, suc, ◌+◌, ◌-◌, ◌*◌, ◌/◌, ◌^◌, ◌≤◌, ◌<◌, max}
use native.Mathlib.Nat.{le_refl, le_trans, mul_comm, mul-le-mul, mul-le-mul_left, mul-div-le, lt-mul-div-succ, div-lt_iff_lt-mul, le-div_iff_mul-le}
use native.Mathlib.Omega.{arith}
use lib.Dec.{ltb, leb}
use borrow.Author.Tests.{ltb-false, lt-ltb, le-ltb, leb-true, leb-false}
use Rattle.laws.proofs.Cases.{split, le_or_lt}
use Rattle.laws.proofs.Division.{below_rounded_up, below_product}
use Rattle.device.specs.Refusal.{accepted, refused}
use Rattle.bound.specs.Totals.{size}
use Rattle.bound.specs.Least.{or_else, first_from}
use Rattle.bound.specs.InnerContracts.{ends_below}
use Rattle.bound.proofs.Totals.Size.{size_grows}
use Rattle.bound.proofs.Totals.Total.{total_le, total_counters}
use Rattle.bound.proofs.Rooms.{room_before, room, class_test, no_room}
use Rattle.bound.proofs.Least.{first_from_here, first_from_at, first_from_past}

factor_positive : (y z : ℕ) {x : ℕ} → x < y * z → 0 < y
factor_positive zero z h = absurd (omega arith)
factor_positive (suc y) z h = omega arith

-- V, what a step adds, how many steps there are, and the number that the total has to end below
module _ (v a n w : ℕ) where
  -- with more counters no total is higher
  falls : (c d : ℕ) → c ≤ d → ends_below v a n w d ≡ false → ends_below v a n w c ≡ false
  unfolding ends_below
  falls c d h off = le-ltb _ w (le_trans (ltb-false _ w off) (total_counters v a h n (le_refl 0)))

  -- if all the steps together add less than the number, the first count will do
  pub all_below : 0 < v → v ≤ 2048 → n * a < w → accepted v ≡ first_from (ends_below v a n w) (2049 - v) v
  unfolding ends_below
  all_below positive few h =
      sym (first_from_here (ends_below v a n w) (2049 - v) v (omega arith) (lt-ltb _ w (omega (arith, total_le (size v v) a (size_grows v v) n 0))))

  -- the walk after m steps, k before them: no count up to m × V will do, and the room is at most what the k steps add
  pub record Walked (sum rest at : ℕ) : Type 0 where
    pub m : ℕ
    k : ℕ
    whole : m + k ≡ n
    sum_is : sum ≡ k * a
    rest_is : rest ≡ room v a m w
    pub at_is : at ≡ m * v + 1
    pub less : rest ≤ sum
    failed : 0 < m → ends_below v a n w (m * v) ≡ false

  pub walk_begins : w ≤ n * a → Walked (n * a) w 1
  unfolding room
  walk_begins h =
      record { m = 0; k = n; whole = omega arith; sum_is = refl; rest_is = refl; at_is = omega arith; less = h; failed = λ none. absurd (omega arith) }

  pub walked_small : {sum rest at : ℕ} → Walked sum rest at → a ≤ 16704 → n ≤ 16383 → sum < 2 ^ 29
  walked_small x ha hn = let few : x.k ≤ 16383 = omega (arith, x.whole) in omega (arith, x.sum_is, mul-le-mul few ha)

  -- which counts of the class at hand, from m × V to (m + 1) × V, will do
  here : {sum rest at : ℕ} → (x : Walked sum rest at) (c : ℕ) → x.m * v ≤ c → c ≤ suc x.m * v →
      ends_below v a n w c ≡ ltb (sum * at) (rest * (c + 1))
  unfolding ends_below
  here x c low high = rw (x.sum_is, x.rest_is, x.at_is) (rw x.whole at (class_test v a c x.m x.k w low high))

  -- where the sum is below the room before the next step, and where it is not, in products
  products : {sum rest at : ℕ} → Walked sum rest at → sum < room_before v rest at → sum * at < rest * (at + v)
  unfolding room_before
  products x h = below_product (omega (arith, x.at_is)) h

  pub room_positive : {sum rest at : ℕ} → Walked sum rest at → sum < room_before v rest at → 0 < rest
  room_positive {sum} {rest} {at} x h = factor_positive rest (at + v) (products x h)

  rounded : {sum rest at : ℕ} → Walked sum rest at → room_before v rest at ≤ sum → rest * (at + v) ≤ sum * at
  unfolding room_before
  rounded {sum} {rest} {at} x h =
      ⊎_elim (λ le. le) (λ lt. absurd (omega (arith, below_rounded_up (omega (arith, x.at_is)) lt))) (le_or_lt (rest * (at + v)) (sum * at))

  -- the last count of the class will not do
  class_fails : {sum rest at : ℕ} → (x : Walked sum rest at) → room_before v rest at ≤ sum → ends_below v a n w (suc x.m * v) ≡ false
  class_fails {sum} {rest} {at} x h =
      let next : suc x.m * v + 1 ≡ at + v = omega (arith, x.at_is) in
      here x (suc x.m * v) (omega arith) (omega arith) ∙ rw next (le-ltb (sum * at) (rest * (at + v)) (rounded x h))

  -- the room before one step more
  next_room : {sum rest at : ℕ} → (x : Walked sum rest at) → room_before v rest at - a ≡ room v a (suc x.m) w
  unfolding room
  next_room x = rw (x.rest_is, x.at_is) refl

  steps_before : {sum rest at : ℕ} → (x : Walked sum rest at) → 0 < sum → 0 < x.k
  steps_before x h = ⊎_elim (λ none. let k : x.k ≡ 0 = omega arith in absurd (omega (arith, rw k at x.sum_is))) (λ some. some) (le_or_lt x.k 0)

  pub walk_goes_on : {sum rest at : ℕ} → Walked sum rest at → room_before v rest at ≤ sum → a < room_before v rest at →
      Walked (sum - a) (room_before v rest at - a) (at + v)
  walk_goes_on {sum} {rest} {at} x h more =
      let some = steps_before x (omega arith) in
      let k : x.k ≡ suc (x.k - 1) = omega arith in
      let before : sum ≡ suc (x.k - 1) * a = rw (← k) x.sum_is in
      record {
        m = suc x.m;
        k = x.k - 1;
        whole = omega (arith, x.whole);
        sum_is = omega arith;
        rest_is = next_room x;
        at_is = omega (arith, x.at_is);
        less = omega arith;
        failed = λ later. class_fails x h;
      }

  -- a count from 2,048 on that will not do: 12
  past : (c : ℕ) → v ≤ 2048 → 2048 ≤ c → ends_below v a n w c ≡ false → refused 12 ≡ first_from (ends_below v a n w) (2049 - v) v
  past c few many off = sym (first_from_past (ends_below v a n w) falls (2049 - v) v c (omega arith) off)

  -- no room before m steps
  without_room : (m k : ℕ) → m + k ≡ n → v ≤ 2048 → room v a m w ≡ 0 → refused 12 ≡ first_from (ends_below v a n w) (2049 - v) v
  unfolding ends_below
  without_room m k whole few none =
      let c : ℕ = m * v + 2048 in
      past c few (omega arith) (rw whole at (no_room v a c m k w (omega arith) none))

  -- the room is used up: 12
  pub walk_gives_up : {sum rest at : ℕ} → Walked sum rest at → v ≤ 2048 → room_before v rest at ≤ sum → room_before v rest at ≤ a →
      refused 12 ≡ first_from (ends_below v a n w) (2049 - v) v
  walk_gives_up {sum} {rest} {at} x few h none =
      ⊎_elim
      (λ empty. let gone : rest ≡ 0 = omega (arith, x.less) in without_room x.m x.k x.whole few (sym x.rest_is ∙ gone))
      (λ some.
      let k = steps_before x some in
      let gone : room_before v rest at - a ≡ 0 = omega arith in
      without_room (suc x.m) (x.k - 1) (omega (arith, x.whole)) few (sym (next_room x) ∙ gone))
      (le_or_lt sum 0)

  -- the counts are used up: 12
  pub walk_ends : {sum rest at : ℕ} → Walked sum rest at → v ≤ 2048 → 2048 < at → refused 12 ≡ first_from (ends_below v a n w) (2049 - v) v
  walk_ends x few h =
      let some : 0 < x.m = ⊎_elim (λ le. let m : x.m ≡ 0 = omega arith in absurd (omega (arith, rw m at x.at_is))) (λ lt. lt) (le_or_lt x.m 0) in
      past (x.m * v) few (omega (arith, x.at_is)) (x.failed some)

  -- the first count of the class that will do, and what is known of it
  record Count (m sum rest at c : ℕ) : Type 0 where
    least : m * v < c
    most : c ≤ suc m * v
    met : sum * at < rest * (c + 1)
    unmet : rest * c ≤ sum * at

  count_of : {sum rest at : ℕ} → (x : Walked sum rest at) → sum < room_before v rest at → Count x.m sum rest at (sum * at / rest)
  count_of {sum} {rest} {at} x h =
      let below = products x h in
      let some = room_positive x h in
      let first : at ≤ sum * at / rest = (le-div_iff_mul-le some).1 (rw (mul_comm sum at) (mul-le-mul_left at x.less)) in
      let last : sum * at / rest < at + v = (div-lt_iff_lt-mul some).1 (rw (mul_comm (at + v) rest) below) in
      record {
        least = omega (arith, x.at_is);
        most = omega (arith, x.at_is);
        met = lt-mul-div-succ (sum * at) some;
        unmet = mul-div-le (sum * at) rest;
      }

  -- a count of the class will do: the first one, if it is allowed
  pub walk_finds : {sum rest at : ℕ} → Walked sum rest at → v ≤ 2048 → sum < room_before v rest at →
      or_else (leb (max v (sum * at / rest)) 2048) (max v (sum * at / rest)) (refused 12) ≡ first_from (ends_below v a n w) (2049 - v) v
  unfolding or_else
  walk_finds {sum} {rest} {at} x few h =
      let f = count_of x h in
      let c : ℕ = max v (sum * at / rest) in
      let higher : sum * at / rest + 1 ≤ c + 1 = omega arith in
      let met : ends_below v a n w c ≡ true =
      here x c (omega (arith, f.least)) (omega (arith, f.most)) ∙ lt-ltb (sum * at) (rest * (c + 1)) (omega (arith, f.met, mul-le-mul_left rest higher)) in
      let unmet : v < c → ends_below v a n w (c - 1) ≡ false =
      λ later.
      let same : c - 1 + 1 ≡ sum * at / rest = omega arith in
      here x (c - 1) (omega (arith, f.least)) (omega (arith, f.most)) ∙ rw same (le-ltb (sum * at) (rest * (sum * at / rest)) f.unmet) in
      split (leb c 2048)
      (λ on. rw on (sym (first_from_at (ends_below v a n w) falls (2049 - v) v c (omega arith) (omega (arith, leb-true c 2048 on)) met unmet)))
      (λ off. rw off (past (c - 1) few (omega (arith, leb-false c 2048 off)) (unmet (omega (arith, leb-false c 2048 off)))))
