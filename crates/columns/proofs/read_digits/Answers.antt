-- `columns::read_digits` meets its contract. The invariant: the digits still to be read, behind n, make what all of them make; and n leaves room for them.
use mathlib.Core.Path.{◌≡◌, refl, sym, ◌∙◌}
use mathlib.Core.Bool.{true}
use Prim.Native.Nat.{suc, ◌+◌, ◌-◌}
use native.Mathlib.Omega.{arith}
use lib.ListN.{length, get_or}
use lib.Seq.{drop-length}
use Rattle.std.specs.Char.{is_ascii_digit}
use Rattle.columns.specs.Numbers.{is_digit, digits}
use Rattle.columns.specs.Answers.{found}
use Rattle.columns.proofs.Numbers.Digits.{is_digit_range, digits_other, digits_digit, room_zero, room_lt, room_digit}
use Rattle.columns.proofs.read_digits.Goals as goal

pub loop-b-init : goal.loop-b-init
loop-b-init c = record { same = refl; room = room_zero _ (omega arith) }

pub returns-then-not-is_ascii_digit : goal.returns-then-not-is_ascii_digit
unfolding found
returns-then-not-is_ascii_digit c =
    let l = c.loop-b in
    sym (digits_other c.args.columns.now l.b-index (omega arith) l.n (sym c.is_ascii_digit.ensures.value ∙ c.if-not-is_ascii_digit.true)) ∙ l.invariant.same

pub overflow_mul-n : goal.overflow_mul-n
overflow_mul-n c = omega (arith, room_lt _ _ c.loop-b.invariant.room)

pub overflow_add-n : goal.overflow_add-n
overflow_add-n c = omega (arith, room_lt _ _ c.loop-b.invariant.room)

pub loop-b-preserved : goal.loop-b-preserved
unfolding is_digit
loop-b-preserved c =
    let l = c.loop-b in
    let columns = c.args.columns.now in
    let is : is_ascii_digit (get_or columns l.b-index 0) ≡ true = sym c.is_ascii_digit.ensures.value ∙ c.if-not-is_ascii_digit.false in
    let left : length columns - l.b-index ≡ suc (length columns - (l.b-index + 1)) = omega arith in
    record {
      same = sym (digits_digit columns l.b-index (omega arith) l.n is) ∙ l.invariant.same;
      room = room_digit l.n (get_or columns l.b-index 0 - 48) (length columns - (l.b-index + 1)) (rw left at l.invariant.room) (omega (arith, (is_digit_range (get_or columns l.b-index 0) is).1));
    }

pub returns : goal.returns
unfolding found digits
returns c =
    let l = c.loop-b in
    let all : l.b-index ≡ length c.args.columns.now = omega arith in
    rw (all, drop-length) at l.invariant.same
