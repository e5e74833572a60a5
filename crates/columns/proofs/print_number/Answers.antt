-- `columns::print_number` meets its contract. The invariant: with the columns in front of i still to be written, the buffer is as it is to be.
use mathlib.Core.Path.{◌≡◌, refl, sym, ◌∙◌}
use native.Mathlib.Omega.{arith}
use lib.ListN.{length-set}
use Rattle.columns.proofs.Numbers.Printed.{with_columns_before_set, with_columns_before_none, written_printed_zero, written_printed_last}
use Rattle.columns.proofs.print_number.Goals as goal

pub returns-then-columns-eq0 : goal.returns-then-columns-eq0
returns-then-columns-eq0 c =
    let a = c.args in
    rw c.if-columns-eq0.true (written_printed_zero a.out.now a.at a.n)

pub loop-i-init : goal.loop-i-init
loop-i-init c = record { same = refl; least = omega arith }

pub loop-i-preserved : goal.loop-i-preserved
loop-i-preserved c =
    let l = c.loop-i in
    record {
      same = rw c.digit_or_blank.ensures (with_columns_before_set l.out c.args.at l.i l.left (omega arith) (rw (l.auto.out, length-set) (omega arith)) ∙ l.invariant.same);
      least = omega arith;
    }

pub returns : goal.returns
returns c =
    let a = c.args in
    let l = c.loop-i in
    let all : l.i ≡ a.at = omega arith in
    sym (with_columns_before_none l.out a.at l.left) ∙ rw all at l.invariant.same ∙ written_printed_last a.out.now a.at a.columns a.n (omega arith) (omega arith)
