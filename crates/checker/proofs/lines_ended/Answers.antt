-- `checker::lines_ended` meets its contract. The invariant: the lines so far, and those of the rest, are all lines.
use mathlib.Core.Path.{◌≡◌, sym, ◌∙◌, ap}
use Rattle.std.specs.Prelude.{Ok}
use mathlib.Core.List.{List}
use Prim.Native.Nat.{ℕ, ◌+◌, ◌≤◌, ◌<◌}
use native.Mathlib.Nat.{add-zero}
use native.Mathlib.Omega.{arith}
use lib.Dec.{eqb}
use lib.ListN.{length, get_or, drop, drop_of_length-le}
use mir.Val.{bool_byte}
use Rattle.checker.specs.Comparison.{compared}
use Rattle.checker.proofs.Comparison.{one_most, itself_compared}
use Rattle.checker.proofs.lines_ended.Invariants.{Counted}
use Rattle.checker.proofs.lines_ended.Goals as goal

counted_next : {text : List ℕ} {lines ended i : ℕ} → Counted text lines ended i → i < length text → Counted text lines (ended + bool_byte (eqb (get_or text i 0) 10)) (i + 1)
counted_next {text} {lines} {ended} {i} k h =
    let one = bool_byte (eqb (get_or text i 0) 10) in
    let sum : lines + (ended + one) ≡ lines + ended + one = omega arith in
    record {
      few = omega (arith, k.few, one_most (eqb (get_or text i 0) 10));
      within = omega arith;
      same = ap (λ (n : ℕ). compared n (drop (i + 1) text) (drop (i + 1) text)) sum ∙ sym (itself_compared (lines + ended) text i h) ∙ k.same;
    }

counted_all : {text : List ℕ} {lines ended i : ℕ} → Counted text lines ended i → length text ≤ i → Ok (lines + ended) ≡ compared lines text text
unfolding compared
counted_all {text} {i = i} k h = rw (drop_of_length-le text {i = i} h) at k.same

pub loop-b-init : goal.loop-b-init
loop-b-init c = record { few = omega arith; within = omega arith; same = rw (add-zero c.args.lines) }

pub overflow_cast-ended : goal.overflow_cast-ended
overflow_cast-ended c = tt

pub overflow_add-ended : goal.overflow_add-ended
overflow_add-ended c =
    let l = c.loop-b in
    record { fits = omega (arith, l.invariant.few, l.invariant.within, c.requires.0, one_most (eqb (get_or c.args.text.now l.b-index 0) 10)) }

pub loop-b-preserved : goal.loop-b-preserved
loop-b-preserved c = counted_next c.loop-b.invariant (omega arith)

pub overflow_cast-result : goal.overflow_cast-result
overflow_cast-result c = record { fits = omega (arith, c.loop-b.invariant.few, c.loop-b.invariant.within, c.requires.0) }

pub overflow_add-result : goal.overflow_add-result
overflow_add-result c = record { fits = omega (arith, c.loop-b.invariant.few, c.loop-b.invariant.within, c.requires.1) }

pub returns : goal.returns
returns c = counted_all c.loop-b.invariant c.loop-b-test.false
