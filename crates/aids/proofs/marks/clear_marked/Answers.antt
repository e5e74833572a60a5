-- `aids::marks::clear_marked` meets its contract. The invariant: the rows of the words passed have no count, and the others what they had.
use Prim.Native.Nat.{◌+◌, ◌-◌, ◌*◌}
use native.Mathlib.Omega.{arith}
use Rattle.aids.proofs.Emptied.{emptied_none, emptied_part, emptied_on, emptied_word, emptied_all}
use Rattle.aids.proofs.marks.clear_marked.Goals.{then-marks-w-ne0, else-marks-w-ne0}
use Rattle.aids.proofs.marks.clear_marked.Goals as goal

pub loop-w-init : goal.loop-w-init
loop-w-init c = emptied_none c.args.counts.now 0 0 (omega arith)

pub bounds-marks-w : goal.bounds-marks-w
bounds-marks-w c = omega (arith, c.requires.marks_long)

pub loop-w-preserved : goal.loop-w-preserved
loop-w-preserved c =
    elim c.if-marks-w-ne0.branch [
      | then-marks-w-ne0 w ↦
          let from = c.loop-w.w * 64 in
          let part = emptied_part c.loop-w.counts w.fill.new.self from (from + 64 - from) (from + 64) (omega arith) (omega (arith, c.requires.counts_long)) (w.fill.ensures.after (λ y e. e)) in
          rw w.counts-is (emptied_on c.loop-w.invariant part (omega arith) ((c.loop-w.w + 1) * 64) (omega arith))
      | else-marks-w-ne0 w ↦ rw w.counts-is (emptied_word c.requires c.loop-w.w c.loop-w.invariant (omega (arith, w.if-marks-w-ne0.false)))
    ]

pub returns : goal.returns
returns c = emptied_all c.requires (c.loop-w.w * 64) c.loop-w.invariant (omega (arith, c.loop-w-test.false))
