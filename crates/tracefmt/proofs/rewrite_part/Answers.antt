-- `tracefmt::rewrite_part` meets its contract. The invariant: the lines before `at` are rewritten.
use mathlib.Core.Path.{sym}
use native.Mathlib.Omega.{arith}
use Rattle.trace.proofs.Texts.NextLine.{place_within, ends_with, ends_without}
use Rattle.tracefmt.specs.Turns.{progress_of}
use Rattle.tracefmt.proofs.Lines.{taken_start, buffer_long, line_fits, taken_more}
use Rattle.tracefmt.proofs.OneLine.{refusal_some, place_read}
use Rattle.tracefmt.proofs.WholePart.{part_unended, part_stopped, part_whole}
use Rattle.tracefmt.proofs.rewrite_part.Goals as goal

pub lines-init : goal.lines-init
lines-init c = taken_start _ _ _

pub overflow_sub-next : goal.overflow_sub-next
overflow_sub-next c =
    let at = place_read c.read_line-answer.result _ c.read_line-answer.ensures in
    omega (arith, at, (place_within c.args.text.now c.lines.at c.lines-test.true).0)

pub bounds-text-next : goal.bounds-text-next
bounds-text-next c =
    let at = place_read c.read_line-answer.result _ c.read_line-answer.ensures in
    omega (arith, at, place_within c.args.text.now c.lines.at c.lines-test.true)

pub shape_of-out-then-text-next-ne10 : goal.shape_of-out-then-text-next-ne10
shape_of-out-then-text-next-ne10 c = buffer_long c.lines.invariant

pub returns-then-text-next-ne10 : goal.returns-then-text-next-ne10
returns-then-text-next-ne10 c =
    let less = c.lines-test.true in
    let at = place_read c.read_line-answer.result _ c.read_line-answer.ensures in
    part_unended c.lines.invariant (ends_without _ _ _ at less c.if-text-next-ne10.true)

pub rewrite_line-line-requires : goal.rewrite_line-line-requires
rewrite_line-line-requires c =
    rw c.read_line-answer.ensures
    (line_fits c.lines.invariant c.lines-test.true c.requires)

pub lines-smaller : goal.lines-smaller
lines-smaller c =
    let at = place_read c.read_line-answer.result _ c.read_line-answer.ensures in
    omega (arith, at, place_within c.args.text.now c.lines.at c.lines-test.true)

pub lines-preserved : goal.lines-preserved
lines-preserved c =
    let less = c.lines-test.true in
    let read_line = c.read_line-answer in
    let rewrite_line = c.rewrite_line-line in
    let at = place_read read_line.result _ read_line.ensures in
    rw at
    (taken_more c.lines.invariant less (ends_with _ _ _ at less c.if-text-next-ne10.false) (rw read_line.ensures at rewrite_line.ensures.0) (rw read_line.ensures at rewrite_line.ensures.1))

pub shape_of-out-else-is_none : goal.shape_of-out-else-is_none
shape_of-out-else-is_none c = buffer_long c.lines.invariant

pub returns-else-is_none : goal.returns-else-is_none
unfolding progress_of
returns-else-is_none c = part_stopped c.lines.invariant (refusal_some c.lines.place.refusal (sym c.if-is_none.ensures))

pub shape_of-out-after-lines : goal.shape_of-out-after-lines
shape_of-out-after-lines c = buffer_long c.lines.invariant

pub returns-after-lines : goal.returns-after-lines
returns-after-lines c = part_whole c.lines.invariant c.lines-test.false
