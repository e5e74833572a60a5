-- `lines::all_lines` meets its contract. The invariant: the lines so far and those of the text that is left are all lines.
use native.Mathlib.Omega.{arith}
use Rattle.std.proofs.lemmas.Bool.Decides.{nat_tests}
use Rattle.lines.proofs.Lines.{shorter_behind, counted_zero, counted_first, line_count_counted}
use Rattle.lines.proofs.all_lines.Goals as goal

pub loop-left-init : goal.loop-left-init
loop-left-init c = counted_zero c.args.text.now

pub overflow_add-count : goal.overflow_add-count
overflow_add-count c = omega (arith, c.loop-left.invariant.within)

pub loop-left-smaller : goal.loop-left-smaller
loop-left-smaller c = (shorter_behind c.loop-left.left.now c.first_line-behind.result.now (grind (arith, nat_tests)) c.first_line-behind.ensures).shorter

pub loop-left-preserved : goal.loop-left-preserved
loop-left-preserved c = counted_first c.loop-left.invariant (shorter_behind c.loop-left.left.now c.first_line-behind.result.now (grind (arith, nat_tests)) c.first_line-behind.ensures)

pub returns : goal.returns
returns c = line_count_counted c.loop-left.invariant (grind (arith, nat_tests))
