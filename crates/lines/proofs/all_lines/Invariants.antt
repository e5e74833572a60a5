-- `lines::all_lines` meets its contract. The invariant: the lines so far and those of the text that is left are all lines.
use lib.ListN.{length}
use Rattle.lines.proofs.Lines.{Counted}
use Rattle.lines.proofs.all_lines.Given as goal

abbrev pub invariant-loop-left : goal.invariant-loop-left
invariant-loop-left l = Counted l.text l.left l.count

abbrev pub decreases-loop-left : goal.decreases-loop-left
decreases-loop-left l = length l.left
