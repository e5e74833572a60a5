-- `aids::marks::clear_marked` meets its contract. The invariant: the rows of the words passed have no count, and the others what they had.
use Prim.Native.Nat.{◌*◌}
use Rattle.aids.specs.Marks.{Emptied}
use Rattle.aids.proofs.marks.clear_marked.Given as goal

abbrev pub invariant-loop-w : goal.invariant-loop-w
invariant-loop-w l = Emptied l.initial.counts l.counts 0 (l.w * 64)
