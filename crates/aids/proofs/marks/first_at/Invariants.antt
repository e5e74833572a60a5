-- `aids::marks::first_at` meets its contract. The invariant: no row before those of the next word is at the count, and no word is behind the last.
use mathlib.Core.List.{List}
use Prim.Native.Nat.{ℕ, ◌*◌, ◌-◌, ◌≤◌}
use Rattle.aids.specs.Marks.{row_words, Clear}
use Rattle.aids.proofs.marks.first_at.Given as goal

pub record Passed (counts : List ℕ) (count next : ℕ) : Type 0 where
  pub clear : Clear counts count (next * 64)
  pub most : next ≤ row_words

abbrev pub invariant-loop-next : goal.invariant-loop-next
invariant-loop-next l = Passed l.counts l.count l.next

abbrev pub decreases-loop-next : goal.decreases-loop-next
decreases-loop-next l = row_words - l.next
