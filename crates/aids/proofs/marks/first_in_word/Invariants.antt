-- `aids::marks::first_in_word` meets its contract. The invariant: no row before the one looked at is at the count, and what is left of the word shows
-- those from it on. The measure is how many those are.
use mathlib.Core.List.{List}
use Prim.Native.Nat.{ℕ, ◌-◌, ◌<◌}
use Rattle.aids.specs.Marks.{Clear, Shows, at_number}
use Rattle.aids.proofs.marks.first_in_word.Given as goal

pub record Left (counts : List ℕ) (count left row end : ℕ) : Type 0 where
  pub shows : Shows (at_number counts count) left row end
  pub clear : Clear counts count row
  pub fits : left < 18446744073709551616

abbrev pub invariant-loop-left : goal.invariant-loop-left
invariant-loop-left l = Left l.counts l.count l.left l.row l.end

abbrev pub decreases-loop-left : goal.decreases-loop-left
decreases-loop-left l = l.end - l.row
