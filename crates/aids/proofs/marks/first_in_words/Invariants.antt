-- `aids::marks::first_in_words` meets its contract. The invariant: no row before those of the word looked at is at the count, and what is left of the
-- word of words shows those from it on. The measure is how many those are.
use mathlib.Core.List.{List}
use Prim.Native.Nat.{ℕ, ◌*◌, ◌-◌, ◌<◌}
use Rattle.aids.specs.Marks.{Clear, Shows, in_use}
use Rattle.aids.proofs.marks.first_in_words.Given as goal

pub record Left (counts marks : List ℕ) (count left w end : ℕ) : Type 0 where
  pub shows : Shows (in_use marks) left w end
  pub clear : Clear counts count (w * 64)
  pub fits : left < 18446744073709551616

abbrev pub invariant-loop-left : goal.invariant-loop-left
invariant-loop-left l = Left l.counts l.marks l.count l.left l.w l.end

abbrev pub decreases-loop-left : goal.decreases-loop-left
decreases-loop-left l = l.end - l.w
