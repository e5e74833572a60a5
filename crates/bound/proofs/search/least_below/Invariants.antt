-- `search::least_below` meets its contract, by the laws of the walk.
use Prim.Native.Nat.{ℕ, ◌-◌}
use Rattle.bound.proofs.Shares.{Shared}
use Rattle.bound.proofs.Walk.{Walked}
use Rattle.bound.proofs.search.least_below.Given as goal

pub record Stands (volume added steps end sum room at quotient over : ℕ) : Type 0 where
  pub walked : Walked volume added steps end sum room at
  pub shared : Shared volume room at quotient over

abbrev pub invariant-loop-at : goal.invariant-loop-at
invariant-loop-at l = Stands l.volume l.added l.steps l.end l.sum l.room l.at l.share.quotient l.share.over

abbrev pub decreases-loop-at : goal.decreases-loop-at
decreases-loop-at l = 2049 - l.at
