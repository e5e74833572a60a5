-- `aids::bounds::highest` meets its contract. The invariant: the best is the highest of the places passed.
use Prim.Native.Nat.{◌≤◌}
use Rattle.aids.specs.Bounds.{Highest}
use Rattle.aids.proofs.bounds.highest.Given as goal

abbrev pub invariant-loop-i : goal.invariant-loop-i
invariant-loop-i l = Highest l.t l.from l.i l.best × (l.i ≤ l.to)
