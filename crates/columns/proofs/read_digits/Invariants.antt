-- `columns::read_digits` meets its contract. The invariant: the digits still to be read, behind n, make what all of them make; and n leaves room for them.
use mathlib.Core.Path.{◌≡◌}
use mathlib.Core.List.{List}
use Prim.Native.Nat.{ℕ, ◌-◌}
use lib.ListN.{length, drop}
use Rattle.columns.specs.Numbers.{digits}
use Rattle.columns.proofs.Numbers.Digits.{Room}
use Rattle.columns.proofs.read_digits.Given as goal

pub record Left (columns : List ℕ) (n i : ℕ) : Type 0 where
  pub same : digits n (drop i columns) ≡ digits 0 columns
  pub room : Room n (length columns - i)

abbrev pub invariant-loop-b : goal.invariant-loop-b
invariant-loop-b l = Left l.columns l.n l.b-index
