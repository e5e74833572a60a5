-- `checker::compare_bytes` meets its contract. The invariant: what comparing the rest comes to is what comparing all comes to.
use mathlib.Core.Path.{◌≡◌}
use mathlib.Core.List.{List}
use Prim.Native.Nat.{ℕ, ◌+◌, ◌-◌, ◌≤◌}
use lib.ListN.{length, drop}
use Rattle.checker.specs.Comparison.{compared}
use Rattle.checker.proofs.compare_bytes.Given as goal

pub record Left (required given : List ℕ) (from lines at i ended : ℕ) : Type 0 where
  pub within : at ≤ length given
  pub fits : ended + (length given - at) ≤ 18446744073709551615
  pub same : compared ended (drop i required) (drop at given) ≡ compared lines required (drop from given)

abbrev pub invariant-loop-b : goal.invariant-loop-b
invariant-loop-b l = Left l.required l.given l.from l.lines l.at l.b-index l.ended
