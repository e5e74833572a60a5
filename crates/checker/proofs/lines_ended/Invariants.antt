-- `checker::lines_ended` meets its contract. The invariant: the lines so far, and those of the rest, are all lines.
use mathlib.Core.Path.{◌≡◌}
use mathlib.Core.List.{List}
use Prim.Native.Nat.{ℕ, ◌+◌, ◌≤◌}
use lib.ListN.{length, drop}
use Rattle.checker.specs.Comparison.{compared}
use Rattle.checker.proofs.lines_ended.Given as goal

pub record Counted (text : List ℕ) (lines ended i : ℕ) : Type 0 where
  pub few : ended ≤ i
  pub within : i ≤ length text
  pub same : compared (lines + ended) (drop i text) (drop i text) ≡ compared lines text text

abbrev pub invariant-loop-b : goal.invariant-loop-b
invariant-loop-b l = Counted l.text l.lines l.ended l.b-index
