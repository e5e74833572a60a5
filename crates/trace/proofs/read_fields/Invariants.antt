-- `trace::read_fields` meets its contract. The invariant: the numbers that are read, and those from field i on, are all of them.
use mathlib.Core.Path.{◌≡◌}
use mathlib.Core.List.{List}
use Prim.Native.Nat.{ℕ, ◌+◌, ◌-◌, ◌*◌}
use lib.ListN.{length, take, drop}
use Rattle.columns.specs.Numbers.{fields}
use Rattle.columns.proofs.Numbers.Fields.{behind}
use Rattle.trace.proofs.read_fields.Given as goal

pub record Filled (text : List ℕ) (at count : ℕ) (values : List ℕ) (i : ℕ) : Type 0 where
  pub same : behind (take i values) (fields (count - i) (drop (at + 6 * i) text)) ≡ fields count (drop at text)
  pub long : length values ≡ count

abbrev pub invariant-loop-i : goal.invariant-loop-i
invariant-loop-i g l = Filled l.text l.at g.row.N l.values l.i
