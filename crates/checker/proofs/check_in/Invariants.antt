-- `checker::check_in` meets its contract. The invariant: how far the check has come, with tables that are a listing's.
use mathlib.Core.Path.{◌≡◌}
use mathlib.Core.Bool.{false, cond}
use mathlib.Core.List.{List}
use Prim.Native.Nat.{ℕ, suc, ◌-◌}
use lib.ListN.{length, drop}
use Rattle.trace.specs.Lines.{ended}
use Rattle.steps.specs.Memory.{memory, Banked}
use Rattle.checker.specs.declared.Checking.{Checking}
use Rattle.checker.specs.InnerContracts.{Reaches}
use Rattle.checker.proofs.check_in.Given as goal

pub record Stands (trace given counts marks bounds : List ℕ) (k : Checking) : Type 0 where
  pub reaches : Reaches trace given (memory k.place counts) k
  pub banked : Banked k.place counts marks bounds
  pub last : k.more ≡ false → ended (drop k.taken trace) ≡ false

abbrev pub left : List ℕ → Checking → ℕ
left trace k = cond k.more (suc (length trace - k.taken)) 0

abbrev pub invariant-loop-k : goal.invariant-loop-k
invariant-loop-k l = Stands l.trace l.given l.counts l.marks l.bounds l.k

abbrev pub decreases-loop-k : goal.decreases-loop-k
decreases-loop-k l = left l.trace l.k
