-- `rowlist::main` is safe: its tables track nothing at first.
use mathlib.Core.Path.{refl}
use borrow.Author.Rules.{rules}
use Rattle.steps.proofs.Memory.Zeros.{zeros_marked}
use Rattle.rowlist.proofs.main.Goals as goal

pub run-ended-requires : goal.run-ended-requires
run-ended-requires c = (zeros_marked 262144 refl refl refl, search rules, search rules, search rules)
