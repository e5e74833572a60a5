-- `rowcheck::check_files` meets its contract: its tables track nothing at first.
use mathlib.Core.Path.{refl}
use borrow.Author.Rules.{rules}
use Rattle.steps.proofs.Memory.Zeros.{zeros_marked}
use Rattle.rowcheck.proofs.check_files.Goals as goal

pub run-requires : goal.run-requires
run-requires c = (zeros_marked 262144 refl refl refl, search rules, search rules, search rules, search rules)
