-- `tracker::test_activation` meets its contract.
use Rattle.std.proofs.Common.{rules}
use Rattle.tracker.proofs.Calls.Ready.{units_fit}
use Rattle.tracker.proofs.test_activation.Goals as goal

pub overflow_add-p : goal.overflow_add-p
overflow_add-p c = search (rules, units_fit)
