-- `engine::activate` meets its contract.
use Rattle.std.proofs.Common.{rules}
use Rattle.tracker.specs.Calls.{victims_in}
use Rattle.engine.proofs.activate.Goals as goal

pub returns : goal.returns
unfolding victims_in
returns c = search rules
