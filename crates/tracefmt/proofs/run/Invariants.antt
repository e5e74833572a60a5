-- `tracefmt::run` meets its contract. The invariant: the steps so far are a chain from the first on.
use Rattle.tracefmt.specs.Turns.{first_state}
use Rattle.tracefmt.proofs.Runs.{Going}
use Rattle.tracefmt.proofs.run.Given as goal

abbrev pub invariant-reads : goal.invariant-reads
invariant-reads l = Going (first_state l.initial.text l.initial.out) l.text l.out l.turn l.counter
