-- `rowlist::run` meets its contract. The invariant: memory and tables are a listing's, and the steps so far are a chain from the first on.
use Rattle.turns.specs.Turns.{first_turned}
use Rattle.rowlist.proofs.Runs.{Going}
use Rattle.rowlist.proofs.run.Given as goal

abbrev pub invariant-reads : goal.invariant-reads
invariant-reads l =
    Going (first_turned l.initial.counts l.initial.text l.initial.out) l.counts l.marks l.bounds l.text l.out l.turn l.counter
