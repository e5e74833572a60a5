-- `rowcheck::run` meets its contract. The invariant: the memory is a listing's, the steps so far are a chain from the first on, and no more lines are passed
-- over than bytes that the reads can bring.
use Rattle.rowcheck.specs.Turns.{first_state}
use Rattle.rowcheck.proofs.Chains.{Going}
use Rattle.rowcheck.proofs.run.Given as goal

abbrev pub invariant-reads : goal.invariant-reads
invariant-reads l =
    Going (first_state l.initial.counts l.initial.text l.initial.out) l.initial.given l.counts l.marks l.bounds l.text l.out l.given l.step l.counter
