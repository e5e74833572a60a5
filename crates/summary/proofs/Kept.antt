-- What a function makes of a `Table`, from what both its tables hold then, and back.
use mathlib.Core.Path.{refl, ◌∙◌}
use lib.ListN.{length}
use Rattle.summary.specs.Steps.{Summary}
use Rattle.summary.specs.InnerContracts.{Holds}
use Rattle.summary.specs.Kept.{held, same_memory, Turns}
use Rattle.summary.specs.declared.Table.{Table}
use Rattle.summary.proofs.InnerContracts.Holds.{held_read, long_rows}

module _ {a b : Table} {step : Summary → Summary} where
  pub turns : Holds (length a.rows.now) 4294967296 (step (held a)) b.rows.now b.counts.now b.tally.tracked b.tally.spillover → same_memory a b → Turns step a b
  turns x m = record { keeps = tt; holds = held_read x; as_many = long_rows x; one_bank = refl; one_memory = m }

  pub turned_holds : Turns step a b → Holds (length a.rows.now) 4294967296 (step (held a)) b.rows.now b.counts.now b.tally.tracked b.tally.spillover
  turned_holds t = rw (← t.as_many, ← t.holds) b.tracks

pub same_memory_transitive : (a b c : Table) → same_memory a b → same_memory b c → same_memory a c
same_memory_transitive a b c x y = (y.0 ∙ x.0, y.1 ∙ x.1)
