-- What a `Table` keeps, as its `Ledger` says, and what a function makes of it.
use Rattle.std.specs.Prelude.{ℕ, ◌≡◌, ⊤, length}
use Rattle.summary.specs.Steps.{Summary}
use Rattle.summary.specs.InnerContracts.{summary}
use Rattle.summary.specs.Ledger.{Turned}
use Rattle.summary.specs.declared.Table.{Table}

-- every table is as the methods want it
abbrev pub always : Table → Type 0
always t = ⊤

abbrev pub held : Table → Summary
held t = summary t.rows.now t.counts.now t.tally

abbrev pub places_of : Table → ℕ
places_of t = length t.rows.now

-- rows are 32-bit numbers
abbrev pub all_rows : Table → ℕ
all_rows t = 4294967296

-- both tables are the ones that were lent
abbrev pub same_memory : Table → Table → Type 0
same_memory a b = (b.rows.ghost_name ≡ a.rows.ghost_name) × (b.counts.ghost_name ≡ a.counts.ghost_name)

abbrev pub Turns : (Summary → Summary) → Table → Table → Type 0
Turns step a b = Turned always held places_of all_rows same_memory step a b
