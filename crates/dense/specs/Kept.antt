-- What a `RowTable` keeps, as its `Ledger` says, and what a function makes of it.
use Rattle.std.specs.Prelude.{ℕ, ◌≡◌, ◌<◌, get_or}
use Rattle.summary.specs.Steps.{Summary}
use Rattle.summary.specs.Ledger.{Turned}
use Rattle.dense.specs.Dense.{dense, Bank}
use Rattle.dense.specs.InnerContracts.{DisturbedIn}
use Rattle.dense.specs.declared.RowTable.{RowTable}

-- a table as the methods want it, and the summary in it
abbrev pub holds_bank : RowTable → Type 0
holds_bank t = Bank t.rows t.counters t.counts.now t.marks.now t.bounds.now t.tally

abbrev pub held : RowTable → Summary
held t = dense t.counts.now t.tally.spillover

abbrev pub places_of : RowTable → ℕ
places_of t = t.counters

abbrev pub rows_of : RowTable → ℕ
rows_of t = t.rows

-- the slices are the ones that were lent
abbrev pub same_memory : RowTable → RowTable → Type 0
same_memory a b =
    (b.counts.ghost_name ≡ a.counts.ghost_name) × (b.marks.ghost_name ≡ a.marks.ghost_name) × (b.bounds.ghost_name ≡ a.bounds.ghost_name)

abbrev pub Turns : (Summary → Summary) → RowTable → RowTable → Type 0
Turns step a b = Turned holds_bank held places_of rows_of same_memory step a b

-- a row that is not tracked, which has room
abbrev pub IsNew : ℕ → RowTable → Type 0
IsNew row t = holds_bank t × (row < t.rows) × (get_or t.counts.now row 0 ≡ 0) × (t.tally.spillover < 4294967295)

-- it is disturbed, and the bounds have not risen with it yet
abbrev pub Disturbs : ℕ → RowTable → RowTable → Type 0
Disturbs row a b =
    DisturbedIn a.rows a.counters row (held a) a.counts.now b.counts.now b.marks.now b.tally
    × (b.rows ≡ a.rows)
    × (b.counters ≡ a.counters)
    × (b.bounds.now ≡ a.bounds.now)
    × same_memory a b
