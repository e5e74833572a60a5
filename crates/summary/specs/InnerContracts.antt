-- Inner relations: only the contracts of functions that no caller of the tracker reaches say these. Two lent tables that hold a summary, and
-- what a function makes of it. Nobody has to believe them: the outer contracts, over specs/Steps.antt and specs/Tables.antt, rest on them.
use Rattle.std.specs.Prelude.{ℕ, ◌≡◌, List, ◌++◌, length, drop}
use Rattle.summary.specs.Entries.{rows_of, counts_of, picks}
use Rattle.summary.specs.Steps.{Summary, drop_rows}
use Rattle.summary.specs.Rules.{Sound}
use Rattle.summary.specs.declared.Tally.{Tally}
use Rattle.laws.specs.Lent.{Lent}
use Rattle.summary.specs.Tables.{table, read}

-- two tables of so many places that hold a summary of a bank of so many rows, with its number of entries and its spillover
pub record Holds (places high : ℕ) (sum : Summary) (rows counts : List ℕ) (tracked spillover : ℕ) : Type 0 where
  pub rows_laid : rows ≡ table places (rows_of sum.entries)
  pub counts_laid : counts ≡ table places (counts_of sum.entries)
  pub tracked_is : tracked ≡ length sum.entries
  pub spillover_is : spillover ≡ sum.spillover
  pub sound : Sound high places sum

-- two tables as the functions on them want them: they hold what is read from them. Rows are 32-bit numbers
abbrev pub Held : List ℕ → List ℕ → ℕ → ℕ → Type 0
Held rows counts tracked spillover =
    Holds (length rows) 4294967296 (read rows counts tracked spillover) rows counts tracked spillover

-- two tables as the functions leave them: as many places as there were, holding a summary
abbrev pub Left : List ℕ → Summary → List ℕ → List ℕ → ℕ → ℕ → Type 0
Left rows₀ sum rows counts tracked spillover = Holds (length rows₀) 4294967296 sum rows counts tracked spillover

-- the summary that two lent tables and the tally that goes with them hold
abbrev pub summary : List ℕ → List ℕ → Tally → Summary
summary rows counts t = read rows counts t.tracked t.spillover

-- two lent tables and their tally, as the functions want them
abbrev pub Tracks : List ℕ → List ℕ → Tally → Type 0
Tracks rows counts t = Held rows counts t.tracked t.spillover

-- the picked rows at the front of a list, whose other places keep what they had, and their number
pub record PickedFrom (volume : ℕ) (sum : Summary) (list₀ list : List ℕ) (count : ℕ) : Type 0 where
  pub named : list ≡ picks volume sum.entries ++ drop (length (picks volume sum.entries)) list₀
  pub counted : count ≡ length (picks volume sum.entries)

-- the picked rows' names in the list that was lent ('at the front of a lent list'), and their number
abbrev pub Names : Lent → ℕ → Summary → ℕ → Type 0
Names list volume sum count = PickedFrom volume sum list.entry.now list.exit.now count

-- a summary without the rows that are picked
abbrev pub picked_out : ℕ → Summary → Summary
picked_out volume sum = drop_rows (picks volume sum.entries) sum
