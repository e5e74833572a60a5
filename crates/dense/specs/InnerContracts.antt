-- Inner relations: what a function makes of the summary in lent tables. Only contracts of functions that no caller of the listing reaches say these.
use Rattle.std.specs.Prelude.{ℕ, ◌≤◌, ◌≡◌, List, get_or}
use Rattle.laws.specs.Lent.{Lent}
use Rattle.device.specs.Acceptance.{most_rows}
use Rattle.summary.specs.Steps.{Summary, empty, disturb}
use Rattle.aids.specs.Marks.{EmptyFrom}
use Rattle.dense.specs.declared.Tally.{Tally}
use Rattle.dense.specs.Dense.{dense, Kept, Bank}

-- no number rose
pub record Fewer (xs ys : List ℕ) : Type 0 where
  pub less : (i : ℕ) → get_or ys i 0 ≤ get_or xs i 0

-- rows were taken out: what is left is another summary, in which no count is higher
pub record Left (sum : Summary) (counts₀ counts marks : List ℕ) (t : Tally) : Type 0 where
  pub kept : Kept counts marks t
  pub holds : dense counts t.spillover ≡ sum
  pub fewer : Fewer counts₀ counts

-- a row that was not tracked is disturbed: no other count is higher
pub record DisturbedIn (rows counters row : ℕ) (sum : Summary) (counts₀ counts marks : List ℕ) (t : Tally) : Type 0 where
  pub kept : Kept counts marks t
  pub holds : dense counts t.spillover ≡ disturb counters row sum
  pub inside : EmptyFrom counts rows
  pub fits : t.tracked ≤ counters
  pub others : (i : ℕ) → (i ≡ row → ⊥) → get_or counts i 0 ≤ get_or counts₀ i 0

-- a bank holds another summary
pub record Turned (rows counters : ℕ) (sum : Summary) (counts marks bounds : List ℕ) (t : Tally) : Type 0 where
  pub bank : Bank rows counters counts marks bounds t
  pub holds : dense counts t.spillover ≡ sum

-- the same of lent tables: the summary that they hold, and what a function makes of it
abbrev pub summary : List ℕ → Tally → Summary
summary counts t = dense counts t.spillover

-- a bank of any size that tracks nothing
abbrev pub TracksNothing : Lent → Lent → Lent → Tally → Type 0
TracksNothing counts marks bounds t =
    (rows counters : ℕ) → rows ≤ most_rows → Turned rows counters empty counts.exit.now marks.exit.now bounds.exit.now t

abbrev pub Holds : ℕ → ℕ → List ℕ → List ℕ → List ℕ → Tally → Type 0
Holds rows counters counts marks bounds t = Bank rows counters counts marks bounds t

abbrev pub Turns : ℕ → ℕ → Lent → Lent → Lent → Tally → (Summary → Summary) → Tally → Type 0
Turns rows counters counts marks bounds t step t' =
    Turned rows counters (step (summary counts.entry.now t)) counts.exit.now marks.exit.now bounds.exit.now t'
