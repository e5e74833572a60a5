-- What a function makes of a summary, in whatever memory it is kept. Only inner contracts say this.
use Rattle.std.specs.Prelude.{ℕ, ◌≡◌, List, [], ◌∷◌, Option, Some, None}
use Rattle.summary.specs.Steps.{Summary}

-- the second value holds what a step makes of the first one's summary, in the same memory with as many places, of the same bank
pub record Turned {A : Type 0} (kept : A → Type 0) (summary : A → Summary) (places bound : A → ℕ) (same : A → A → Type 0) (step : Summary → Summary) (a b : A) : Type 0 where
  pub keeps : kept b
  pub holds : summary b ≡ step (summary a)
  pub as_many : places b ≡ places a
  pub one_bank : bound b ≡ bound a
  pub one_memory : same a b

-- the row that was taken out, if any, as a list
unfoldable pub named : Option ℕ → List ℕ
named (Some row) = row ∷ []
named None = []
