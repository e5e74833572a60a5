-- The listing of a text: its lines, read one after another until no byte is left.
use Rattle.std.specs.Prelude.{ℕ, List, [], ◌∷◌, ◌++◌}
use Rattle.device.specs.Refusal.{Outcome}
use Rattle.device.specs.Acceptance.{most_rows}
use Rattle.trace.specs.declared.Record.{Record}
use Rattle.trace.specs.Texts.{outcomes}
use Rattle.steps.specs.Steps.{Progress, step_to, next_to, next}

-- what lines print, one after another, where N may be up to the most
unfoldable pub listed_to : ℕ → Progress → List (Outcome Record) → List ℕ
listed_to most g [] = []
listed_to most g (o ∷ os) = (step_to most g o).prints ++ listed_to most (next_to most g o) os

-- where the listing is behind them
unfoldable pub passed : Progress → List (Outcome Record) → Progress
passed g [] = g
passed g (o ∷ os) = passed (next g o) os

-- what a text prints
unfoldable pub listing_to : ℕ → Progress → List ℕ → List ℕ
listing_to most g text = listed_to most g (outcomes text)

-- the same with N up to `most_rows`
abbrev pub listed : Progress → List (Outcome Record) → List ℕ
listed g os = listed_to most_rows g os

abbrev pub listing : Progress → List ℕ → List ℕ
listing g text = listing_to most_rows g text

-- where the listing is behind a text
unfoldable pub after : Progress → List ℕ → Progress
after g text = passed g (outcomes text)
