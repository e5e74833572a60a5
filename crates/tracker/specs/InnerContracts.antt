-- What only inner contracts say, and no call's promise: the tests that calls on lent tables begin with, and ranges of an event's numbers.
use Rattle.std.specs.Prelude.{ℕ, ◌≤◌, List, [], ◌∷◌, ◌++◌}
use Rattle.device.specs.Acceptance.{most_rows, settings_tests}
use Rattle.device.specs.Refusal.{Test, unless}
use Rattle.device.specs.declared.Settings.{Settings}
use Rattle.state.specs.State.{tables_long}

-- the tests that calls on lent tables begin with: the settings', then 8
unfoldable pub tables_tests : Settings → List ℕ → List ℕ → List Test
tables_tests s rows counts = settings_tests s ++ unless (tables_long s rows counts) 8 ∷ []

-- an accepted event: its settings, its place in the window and the places of the list for its picks
abbrev pub Ranges : Settings → ℕ → ℕ → Type 0
Ranges s e places =
    (s.blast_diameter ≤ 4) × (s.rows ≤ most_rows) × (s.volume ≤ 16) × (s.block ≤ 64) × (1 ≤ s.window) × (e ≤ 8192) × (s.volume ≤ places)
