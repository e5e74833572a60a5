-- Document 01's trace as the counter is told of it, and the numbers that it holds.
use Rattle.std.specs.Prelude.{ℕ, zero, suc, true, List, [], ◌∷◌, ◌++◌}
use Rattle.device.specs.declared.Settings.{Settings}
use Rattle.device.specs.Remap.{own_remap}
use Rattle.limit.specs.Exact.{Happened, activated, refreshed, Exact}

-- the numbers of so many rows, from a row on
unfoldable pub numbers_from : Exact → ℕ → ℕ → List ℕ
numbers_from x zero row = []
numbers_from x (suc k) row = x.disturbance row ∷ numbers_from x k (suc row)

-- all that the counter holds: f, and 'one number for each die row'
unfoldable pub held_by : Settings → Exact → List ℕ
held_by s x = x.refreshes ∷ numbers_from x s.rows 0

-- its line 1, `S    16     2     1     2     4     4     4`
unfoldable pub sixteen_rows : Settings
sixteen_rows =
    record { rows = 16; blast_diameter = 2; volume = 1; counters = 2; interval = 4; window = 4; block = 4 }

-- lines 2 to 4, `A     5`, `A     5`, `A     2`
unfoldable pub up_to_line_4 : List Happened
up_to_line_4 = activated own_remap 5 1 true ∷ activated own_remap 5 1 true ∷ activated own_remap 2 1 true ∷ []

-- line 5, `R`, which picks row 4
unfoldable pub up_to_line_5 : List Happened
up_to_line_5 = up_to_line_4 ++ refreshed true (4 ∷ []) ∷ []
