-- What only inner contracts say, and no call's promise: the tests that both calls begin with, tables of a bank, and what a walk over a summary's
-- two tables, in the order of rows, finds at a place i of them.
use Rattle.std.specs.Prelude.{ℕ, ◌+◌, Bool, ◌&&◌, cond, List, [], ◌∷◌, ◌++◌, ltb, eqb, length, get_or}
use Rattle.device.specs.Acceptance.{settings_tests}
use Rattle.device.specs.Refusal.{Test, unless}
use Rattle.device.specs.declared.Settings.{Settings}
use Rattle.summary.specs.InnerContracts.{Holds, summary}
use Rattle.summary.specs.declared.Tally.{Tally}
use Rattle.state.specs.State.{State, given, valid, tables_long}
use Rattle.agreement.specs.declared.Memory.{Memory}

-- the state that a tracker's memory is
abbrev pub memory : Memory → State
memory m = given m.rows.now m.counts.now m.position

-- a valid state in tables of the right length
abbrev pub valid_memory : Settings → Memory → Bool
valid_memory s m = tables_long s m.rows.now m.counts.now && valid s (memory m)

-- both settings' tests, then 8
unfoldable pub both_tables_tests : Settings → List ℕ → List ℕ → Settings → List ℕ → List ℕ → List Test
both_tables_tests s rows counts s' rows' counts' =
    settings_tests s ++
    settings_tests s' ++
    unless (tables_long s rows counts && tables_long s' rows' counts') 8 ∷ []

-- two lent tables and their tally hold a summary of rows below high
abbrev pub TracksBelow : ℕ → List ℕ → List ℕ → Tally → Type 0
TracksBelow high rows counts t =
    Holds (length rows) high (summary rows counts t) rows counts t.tracked t.spillover

-- the row at the place, or the bank's end behind the last
unfoldable pub next_row : List ℕ → ℕ → ℕ → ℕ → ℕ
next_row rows tracked high i = cond (ltb i tracked) (get_or rows i 0) high

-- whether a row is the one at the place
unfoldable pub at_row : List ℕ → ℕ → ℕ → ℕ → Bool
at_row rows tracked row i = ltb i tracked && eqb (get_or rows i 0) row

-- a row's estimate, where the place is the first whose row is not below it
unfoldable pub estimate_at : List ℕ → List ℕ → ℕ → ℕ → ℕ → ℕ → ℕ
estimate_at rows counts tracked spillover row i = cond (at_row rows tracked row i) (get_or counts i 0) spillover

-- the place behind that row
unfoldable pub place_after : List ℕ → ℕ → ℕ → ℕ → ℕ
place_after rows tracked row i = cond (at_row rows tracked row i) (i + 1) i
