-- A row's figure as a call: its tests in their order, and its answer.
use Rattle.std.specs.Prelude.{ℕ, List, [], ◌∷◌, ◌++◌, ltb}
use Rattle.device.specs.declared.Settings.{Settings}
use Rattle.device.specs.Refusal.{Test, unless, first_failed, Outcome, accepted, tested}
use Rattle.device.specs.Acceptance.{settings_tests}
use Rattle.device.specs.Remap.{remap_allowed, physical}
use Rattle.state.specs.declared.Position.{Position}
use Rattle.state.specs.State.{position_allowed}
use Rattle.limit.specs.ByRow.{row_figure}

-- 'the settings' refusals, 9, 14, and 21 for the position alone'
unfoldable pub row_limit_tests : Settings → List ℕ → ℕ → Position → List Test
row_limit_tests s remap row p =
    settings_tests s ++
    unless (ltb row s.rows) 9 ∷
    unless (remap_allowed remap) 14 ∷
    unless (position_allowed s p) 21 ∷ []

-- 'a call that takes a bus row, the fold and a position' and gives the figure of the row that they name, else the refusal
unfoldable pub row_limit_answer : Settings → List ℕ → ℕ → Position → Outcome ℕ
row_limit_answer s remap row p =
    tested (first_failed (row_limit_tests s remap row p)) (accepted (row_figure s p.events (physical remap row)))

-- the position as numbers, in their order
unfoldable pub position_of : ℕ → ℕ → ℕ → ℕ → Position
position_of events activations tracked spillover =
    record { events = events; activations = activations; tracked = tracked; spillover = spillover }
