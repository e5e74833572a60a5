-- A closer figure for each row: what it may carry from the window before is little where its regular block comes late in a window.
use Rattle.std.specs.Prelude.{ℕ, ◌+◌, ◌-◌, ◌*◌, ◌/◌, ◌%◌, ◌≤◌, ◌<◌, min, cond, ltb}
use Rattle.device.specs.declared.Settings.{Settings}
use Rattle.bound.specs.Totals.{disturbers, bound_at, bound_of}
use Rattle.limit.specs.Exact.{Exact}

-- 'b for the event whose block holds the row', a physical one
unfoldable pub own_event : Settings → ℕ → ℕ
own_event s row = row / s.block

-- the first figure: 'H(e + 1)', at e events into a window
unfoldable pub first_figure : Settings → ℕ → ℕ
first_figure s e = bound_at s (e + 1)

-- 'the smaller of H(n) and T' × (n − 1 − b)': what a row may carry from the window before
unfoldable pub carried_most : Settings → ℕ → ℕ
carried_most s row = min (bound_of s) (disturbers s * (s.window - 1 - own_event s row))

-- the second: 'H(e + 1) plus' that
unfoldable pub second_figure : Settings → ℕ → ℕ → ℕ
second_figure s e row = first_figure s e + carried_most s row

-- a row's figure: 'the first figure where e is above b, else the second, without regard to which window it is'
unfoldable pub row_figure : Settings → ℕ → ℕ → ℕ
row_figure s e row = cond (ltb (own_event s row) e) (first_figure s e) (second_figure s e row)

-- what a row's disturbance 'never exceeds', 'at e events into a window'; e is the remainder of f by n
pub record RowLimited (s : Settings) (x : Exact) (row : ℕ) : Type 0 where
  -- 'if the present window is the first'
  pub in_first : x.refreshes < s.window → x.disturbance row ≤ first_figure s (x.refreshes % s.window)
  -- 'or has passed event b (e above b)'
  pub passed : own_event s row < x.refreshes % s.window → x.disturbance row ≤ first_figure s (x.refreshes % s.window)
  -- 'otherwise'; where one of those holds it follows from it
  pub otherwise : x.disturbance row ≤ second_figure s (x.refreshes % s.window) row
