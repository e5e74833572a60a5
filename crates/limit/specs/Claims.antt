-- What is claimed of every list of calls after an accepted setting up, and of every sequence of answers: each is proved in proofs/Claims.antt under
-- the same name.
use Rattle.std.specs.Prelude.{ℕ, ◌+◌, ◌*◌, ◌%◌, ◌≤◌, ◌<◌, ◌≡◌, true, cond, eqb}
use mathlib.Core.List.{List, [], ◌∷◌, Memᴰ}
use Rattle.device.specs.declared.Settings.{Settings}
use Rattle.device.specs.Refusal.{first_failed}
use Rattle.device.specs.Acceptance.{settings_tests}
use Rattle.device.specs.Remap.{physical}
use Rattle.bound.specs.Totals.{bound_at, bound_of}
use Rattle.summary.specs.Steps.{estimate}
use Rattle.state.specs.State.{State, summary_of}
use Rattle.tracker.specs.Calls.{victims_in, block_rows, activation_on, refresh_on}
use Rattle.limit.specs.Exact.{Happened, activated, Exact, one_more, after, exact}
use Rattle.limit.specs.Example.{held_by, sixteen_rows, up_to_line_4, up_to_line_5}
use Rattle.limit.specs.Present.{present}
use Rattle.limit.specs.Run.{Command, Begun, state_after, happened}
use Rattle.limit.specs.Answered.{Answered}
use Rattle.limit.specs.ByRow.{own_event, first_figure, row_figure, RowLimited}

-- 'The limit on disturbance', demand 3, 'a single statement about the whole list': after it, every row's number is at most 2 × H, and at most H
-- 'while the first window lasts' (f below n)
unfoldable pub Demand3 : Type 0
Demand3 =
    (s : Settings) (st : State) → Begun s st → (calls : List Command) (row : ℕ) → row < s.rows →
    ((exact s (happened s calls st)).disturbance row ≤ 2 * bound_of s) ×
    ((exact s (happened s calls st)).refreshes < s.window → (exact s (happened s calls st)).disturbance row ≤ bound_of s)

-- demand 3 of the library: after any sequence of answers that meet their contracts, the same
unfoldable pub Demand3OfAnswers : Type 0
Demand3OfAnswers =
    (s : Settings) (st : State) (told : List Happened) → Answered s st told → (row : ℕ) → row < s.rows →
    ((exact s told).disturbance row ≤ 2 * bound_of s) ×
    ((exact s told).refreshes < s.window → (exact s told).disturbance row ≤ bound_of s)

-- 'true disturbance counts units': to the counter an accepted activation of h + k units is one of h and then one of k, and one unit sets the row to 0 and
-- adds 1 at each of its victims
unfoldable pub UnitsCounted : Type 0
UnitsCounted =
    (s : Settings) (remap : List ℕ) (row : ℕ) (x : Exact) →
    ((h k : ℕ) → after s (activated remap row (h + k) true) x ≡ after s (activated remap row k true) (after s (activated remap row h true) x)) ×
    ((v : ℕ) → (after s (activated remap row 1 true) x).disturbance v ≡
    one_more (victims_in s (physical remap row)) (λ w. cond (eqb (physical remap row) w) 0 (x.disturbance w)) v)

-- what the counter holds after lines 4 and 5 of document 01's trace, worked out by hand: f and each row's number. Rows 5 and 3 (logical row 2) are
-- activated; the event refreshes row 4, which it named, and rows 0 to 3
unfoldable pub ExampleCounted : Type 0
ExampleCounted =
    (held_by sixteen_rows (exact sixteen_rows up_to_line_4) ≡ 0 ∷ 0 ∷ 0 ∷ 1 ∷ 0 ∷ 3 ∷ 0 ∷ 2 ∷ 0 ∷ 0 ∷ 0 ∷ 0 ∷ 0 ∷ 0 ∷ 0 ∷ 0 ∷ 0 ∷ []) ×
    (held_by sixteen_rows (exact sixteen_rows up_to_line_5) ≡ 1 ∷ 1 ∷ 2 ∷ 2 ∷ 2 ∷ 1 ∷ 1 ∷ 2 ∷ 0 ∷ 0 ∷ 0 ∷ 0 ∷ 0 ∷ 0 ∷ 0 ∷ 0 ∷ 0 ∷ [])

-- no call is refused with 21
unfoldable pub Never21 : Type 0
Never21 =
    (s : Settings) (st : State) → Begun s st → (calls : List Command) →
    ((remap : List ℕ) (row hold : ℕ) → (activation_on s remap (state_after s calls st) row hold).refusal ≡ 21 → ⊥) ×
    ((picks : List ℕ) → (refresh_on s (state_after s calls st) picks).refusal ≡ 21 → ⊥)

-- the position's e, 'events so far in this window', is 'the remainder of f by n'
unfoldable pub EventsModulo : Type 0
EventsModulo =
    (s : Settings) (st : State) → Begun s st → (calls : List Command) →
    (state_after s calls st).position.events ≡ (exact s (happened s calls st)).refreshes % s.window

-- every row's disturbance in the present window is at most its 'estimate'
unfoldable pub Estimated : Type 0
Estimated =
    (s : Settings) (st : State) → Begun s st → (calls : List Command) (row : ℕ) →
    (present s (happened s calls st)).disturbance row ≤ estimate (summary_of (state_after s calls st)) row

-- and at most H(e + 1), 'the bound H' with e + 1 in place of n
unfoldable pub WindowFigure : Type 0
WindowFigure =
    (s : Settings) (st : State) → Begun s st → (calls : List Command) (row : ℕ) →
    (present s (happened s calls st)).disturbance row ≤ bound_at s ((state_after s calls st).position.events + 1)

-- b is an event of the window, its block holds the row, and no other event's does
unfoldable pub OwnBlock : Type 0
OwnBlock =
    (s : Settings) → first_failed (settings_tests s) ≡ 0 → (row : ℕ) → row < s.rows →
    (own_event s row < s.window) × Memᴰ row (block_rows s (own_event s row)) ×
    ((e : ℕ) → Memᴰ row (block_rows s e) → e ≡ own_event s row)

-- 'a closer figure for each row': after every list of calls no row's disturbance exceeds its figures
unfoldable pub RowLimit : Type 0
RowLimit =
    (s : Settings) (st : State) → Begun s st → (calls : List Command) (row : ℕ) → row < s.rows →
    RowLimited s (exact s (happened s calls st)) row

-- the same of the library, after any sequence of answers that meet their contracts
unfoldable pub RowLimitOfAnswers : Type 0
RowLimitOfAnswers =
    (s : Settings) (st : State) (told : List Happened) → Answered s st told → (row : ℕ) → row < s.rows →
    RowLimited s (exact s told) row

-- nor does it exceed the one that the position's own e gives, 'without regard to which window it is'
unfoldable pub RowFigureLimits : Type 0
RowFigureLimits =
    (s : Settings) (st : State) → Begun s st → (calls : List Command) (row : ℕ) → row < s.rows →
    (exact s (happened s calls st)).disturbance row ≤ row_figure s (state_after s calls st).position.events row

-- no row's figure is above 2 × H, and the first is at most H
unfoldable pub FiguresCloser : Type 0
FiguresCloser =
    (s : Settings) (e row : ℕ) → e < s.window → (first_figure s e ≤ bound_of s) × (row_figure s e row ≤ 2 * bound_of s)
