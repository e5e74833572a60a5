-- Figures of single rows: what follows by hand from document 02, and what the definitions give.
use Rattle.std.specs.Prelude.{ℕ, List, [], ◌∷◌, ◌++◌}
use Rattle.device.specs.declared.Settings.{Settings}
use Rattle.device.specs.Remap.{own_remap}
use Rattle.bound.specs.Answers.{settings_of}
use Rattle.rowlimit.specs.Answers.{row_limit_answer, position_of as at_position}
use Rattle.figures.specs.Table.{Figure, shown, numbers, traced}
use Rattle.figures.specs.Remaps.{identity, reverse, doubled}

-- the call for a logical row under a remap, at a position: e, a, 'number of tracked rows', 'spill'
unfoldable pub row_figure_at : Settings → List ℕ → ℕ → ℕ → ℕ → ℕ → ℕ → List ℕ → Figure
row_figure_at s remap row e a tracked spillover given =
    shown given (numbers (row_limit_answer s remap row (at_position e a tracked spillover)))

-- accepted, right behind an event and with nothing tracked
unfoldable pub row_figure_under : List ℕ → Settings → ℕ → ℕ → ℕ → Figure
row_figure_under remap s row e figure = row_figure_at s remap row e 0 0 0 (0 ∷ figure ∷ [])

-- at the four events of the trace's settings, for which H(1) to H(4) are 9, 18, 24 and 30, and T' is 9
unfoldable pub at_four : List ℕ → ℕ → ℕ → ℕ → ℕ → ℕ → List Figure
at_four remap row f0 f1 f2 f3 =
    row_figure_under remap traced row 0 f0 ∷
    row_figure_under remap traced row 1 f1 ∷
    row_figure_under remap traced row 2 f2 ∷
    row_figure_under remap traced row 3 f3 ∷ []

-- rows of each block, by their physical row: row 11 is physical row 10, and 15 is 14, whose block is the last; under the reverse row 5 is physical row 10,
-- and row 0 is 15
unfoldable pub by_block : List Figure
by_block =
    at_four own_remap 0 36 18 24 30 ++
    at_four own_remap 5 27 36 24 30 ++
    at_four own_remap 11 18 27 33 30 ++
    at_four own_remap 15 9 18 24 30 ++
    at_four reverse 5 18 27 33 30 ++
    at_four reverse 0 9 18 24 30

-- with 8 events and P = 2, T' is 7 and H(8) 42: of row 0 H(8) is the smaller, of physical row 3 both are equal, of row 4 T' × (n − 1 − b) is. With 8 events
-- and P = 4 the last four blocks are empty. A window of one event. Logical row 15 in blocks of one row and of 5, of which the last is cut at N, under three
-- remaps
unfoldable pub by_window : List Figure
by_window =
    row_figure_under own_remap (settings_of 16 2 1 2 4 8 2) 0 0 49 ∷
    row_figure_under own_remap (settings_of 16 2 1 2 4 8 2) 2 0 49 ∷
    row_figure_under own_remap (settings_of 16 2 1 2 4 8 2) 4 0 42 ∷
    row_figure_under own_remap (settings_of 16 2 1 2 4 8 4) 15 0 45 ∷
    row_figure_under own_remap (settings_of 16 2 1 2 4 8 4) 15 3 66 ∷
    row_figure_under own_remap (settings_of 16 2 1 2 4 8 4) 15 4 36 ∷
    row_figure_under own_remap (settings_of 16 2 1 1 1 1 16) 0 0 18 ∷
    row_figure_under own_remap (settings_of 16 2 1 2 4 16 1) 15 0 12 ∷
    row_figure_under identity (settings_of 16 2 1 2 4 16 1) 15 0 6 ∷
    row_figure_under own_remap (settings_of 16 2 1 2 4 4 5) 15 2 36 ∷
    row_figure_under identity (settings_of 16 2 1 2 4 4 5) 15 2 26 ∷
    row_figure_under reverse (settings_of 16 2 1 2 4 4 5) 15 0 40 ∷ []

-- 65,536 rows with H = 6,185: the last block's row at the window's ends, and rows of other blocks. 262,144 rows in blocks of which half are empty: the last
-- row at its own event and behind it, and a row of which H(n) and T' × (n − 1 − b) are the same
unfoldable pub by_large_window : List Figure
by_large_window =
    let s = settings_of 65536 2 1 677 166 8192 8 in
    let large = settings_of 262144 2 1 2 4 8192 64 in
    row_figure_under own_remap s 65535 0 175 ∷
    row_figure_under own_remap s 65535 8190 6184 ∷
    row_figure_under own_remap s 65535 8191 6185 ∷
    row_figure_under own_remap s 0 0 6360 ∷
    row_figure_under own_remap s 65500 0 875 ∷
    row_figure_under own_remap s 65000 100 7827 ∷
    row_figure_under own_remap large 262143 4095 471086 ∷
    row_figure_under own_remap large 262143 4096 188508 ∷
    row_figure_under own_remap large 174656 0 376947 ∷ []

-- refusals, 'the settings' .., 9, 14, and 21 for the position alone' in this order; the position at its limits and one above each; the tracked rows' limit is C
-- also where C is above N
unfoldable pub by_refusal : List Figure
by_refusal =
    row_figure_at (settings_of 16 2 1 2 4 4 3) doubled 16 4 0 0 0 (7 ∷ []) ∷
    row_figure_at traced doubled 16 4 0 0 0 (9 ∷ []) ∷
    row_figure_at traced own_remap 16 0 0 0 0 (9 ∷ []) ∷
    row_figure_at traced doubled 15 4 0 0 0 (14 ∷ []) ∷
    row_figure_at traced doubled 15 0 0 0 0 (14 ∷ []) ∷
    row_figure_at traced own_remap 15 3 4 2 2000000000 (0 ∷ 30 ∷ []) ∷
    row_figure_at traced own_remap 15 4 0 0 0 (21 ∷ []) ∷
    row_figure_at traced own_remap 15 3 5 0 0 (21 ∷ []) ∷
    row_figure_at traced own_remap 15 3 0 3 0 (21 ∷ []) ∷
    row_figure_at traced own_remap 15 3 0 0 2000000001 (21 ∷ []) ∷
    row_figure_at (settings_of 16 2 1 20 4 4 4) own_remap 15 0 0 20 0 (0 ∷ 9 ∷ []) ∷
    row_figure_at (settings_of 16 2 1 20 4 4 4) own_remap 15 0 0 21 0 (21 ∷ []) ∷ []

unfoldable pub by_row : List Figure
by_row = by_block ++ by_window ++ by_large_window ++ by_refusal
