-- Figures of rows held open: calls with holds accepted and refused, a trace with `H` lines, and the writer. What follows by hand from document 02, and what
-- the definitions give.
use Rattle.std.specs.Prelude.{ℕ, List, [], ◌∷◌, ◌++◌}
use Rattle.device.specs.declared.Settings.{Settings}
use Rattle.device.specs.Remap.{own_remap}
use Rattle.state.specs.State.{State}
use Rattle.bound.specs.Answers.{settings_of}
use Rattle.trace.specs.Texts.{outcomes}
use Rattle.canonical.specs.Spelling.{spelling}
use Rattle.steps.specs.Steps.{start}
use Rattle.listing.specs.Texts.{listing}
use Rattle.figures.specs.Table.{Figure, shown}
use Rattle.figures.specs.Edges.{small, two_places, untracked, held_under}
use Rattle.figures.specs.Spellings.{set, held, row, set_16, writing_figure, refused_figure}
use Rattle.figures.specs.Remaps.{doubled}

-- the settings 16 2 1 2 20 4 4, whose T has room for the longest hold
unfoldable pub longer : Settings
longer = settings_of 16 2 1 2 20 4 4

-- an activation with our own remap and a hold
unfoldable pub held_figure : Settings → State → ℕ → ℕ → List ℕ → Figure
held_figure s st logical hold given = held_under own_remap s st logical hold given

-- each unit does what an activation does, and a hold uses as many of T; 'a past T' is refused whole. 15 comes after 9 and before 14, 21 and 22. Units may
-- carry counts past 2,000,000,000, and the next call gets 21
unfoldable pub hold_calls : List Figure
hold_calls =
    held_figure (small 2 1) (untracked 0 0) 5 1 (0 ∷ 4 ∷ 6 ∷ 1 ∷ 1 ∷ 0 ∷ 1 ∷ 2 ∷ 0 ∷ []) ∷
    held_figure (small 2 1) (untracked 0 0) 5 2 (0 ∷ 4 ∷ 6 ∷ 2 ∷ 2 ∷ 0 ∷ 2 ∷ 2 ∷ 0 ∷ []) ∷
    held_figure (small 2 1) (untracked 0 0) 5 4 (0 ∷ 4 ∷ 6 ∷ 4 ∷ 4 ∷ 0 ∷ 4 ∷ 2 ∷ 0 ∷ []) ∷
    held_figure (small 2 1) (untracked 0 0) 5 5 (22 ∷ 0 ∷ 0 ∷ 0 ∷ 0 ∷ 0 ∷ 0 ∷ 0 ∷ 0 ∷ []) ∷
    held_figure (small 2 1) (untracked 0 3) 5 2 (22 ∷ 0 ∷ 0 ∷ 0 ∷ 0 ∷ 0 ∷ 3 ∷ 0 ∷ 0 ∷ []) ∷
    held_figure (small 2 1) (two_places 4 5 3 2 0 0 2) 5 2 (0 ∷ 4 ∷ 6 ∷ 5 ∷ 2 ∷ 0 ∷ 2 ∷ 2 ∷ 0 ∷ []) ∷
    held_figure (small 4 1) (untracked 0 0) 5 2 (0 ∷ 6 ∷ 7 ∷ 3 ∷ 3 ∷ 0 ∷ 2 ∷ 2 ∷ 2 ∷ []) ∷
    held_figure longer (untracked 0 0) 5 16 (0 ∷ 4 ∷ 6 ∷ 16 ∷ 16 ∷ 0 ∷ 16 ∷ 2 ∷ 0 ∷ []) ∷
    held_figure longer (untracked 0 4) 5 16 (0 ∷ 4 ∷ 6 ∷ 16 ∷ 16 ∷ 0 ∷ 20 ∷ 2 ∷ 0 ∷ []) ∷
    held_figure longer (untracked 0 5) 5 16 (22 ∷ 0 ∷ 0 ∷ 0 ∷ 0 ∷ 0 ∷ 5 ∷ 0 ∷ 0 ∷ []) ∷
    held_figure longer (untracked 0 0) 5 17 (15 ∷ 0 ∷ 0 ∷ 0 ∷ 0 ∷ 0 ∷ 0 ∷ 0 ∷ 0 ∷ []) ∷
    held_figure longer (untracked 0 0) 5 0 (15 ∷ 0 ∷ 0 ∷ 0 ∷ 0 ∷ 0 ∷ 0 ∷ 0 ∷ 0 ∷ []) ∷
    held_figure longer (untracked 0 0) 5 999999 (15 ∷ 0 ∷ 0 ∷ 0 ∷ 0 ∷ 0 ∷ 0 ∷ 0 ∷ 0 ∷ []) ∷
    held_figure longer (untracked 0 0) 16 17 (9 ∷ 0 ∷ 0 ∷ 0 ∷ 0 ∷ 0 ∷ 0 ∷ 0 ∷ 0 ∷ []) ∷
    held_under doubled longer (untracked 0 0) 5 17 (15 ∷ 0 ∷ 0 ∷ 0 ∷ 0 ∷ 0 ∷ 0 ∷ 0 ∷ 0 ∷ []) ∷
    held_figure longer (untracked 4 0) 5 0 (15 ∷ 0 ∷ 0 ∷ 0 ∷ 0 ∷ 4 ∷ 0 ∷ 0 ∷ 0 ∷ []) ∷
    held_figure longer (untracked 0 21) 5 2 (21 ∷ 0 ∷ 0 ∷ 0 ∷ 0 ∷ 0 ∷ 21 ∷ 0 ∷ 0 ∷ []) ∷
    held_figure longer (untracked 0 20) 5 17 (15 ∷ 0 ∷ 0 ∷ 0 ∷ 0 ∷ 0 ∷ 20 ∷ 0 ∷ 0 ∷ []) ∷
    held_figure (small 2 1) (two_places 4 6 2000000000 2000000000 0 0 2) 5 2 (0 ∷ 4 ∷ 6 ∷ 2000000002 ∷ 2000000002 ∷ 0 ∷ 2 ∷ 2 ∷ 0 ∷ []) ∷
    held_figure (small 2 1) (two_places 4 6 2000000002 2000000002 0 2 2) 5 1 (21 ∷ 4 ∷ 6 ∷ 2000000002 ∷ 2000000002 ∷ 0 ∷ 2 ∷ 2 ∷ 0 ∷ []) ∷ []

-- a trace, a line to a row: row 12 before any settings, settings with T = 8, row 5 twice, as `A` and as `H` with a hold of 1, row 12 for 3 units; row 16 for 17, row 5
-- for 17, for 0 and for 4, of which 3 would fit; row 12 for those 3, row 5 once more, an event; row 5 for a whole interval, an event
unfoldable pub holds_input : List ℕ
holds_input =
    72 ∷ 32 ∷ 32 ∷ 32 ∷ 32 ∷ 49 ∷ 50 ∷ 32 ∷ 32 ∷ 32 ∷ 32 ∷ 32 ∷ 51 ∷ 10 ∷
    83 ∷ 32 ∷ 32 ∷ 32 ∷ 32 ∷ 49 ∷ 54 ∷ 32 ∷ 32 ∷ 32 ∷ 32 ∷ 32 ∷ 50 ∷ 32 ∷ 32 ∷ 32 ∷ 32 ∷ 32 ∷ 49 ∷ 32 ∷ 32 ∷ 32 ∷ 32 ∷ 32 ∷ 52 ∷ 32 ∷ 32 ∷ 32 ∷ 32 ∷ 32 ∷ 56 ∷ 32 ∷ 32 ∷ 32 ∷ 32 ∷ 32 ∷ 52 ∷ 32 ∷ 32 ∷ 32 ∷ 32 ∷ 32 ∷ 52 ∷ 10 ∷
    65 ∷ 32 ∷ 32 ∷ 32 ∷ 32 ∷ 32 ∷ 53 ∷ 10 ∷
    72 ∷ 32 ∷ 32 ∷ 32 ∷ 32 ∷ 32 ∷ 53 ∷ 32 ∷ 32 ∷ 32 ∷ 32 ∷ 32 ∷ 49 ∷ 10 ∷
    72 ∷ 32 ∷ 32 ∷ 32 ∷ 32 ∷ 49 ∷ 50 ∷ 32 ∷ 32 ∷ 32 ∷ 32 ∷ 32 ∷ 51 ∷ 10 ∷
    72 ∷ 32 ∷ 32 ∷ 32 ∷ 32 ∷ 49 ∷ 54 ∷ 32 ∷ 32 ∷ 32 ∷ 32 ∷ 49 ∷ 55 ∷ 10 ∷
    72 ∷ 32 ∷ 32 ∷ 32 ∷ 32 ∷ 32 ∷ 53 ∷ 32 ∷ 32 ∷ 32 ∷ 32 ∷ 49 ∷ 55 ∷ 10 ∷
    72 ∷ 32 ∷ 32 ∷ 32 ∷ 32 ∷ 32 ∷ 53 ∷ 32 ∷ 32 ∷ 32 ∷ 32 ∷ 32 ∷ 48 ∷ 10 ∷
    72 ∷ 32 ∷ 32 ∷ 32 ∷ 32 ∷ 32 ∷ 53 ∷ 32 ∷ 32 ∷ 32 ∷ 32 ∷ 32 ∷ 52 ∷ 10 ∷
    72 ∷ 32 ∷ 32 ∷ 32 ∷ 32 ∷ 49 ∷ 50 ∷ 32 ∷ 32 ∷ 32 ∷ 32 ∷ 32 ∷ 51 ∷ 10 ∷
    65 ∷ 32 ∷ 32 ∷ 32 ∷ 32 ∷ 32 ∷ 53 ∷ 10 ∷
    82 ∷ 10 ∷
    72 ∷ 32 ∷ 32 ∷ 32 ∷ 32 ∷ 32 ∷ 53 ∷ 32 ∷ 32 ∷ 32 ∷ 32 ∷ 32 ∷ 56 ∷ 10 ∷
    82 ∷ 10 ∷ []

-- its output: `X` with 11, 9, 15, 15, 22 and 22, and the events pick rows 11 and 4
unfoldable pub holds_output : List ℕ
holds_output =
    88 ∷ 32 ∷ 32 ∷ 32 ∷ 32 ∷ 32 ∷ 32 ∷ 32 ∷ 32 ∷ 32 ∷ 49 ∷ 32 ∷ 32 ∷ 32 ∷ 32 ∷ 49 ∷ 49 ∷ 10 ∷
    66 ∷ 32 ∷ 32 ∷ 32 ∷ 32 ∷ 32 ∷ 32 ∷ 32 ∷ 32 ∷ 52 ∷ 49 ∷ 32 ∷ 32 ∷ 32 ∷ 32 ∷ 32 ∷ 32 ∷ 32 ∷ 32 ∷ 56 ∷ 50 ∷ 10 ∷
    88 ∷ 32 ∷ 32 ∷ 32 ∷ 32 ∷ 32 ∷ 32 ∷ 32 ∷ 32 ∷ 32 ∷ 54 ∷ 32 ∷ 32 ∷ 32 ∷ 32 ∷ 32 ∷ 57 ∷ 10 ∷
    88 ∷ 32 ∷ 32 ∷ 32 ∷ 32 ∷ 32 ∷ 32 ∷ 32 ∷ 32 ∷ 32 ∷ 55 ∷ 32 ∷ 32 ∷ 32 ∷ 32 ∷ 49 ∷ 53 ∷ 10 ∷
    88 ∷ 32 ∷ 32 ∷ 32 ∷ 32 ∷ 32 ∷ 32 ∷ 32 ∷ 32 ∷ 32 ∷ 56 ∷ 32 ∷ 32 ∷ 32 ∷ 32 ∷ 49 ∷ 53 ∷ 10 ∷
    88 ∷ 32 ∷ 32 ∷ 32 ∷ 32 ∷ 32 ∷ 32 ∷ 32 ∷ 32 ∷ 32 ∷ 57 ∷ 32 ∷ 32 ∷ 32 ∷ 32 ∷ 50 ∷ 50 ∷ 10 ∷
    88 ∷ 32 ∷ 32 ∷ 32 ∷ 32 ∷ 32 ∷ 32 ∷ 32 ∷ 32 ∷ 49 ∷ 49 ∷ 32 ∷ 32 ∷ 32 ∷ 32 ∷ 50 ∷ 50 ∷ 10 ∷
    82 ∷ 32 ∷ 32 ∷ 32 ∷ 32 ∷ 32 ∷ 48 ∷ 32 ∷ 32 ∷ 32 ∷ 32 ∷ 32 ∷ 49 ∷ 32 ∷ 32 ∷ 32 ∷ 32 ∷ 49 ∷ 49 ∷ 10 ∷
    82 ∷ 32 ∷ 32 ∷ 32 ∷ 32 ∷ 32 ∷ 49 ∷ 32 ∷ 32 ∷ 32 ∷ 32 ∷ 32 ∷ 49 ∷ 32 ∷ 32 ∷ 32 ∷ 32 ∷ 32 ∷ 52 ∷ 10 ∷ []

-- settings and rows 5 and 2 held for 2 units and for 1, with leading zeros, and their spelling
unfoldable pub held_input : List ℕ
held_input =
    83 ∷ 32 ∷ 32 ∷ 32 ∷ 32 ∷ 49 ∷ 54 ∷ 32 ∷ 32 ∷ 32 ∷ 32 ∷ 32 ∷ 50 ∷ 32 ∷ 32 ∷ 32 ∷ 32 ∷ 32 ∷ 49 ∷ 32 ∷ 32 ∷ 32 ∷ 32 ∷ 32 ∷ 50 ∷ 32 ∷ 32 ∷ 32 ∷ 32 ∷ 32 ∷ 52 ∷ 32 ∷ 32 ∷ 32 ∷ 32 ∷ 32 ∷ 52 ∷ 32 ∷ 32 ∷ 32 ∷ 32 ∷ 32 ∷ 52 ∷ 10 ∷
    72 ∷ 48 ∷ 48 ∷ 48 ∷ 48 ∷ 48 ∷ 53 ∷ 48 ∷ 48 ∷ 48 ∷ 48 ∷ 48 ∷ 50 ∷ 10 ∷
    72 ∷ 32 ∷ 32 ∷ 32 ∷ 32 ∷ 32 ∷ 50 ∷ 48 ∷ 48 ∷ 48 ∷ 48 ∷ 48 ∷ 49 ∷ 10 ∷ []

unfoldable pub held_output : List ℕ
held_output =
    83 ∷ 32 ∷ 32 ∷ 32 ∷ 32 ∷ 49 ∷ 54 ∷ 32 ∷ 32 ∷ 32 ∷ 32 ∷ 32 ∷ 50 ∷ 32 ∷ 32 ∷ 32 ∷ 32 ∷ 32 ∷ 49 ∷ 32 ∷ 32 ∷ 32 ∷ 32 ∷ 32 ∷ 50 ∷ 32 ∷ 32 ∷ 32 ∷ 32 ∷ 32 ∷ 52 ∷ 32 ∷ 32 ∷ 32 ∷ 32 ∷ 32 ∷ 52 ∷ 32 ∷ 32 ∷ 32 ∷ 32 ∷ 32 ∷ 52 ∷ 10 ∷
    72 ∷ 32 ∷ 32 ∷ 32 ∷ 32 ∷ 32 ∷ 53 ∷ 32 ∷ 32 ∷ 32 ∷ 32 ∷ 32 ∷ 50 ∷ 10 ∷
    65 ∷ 32 ∷ 32 ∷ 32 ∷ 32 ∷ 32 ∷ 50 ∷ 10 ∷ []

-- 'which the writer spells `A`'; 15 'right after 9', and before 13
unfoldable pub hold_writing : List Figure
hold_writing =
    shown held_output (spelling (outcomes held_input)) ∷
    writing_figure (set 16 ∷ held 5 2 ∷ []) 58 (0 ∷ 58 ∷ []) (set_16 ++ 72 ∷ 32 ∷ 32 ∷ 32 ∷ 32 ∷ 32 ∷ 53 ∷ 32 ∷ 32 ∷ 32 ∷ 32 ∷ 32 ∷ 50 ∷ 10 ∷ []) ∷
    writing_figure (set 16 ∷ held 5 16 ∷ []) 59 (0 ∷ 58 ∷ []) (set_16 ++ 72 ∷ 32 ∷ 32 ∷ 32 ∷ 32 ∷ 32 ∷ 53 ∷ 32 ∷ 32 ∷ 32 ∷ 32 ∷ 49 ∷ 54 ∷ 10 ∷ 7 ∷ []) ∷
    refused_figure (set 16 ∷ held 5 2 ∷ []) 57 13 ∷
    refused_figure (set 16 ∷ held 5 0 ∷ []) 2 15 ∷
    refused_figure (set 16 ∷ held 5 17 ∷ row 16 ∷ []) 2 15 ∷
    refused_figure (set 16 ∷ held 16 17 ∷ []) 2 9 ∷
    refused_figure (held 5 17 ∷ []) 2 11 ∷ []

unfoldable pub holds : List Figure
holds = hold_calls ++ shown holds_output (listing start holds_input) ∷ hold_writing
