-- Figures of the exact disturbance ('true disturbance'), of departures, and of the silicon behind a listing: what follows by hand from documents 01 and 02, and
-- what the definitions give. tests/limit/disturbance.figures has the same in the same order, with each worked out, and the plain model's counter plays them.
use Rattle.std.specs.Prelude.{ℕ, true, false, List, [], ◌∷◌, ◌++◌, take, drop}
use Rattle.std.proofs.Math.Option.{Option, none, some}
use Rattle.device.specs.declared.Settings.{Settings}
use Rattle.device.specs.Remap.{own_remap}
use Rattle.bound.specs.Answers.{settings_of}
use Rattle.limit.specs.Exact.{Happened, activated, refreshed, exact}
use Rattle.limit.specs.Example.{numbers_from, held_by, up_to_line_4, up_to_line_5}
use Rattle.limit.specs.Run.{Command, activation_of, refresh_into, happened}
use Rattle.checker.specs.Departure.{departure}
use Rattle.silicon.specs.Silicon.{Silicon, silicon_after}
use Rattle.figures.specs.Table.{Figure, shown, begun, traced, calls_to_4, trace_input, trace_output}
use Rattle.figures.specs.Edges.{small, wide, large}
use Rattle.figures.specs.Remaps.{identity, reverse, rotated, loaded_input, loaded_output}
use Rattle.figures.specs.Holds.{longer, holds_input, holds_output}

-- what the counter holds after what it was told: f, and the number of each row
unfoldable pub counted : Settings → List Happened → List ℕ → Figure
counted s told given = shown given (held_by s (exact s told))

-- of a large bank: the numbers of so many rows, from a row on
unfoldable pub counted_from : Settings → List Happened → ℕ → ℕ → List ℕ → Figure
counted_from s told row many given = shown given (numbers_from (exact s told) many row)

-- after calls on a tracker that was set up
unfoldable pub counted_behind : Settings → List Command → List ℕ → Figure
counted_behind s calls given = counted s (happened s calls (begun s)) given

-- an accepted activation of a 'bus row' under our own remap, for so many units and for one
unfoldable pub held : ℕ → ℕ → Happened
held row units = activated own_remap row units true

unfoldable pub one : ℕ → Happened
one row = held row 1

-- an accepted event that named these rows
unfoldable pub naming : List ℕ → Happened
naming rows = refreshed true rows

-- nothing yet; the trace after line 4 and after line 6, which is refused; its event with a row of the block named, which counts once, and with row 6 named
-- twice; two named rows that disturb each other; a second event, which names no row
unfoldable pub event_counts : List Figure
event_counts =
    counted traced [] (0 ∷ 0 ∷ 0 ∷ 0 ∷ 0 ∷ 0 ∷ 0 ∷ 0 ∷ 0 ∷ 0 ∷ 0 ∷ 0 ∷ 0 ∷ 0 ∷ 0 ∷ 0 ∷ 0 ∷ []) ∷
    counted_behind traced calls_to_4 (0 ∷ 0 ∷ 0 ∷ 1 ∷ 0 ∷ 3 ∷ 0 ∷ 2 ∷ 0 ∷ 0 ∷ 0 ∷ 0 ∷ 0 ∷ 0 ∷ 0 ∷ 0 ∷ 0 ∷ []) ∷
    counted_behind traced (calls_to_4 ++ refresh_into (9 ∷ 9 ∷ 9 ∷ []) ∷ activation_of own_remap 16 1 ∷ []) (1 ∷ 1 ∷ 2 ∷ 2 ∷ 2 ∷ 1 ∷ 1 ∷ 2 ∷ 0 ∷ 0 ∷ 0 ∷ 0 ∷ 0 ∷ 0 ∷ 0 ∷ 0 ∷ 0 ∷ []) ∷
    counted traced (up_to_line_4 ++ naming (2 ∷ []) ∷ []) (1 ∷ 1 ∷ 2 ∷ 2 ∷ 1 ∷ 4 ∷ 0 ∷ 2 ∷ 0 ∷ 0 ∷ 0 ∷ 0 ∷ 0 ∷ 0 ∷ 0 ∷ 0 ∷ 0 ∷ []) ∷
    counted (small 2 2) (up_to_line_4 ++ naming (6 ∷ 6 ∷ []) ∷ []) (1 ∷ 1 ∷ 2 ∷ 2 ∷ 1 ∷ 4 ∷ 1 ∷ 0 ∷ 1 ∷ 0 ∷ 0 ∷ 0 ∷ 0 ∷ 0 ∷ 0 ∷ 0 ∷ 0 ∷ []) ∷
    counted (small 2 2) (one 8 ∷ one 9 ∷ naming (9 ∷ 8 ∷ []) ∷ []) (1 ∷ 1 ∷ 2 ∷ 2 ∷ 1 ∷ 1 ∷ 0 ∷ 0 ∷ 2 ∷ 1 ∷ 1 ∷ 2 ∷ 0 ∷ 0 ∷ 0 ∷ 0 ∷ 0 ∷ []) ∷
    counted traced (up_to_line_5 ++ naming [] ∷ []) (2 ∷ 1 ∷ 2 ∷ 2 ∷ 3 ∷ 1 ∷ 2 ∷ 2 ∷ 1 ∷ 1 ∷ 0 ∷ 0 ∷ 0 ∷ 0 ∷ 0 ∷ 0 ∷ 0 ∷ []) ∷ []

-- row 9 and then a whole window of events
unfoldable pub whole_window : List Happened
whole_window = one 9 ∷ naming [] ∷ naming [] ∷ naming [] ∷ naming [] ∷ []

-- the settings 16 2 1 2 4 5 6: the block of event 2 is 'cut at N', that of event 3 'empty'
unfoldable pub sixes : Settings
sixes = settings_of 16 2 1 2 4 5 6

-- a window's end, which clears nothing, and the event behind it, of which e is 0 again; a block cut at N, and an empty one with row 15 named; the whole bank
-- as a block, twice, with B = 4
unfoldable pub window_counts : List Figure
window_counts =
    counted traced whole_window (4 ∷ 1 ∷ 2 ∷ 2 ∷ 2 ∷ 1 ∷ 2 ∷ 2 ∷ 2 ∷ 1 ∷ 2 ∷ 2 ∷ 2 ∷ 1 ∷ 2 ∷ 2 ∷ 1 ∷ []) ∷
    counted traced (whole_window ++ one 5 ∷ naming [] ∷ []) (5 ∷ 1 ∷ 2 ∷ 2 ∷ 1 ∷ 3 ∷ 0 ∷ 3 ∷ 2 ∷ 1 ∷ 2 ∷ 2 ∷ 2 ∷ 1 ∷ 2 ∷ 2 ∷ 1 ∷ []) ∷
    counted sixes (naming [] ∷ naming [] ∷ naming [] ∷ []) (3 ∷ 1 ∷ 2 ∷ 2 ∷ 2 ∷ 2 ∷ 2 ∷ 1 ∷ 2 ∷ 2 ∷ 2 ∷ 2 ∷ 2 ∷ 1 ∷ 2 ∷ 2 ∷ 1 ∷ []) ∷
    counted sixes (naming [] ∷ naming [] ∷ naming [] ∷ naming (15 ∷ []) ∷ []) (4 ∷ 1 ∷ 2 ∷ 2 ∷ 2 ∷ 2 ∷ 2 ∷ 1 ∷ 2 ∷ 2 ∷ 2 ∷ 2 ∷ 2 ∷ 1 ∷ 2 ∷ 3 ∷ 0 ∷ []) ∷
    counted (settings_of 16 4 1 1 4 1 16) (naming [] ∷ naming [] ∷ []) (2 ∷ 2 ∷ 3 ∷ 4 ∷ 4 ∷ 4 ∷ 4 ∷ 4 ∷ 4 ∷ 4 ∷ 4 ∷ 4 ∷ 4 ∷ 4 ∷ 4 ∷ 3 ∷ 2 ∷ []) ∷ []

-- refused calls
unfoldable pub turned_back : List Happened
turned_back = activated own_remap 4 1 false ∷ activated own_remap 9 2 false ∷ refreshed false (4 ∷ []) ∷ []

-- row 4, and then row 5 for 3 units; row 5 for the most units; with B = 4 for two; rows 10, 10, 3 and 0, each under a remap of its own; two activations and an
-- event that are refused, and an accepted event behind them
unfoldable pub call_counts : List Figure
call_counts =
    counted traced (one 4 ∷ held 5 3 ∷ []) (0 ∷ 0 ∷ 0 ∷ 0 ∷ 1 ∷ 3 ∷ 0 ∷ 3 ∷ 0 ∷ 0 ∷ 0 ∷ 0 ∷ 0 ∷ 0 ∷ 0 ∷ 0 ∷ 0 ∷ []) ∷
    counted longer (held 5 16 ∷ []) (0 ∷ 0 ∷ 0 ∷ 0 ∷ 0 ∷ 16 ∷ 0 ∷ 16 ∷ 0 ∷ 0 ∷ 0 ∷ 0 ∷ 0 ∷ 0 ∷ 0 ∷ 0 ∷ 0 ∷ []) ∷
    counted (small 4 1) (held 5 2 ∷ []) (0 ∷ 0 ∷ 0 ∷ 0 ∷ 2 ∷ 2 ∷ 0 ∷ 2 ∷ 2 ∷ 0 ∷ 0 ∷ 0 ∷ 0 ∷ 0 ∷ 0 ∷ 0 ∷ 0 ∷ []) ∷
    counted traced (activated reverse 5 1 true ∷ activated identity 10 1 true ∷ one 2 ∷ activated rotated 15 1 true ∷ []) (0 ∷ 0 ∷ 1 ∷ 1 ∷ 0 ∷ 1 ∷ 0 ∷ 0 ∷ 0 ∷ 0 ∷ 2 ∷ 0 ∷ 2 ∷ 0 ∷ 0 ∷ 0 ∷ 0 ∷ []) ∷
    counted traced (one 5 ∷ turned_back) (0 ∷ 0 ∷ 0 ∷ 0 ∷ 0 ∷ 1 ∷ 0 ∷ 1 ∷ 0 ∷ 0 ∷ 0 ∷ 0 ∷ 0 ∷ 0 ∷ 0 ∷ 0 ∷ 0 ∷ []) ∷
    counted traced (one 5 ∷ turned_back ++ naming [] ∷ []) (1 ∷ 1 ∷ 2 ∷ 2 ∷ 1 ∷ 2 ∷ 0 ∷ 1 ∷ 0 ∷ 0 ∷ 0 ∷ 0 ∷ 0 ∷ 0 ∷ 0 ∷ 0 ∷ 0 ∷ []) ∷ []

-- rows 0 and 15; these with B = 4, then rows 1 and 14 too; of 1,024 rows those on both sides of 512, activated and named; of 262,144 the last but one
unfoldable pub edge_counts : List Figure
edge_counts =
    counted traced (one 0 ∷ one 14 ∷ []) (0 ∷ 0 ∷ 1 ∷ 0 ∷ 0 ∷ 0 ∷ 0 ∷ 0 ∷ 0 ∷ 0 ∷ 0 ∷ 0 ∷ 0 ∷ 0 ∷ 0 ∷ 1 ∷ 0 ∷ []) ∷
    counted (small 4 1) (one 0 ∷ one 14 ∷ one 1 ∷ one 15 ∷ []) (0 ∷ 1 ∷ 0 ∷ 2 ∷ 1 ∷ 0 ∷ 0 ∷ 0 ∷ 0 ∷ 0 ∷ 0 ∷ 0 ∷ 0 ∷ 1 ∷ 2 ∷ 0 ∷ 1 ∷ []) ∷
    counted_from (wide 1024 4) (one 510 ∷ one 512 ∷ one 513 ∷ one 511 ∷ []) 506 12 (0 ∷ 0 ∷ 1 ∷ 2 ∷ 0 ∷ 1 ∷ 1 ∷ 0 ∷ 2 ∷ 1 ∷ 0 ∷ 0 ∷ []) ∷
    counted_from (settings_of 1024 2 2 4 4 64 16) (one 510 ∷ naming (511 ∷ 512 ∷ []) ∷ []) 508 8 (0 ∷ 0 ∷ 2 ∷ 0 ∷ 0 ∷ 1 ∷ 0 ∷ 0 ∷ []) ∷
    counted_from (large 262144 2 2 4096) (one 262143 ∷ []) 262140 4 (0 ∷ 1 ∷ 0 ∷ 1 ∷ []) ∷ []

-- document 01's output with row 6 in place of row 4 at its event
unfoldable pub other_output : List ℕ
other_output = take 40 trace_output ++ 54 ∷ drop 41 trace_output

-- its trace, then settings with N = 8, row 5, an event, and settings again, a line to a row; and its output, then `X` with 1, 11 and 11, and `B`
unfoldable pub stopped_input : List ℕ
stopped_input =
    trace_input ++
    83 ∷ 32 ∷ 32 ∷ 32 ∷ 32 ∷ 32 ∷ 56 ∷ 32 ∷ 32 ∷ 32 ∷ 32 ∷ 32 ∷ 50 ∷ 32 ∷ 32 ∷ 32 ∷ 32 ∷ 32 ∷ 49 ∷ 32 ∷ 32 ∷ 32 ∷ 32 ∷ 32 ∷ 50 ∷ 32 ∷ 32 ∷ 32 ∷ 32 ∷ 32 ∷ 52 ∷ 32 ∷ 32 ∷ 32 ∷ 32 ∷ 32 ∷ 52 ∷ 32 ∷ 32 ∷ 32 ∷ 32 ∷ 32 ∷ 52 ∷ 10 ∷
    65 ∷ 32 ∷ 32 ∷ 32 ∷ 32 ∷ 32 ∷ 53 ∷ 10 ∷
    82 ∷ 10 ∷
    83 ∷ 32 ∷ 32 ∷ 32 ∷ 32 ∷ 49 ∷ 54 ∷ 32 ∷ 32 ∷ 32 ∷ 32 ∷ 32 ∷ 50 ∷ 32 ∷ 32 ∷ 32 ∷ 32 ∷ 32 ∷ 49 ∷ 32 ∷ 32 ∷ 32 ∷ 32 ∷ 32 ∷ 50 ∷ 32 ∷ 32 ∷ 32 ∷ 32 ∷ 32 ∷ 52 ∷ 32 ∷ 32 ∷ 32 ∷ 32 ∷ 32 ∷ 52 ∷ 32 ∷ 32 ∷ 32 ∷ 32 ∷ 32 ∷ 52 ∷ 10 ∷ []

unfoldable pub stopped_output : List ℕ
stopped_output =
    trace_output ++
    88 ∷ 32 ∷ 32 ∷ 32 ∷ 32 ∷ 32 ∷ 32 ∷ 32 ∷ 32 ∷ 32 ∷ 55 ∷ 32 ∷ 32 ∷ 32 ∷ 32 ∷ 32 ∷ 49 ∷ 10 ∷
    88 ∷ 32 ∷ 32 ∷ 32 ∷ 32 ∷ 32 ∷ 32 ∷ 32 ∷ 32 ∷ 32 ∷ 56 ∷ 32 ∷ 32 ∷ 32 ∷ 32 ∷ 49 ∷ 49 ∷ 10 ∷
    88 ∷ 32 ∷ 32 ∷ 32 ∷ 32 ∷ 32 ∷ 32 ∷ 32 ∷ 32 ∷ 32 ∷ 57 ∷ 32 ∷ 32 ∷ 32 ∷ 32 ∷ 49 ∷ 49 ∷ 10 ∷
    66 ∷ 32 ∷ 32 ∷ 32 ∷ 32 ∷ 32 ∷ 32 ∷ 32 ∷ 32 ∷ 51 ∷ 48 ∷ 32 ∷ 32 ∷ 32 ∷ 32 ∷ 32 ∷ 32 ∷ 32 ∷ 32 ∷ 54 ∷ 48 ∷ 10 ∷ []

-- a listing held against a trace: nothing where it passes, else the number of the line that departs
unfoldable pub departure_numbers : Option ℕ → List ℕ
departure_numbers none = []
departure_numbers (some line) = line ∷ []

unfoldable pub departure_figure : List ℕ → List ℕ → List ℕ → Figure
departure_figure trace listing given = shown given (departure_numbers (departure trace listing))

-- the trace's own output passes; another row; the last line missing; a blank line behind it; no byte 10 at its end; and that of the longer trace passes
unfoldable pub departures : List Figure
departures =
    departure_figure trace_input trace_output [] ∷
    departure_figure trace_input other_output (2 ∷ []) ∷
    departure_figure trace_input (take 42 trace_output) (3 ∷ []) ∷
    departure_figure trace_input (trace_output ++ 10 ∷ []) (4 ∷ []) ∷
    departure_figure trace_input (take 59 trace_output) (3 ∷ []) ∷
    departure_figure stopped_input stopped_output [] ∷ []

-- the silicon as numbers: f and each row's exact disturbance; nothing before any accepted `S`
unfoldable pub silicon_numbers : Option Silicon → List ℕ
silicon_numbers none = []
silicon_numbers (some d) = held_by d.settings (exact d.settings d.did)

-- behind so many lines of a trace
unfoldable pub silicon_figure : ℕ → List ℕ → List ℕ → List ℕ → Figure
silicon_figure count trace listing given = shown given (silicon_numbers (silicon_after count trace listing))

-- the trace before line 1, after line 4 and after line 6; after its event where row 6 was named; behind refused settings, and set up again; the traces with
-- remaps and with holds, after each event
unfoldable pub silicon_counts : List Figure
silicon_counts =
    silicon_figure 0 trace_input trace_output [] ∷
    silicon_figure 4 trace_input trace_output (0 ∷ 0 ∷ 0 ∷ 1 ∷ 0 ∷ 3 ∷ 0 ∷ 2 ∷ 0 ∷ 0 ∷ 0 ∷ 0 ∷ 0 ∷ 0 ∷ 0 ∷ 0 ∷ 0 ∷ []) ∷
    silicon_figure 6 trace_input trace_output (1 ∷ 1 ∷ 2 ∷ 2 ∷ 2 ∷ 1 ∷ 1 ∷ 2 ∷ 0 ∷ 0 ∷ 0 ∷ 0 ∷ 0 ∷ 0 ∷ 0 ∷ 0 ∷ 0 ∷ []) ∷
    silicon_figure 5 trace_input other_output (1 ∷ 1 ∷ 2 ∷ 2 ∷ 1 ∷ 4 ∷ 1 ∷ 0 ∷ 1 ∷ 0 ∷ 0 ∷ 0 ∷ 0 ∷ 0 ∷ 0 ∷ 0 ∷ 0 ∷ []) ∷
    silicon_figure 9 stopped_input stopped_output (1 ∷ 1 ∷ 2 ∷ 2 ∷ 2 ∷ 1 ∷ 1 ∷ 2 ∷ 0 ∷ 0 ∷ 0 ∷ 0 ∷ 0 ∷ 0 ∷ 0 ∷ 0 ∷ 0 ∷ []) ∷
    silicon_figure 10 stopped_input stopped_output (0 ∷ 0 ∷ 0 ∷ 0 ∷ 0 ∷ 0 ∷ 0 ∷ 0 ∷ 0 ∷ 0 ∷ 0 ∷ 0 ∷ 0 ∷ 0 ∷ 0 ∷ 0 ∷ 0 ∷ []) ∷
    silicon_figure 7 loaded_input loaded_output (1 ∷ 1 ∷ 2 ∷ 2 ∷ 1 ∷ 1 ∷ 0 ∷ 0 ∷ 0 ∷ 0 ∷ 0 ∷ 0 ∷ 0 ∷ 0 ∷ 1 ∷ 0 ∷ 1 ∷ []) ∷
    silicon_figure 10 loaded_input loaded_output (1 ∷ 1 ∷ 2 ∷ 2 ∷ 1 ∷ 1 ∷ 0 ∷ 0 ∷ 0 ∷ 0 ∷ 0 ∷ 0 ∷ 0 ∷ 0 ∷ 0 ∷ 0 ∷ 0 ∷ []) ∷
    silicon_figure 12 holds_input holds_output (1 ∷ 1 ∷ 2 ∷ 2 ∷ 1 ∷ 3 ∷ 0 ∷ 2 ∷ 0 ∷ 0 ∷ 0 ∷ 1 ∷ 0 ∷ 1 ∷ 6 ∷ 0 ∷ 0 ∷ []) ∷
    silicon_figure 14 holds_input holds_output (2 ∷ 1 ∷ 2 ∷ 2 ∷ 2 ∷ 1 ∷ 2 ∷ 2 ∷ 1 ∷ 1 ∷ 0 ∷ 1 ∷ 0 ∷ 1 ∷ 6 ∷ 0 ∷ 0 ∷ []) ∷ []

unfoldable pub disturbances : List Figure
disturbances = event_counts ++ window_counts ++ call_counts ++ edge_counts ++ departures ++ silicon_counts
