-- Edges of the tracker's calls, those of 'Edge figures' that bear no * among them, those of subarrays and those of large banks: what follows by hand,
-- and what the definitions give.
use Rattle.std.specs.Prelude.{ℕ, List, [], ◌∷◌, ◌++◌}
use Rattle.device.specs.declared.Settings.{Settings}
use Rattle.device.specs.Refusal.{Outcome, accepted, refused}
use Rattle.device.specs.Remap.{own_remap}
use Rattle.summary.specs.Steps.{empty}
use Rattle.state.specs.State.{State, state_of}
use Rattle.tracker.specs.Calls.{SetUpCall, ActivationCall, RefreshCall, set_up, activation_on, refresh_on}
use Rattle.bound.specs.Answers.{settings_of}
use Rattle.figures.specs.Table.{Figure, shown, state_numbers}

-- the settings 16 B V 2 4 4 4
unfoldable pub small : ℕ → ℕ → Settings
small b v = settings_of 16 b v 2 4 4 4

-- the settings 16 2 1 2 4 n 16: 'the regular block' is the whole bank at the first event
unfoldable pub whole : ℕ → Settings
whole n = settings_of 16 2 1 2 4 n 16

-- tables of two places and a 'position': rows, counts, e, a, 'number of tracked rows'; the 'spill' is 0
unfoldable pub two_places : ℕ → ℕ → ℕ → ℕ → ℕ → ℕ → ℕ → State
two_places row row' count count' e a tracked =
    record {
      rows = row ∷ row' ∷ [];
      counts = count ∷ count' ∷ [];
      position = record { events = e; activations = a; tracked = tracked; spillover = 0 };
    }

-- no row tracked, after so many events and activations
unfoldable pub untracked : ℕ → ℕ → State
untracked e a = two_places 0 0 0 0 e a 0

-- the 'refusal' of a call, 0 where it is accepted
unfoldable pub refusal_of : {A : Type 0} → Outcome A → ℕ
refusal_of (accepted x) = 0
refusal_of (refused k) = k

-- 'setting up' as numbers: the refusal and both tables
unfoldable pub set_up_numbers : SetUpCall → List ℕ
set_up_numbers u = refusal_of u.answer ∷ u.rows ++ u.counts

-- an 'activation' as numbers: the refusal and the state
unfoldable pub activation_numbers : ActivationCall → List ℕ
activation_numbers u = u.refusal ∷ state_numbers u.state

-- an 'event' as numbers: the refusal, 'the number picked', the 'lent list' and the state
unfoldable pub event_numbers : RefreshCall → List ℕ
event_numbers u = u.refusal ∷ u.count ∷ u.picks ++ state_numbers u.state

-- setting up with a remap on tables that hold 7, and with our own
unfoldable pub set_up_under : List ℕ → Settings → List ℕ → Figure
set_up_under remap s given = shown given (set_up_numbers (set_up s remap (7 ∷ 7 ∷ []) (7 ∷ 7 ∷ [])))

unfoldable pub set_up_figure : Settings → List ℕ → Figure
set_up_figure s given = set_up_under own_remap s given

-- an activation of a 'bus row' with a remap and a hold, with a hold of 1, and with our own remap too
unfoldable pub held_under : List ℕ → Settings → State → ℕ → ℕ → List ℕ → Figure
held_under remap s st row hold given = shown given (activation_numbers (activation_on s remap st row hold))

unfoldable pub activation_under : List ℕ → Settings → State → ℕ → List ℕ → Figure
activation_under remap s st row given = held_under remap s st row 1 given

unfoldable pub activation_figure : Settings → State → ℕ → List ℕ → Figure
activation_figure s st row given = activation_under own_remap s st row given

-- an event with a list of two places that hold 7
unfoldable pub event_figure : Settings → State → List ℕ → Figure
event_figure s st given = shown given (event_numbers (refresh_on s st (7 ∷ 7 ∷ [])))

-- 'C = V accepted, V − 1 refused', and N = 16, the least
unfoldable pub set_up_edges : List Figure
set_up_edges =
    set_up_figure (small 2 1) (0 ∷ 0 ∷ 0 ∷ 0 ∷ 0 ∷ []) ∷
    set_up_figure (small 2 2) (0 ∷ 0 ∷ 0 ∷ 0 ∷ 0 ∷ []) ∷
    set_up_figure (small 2 3) (4 ∷ 7 ∷ 7 ∷ 7 ∷ 7 ∷ []) ∷
    shown (8 ∷ 7 ∷ 7 ∷ 7 ∷ 7 ∷ 7 ∷ []) (set_up_numbers (set_up (small 2 1) own_remap (7 ∷ 7 ∷ 7 ∷ []) (7 ∷ 7 ∷ []))) ∷ []

-- 'row 15 accepted and 16 refused for N = 16'; the last of an interval and one more; e = n; rows 0 and N − 1 with each B
unfoldable pub activation_edges : List Figure
activation_edges =
    activation_figure (small 2 1) (untracked 0 0) 15 (0 ∷ 13 ∷ 15 ∷ 1 ∷ 1 ∷ 0 ∷ 1 ∷ 2 ∷ 0 ∷ []) ∷
    activation_figure (small 2 1) (untracked 0 0) 16 (9 ∷ 0 ∷ 0 ∷ 0 ∷ 0 ∷ 0 ∷ 0 ∷ 0 ∷ 0 ∷ []) ∷
    activation_figure (small 2 1) (untracked 0 3) 5 (0 ∷ 4 ∷ 6 ∷ 1 ∷ 1 ∷ 0 ∷ 4 ∷ 2 ∷ 0 ∷ []) ∷
    activation_figure (small 2 1) (untracked 0 4) 5 (22 ∷ 0 ∷ 0 ∷ 0 ∷ 0 ∷ 0 ∷ 4 ∷ 0 ∷ 0 ∷ []) ∷
    activation_figure (small 2 1) (untracked 4 0) 5 (21 ∷ 0 ∷ 0 ∷ 0 ∷ 0 ∷ 4 ∷ 0 ∷ 0 ∷ 0 ∷ []) ∷
    activation_figure (small 2 1) (untracked 0 0) 0 (0 ∷ 1 ∷ 0 ∷ 1 ∷ 0 ∷ 0 ∷ 1 ∷ 1 ∷ 0 ∷ []) ∷
    activation_figure (small 2 1) (untracked 0 0) 14 (0 ∷ 14 ∷ 0 ∷ 1 ∷ 0 ∷ 0 ∷ 1 ∷ 1 ∷ 0 ∷ []) ∷
    activation_figure (small 4 1) (untracked 0 0) 0 (0 ∷ 1 ∷ 2 ∷ 1 ∷ 1 ∷ 0 ∷ 1 ∷ 2 ∷ 0 ∷ []) ∷
    activation_figure (small 4 1) (untracked 0 0) 14 (0 ∷ 13 ∷ 14 ∷ 1 ∷ 1 ∷ 0 ∷ 1 ∷ 2 ∷ 0 ∷ []) ∷ []

-- e = n; a list with 'fewer than V places'; no row tracked; 'all of them if fewer are tracked'; a block that is the whole bank, and one that is
-- empty; n = 1; the event before a window's last, and the last
unfoldable pub event_edges : List Figure
event_edges =
    event_figure (small 2 1) (untracked 4 0) (21 ∷ 0 ∷ 7 ∷ 7 ∷ 0 ∷ 0 ∷ 0 ∷ 0 ∷ 4 ∷ 0 ∷ 0 ∷ 0 ∷ []) ∷
    shown (10 ∷ 0 ∷ 0 ∷ 0 ∷ 0 ∷ 0 ∷ 0 ∷ 0 ∷ 0 ∷ 0 ∷ []) (event_numbers (refresh_on (small 2 1) (untracked 0 0) [])) ∷
    event_figure (small 2 1) (untracked 0 0) (0 ∷ 0 ∷ 7 ∷ 7 ∷ 3 ∷ 4 ∷ 2 ∷ 3 ∷ 1 ∷ 0 ∷ 2 ∷ 2 ∷ []) ∷
    event_figure (small 2 2) (two_places 14 0 1 0 0 1 1) (0 ∷ 1 ∷ 14 ∷ 7 ∷ 2 ∷ 3 ∷ 3 ∷ 3 ∷ 1 ∷ 0 ∷ 2 ∷ 3 ∷ []) ∷
    event_figure (whole 4) (untracked 0 0) (0 ∷ 0 ∷ 7 ∷ 7 ∷ 13 ∷ 15 ∷ 10 ∷ 10 ∷ 1 ∷ 0 ∷ 2 ∷ 10 ∷ []) ∷
    event_figure (whole 4) (untracked 1 0) (0 ∷ 0 ∷ 7 ∷ 7 ∷ 0 ∷ 0 ∷ 0 ∷ 0 ∷ 2 ∷ 0 ∷ 0 ∷ 0 ∷ []) ∷
    event_figure (whole 1) (untracked 0 0) (0 ∷ 0 ∷ 7 ∷ 7 ∷ 13 ∷ 15 ∷ 10 ∷ 10 ∷ 0 ∷ 0 ∷ 2 ∷ 10 ∷ []) ∷
    event_figure (small 2 1) (untracked 2 0) (0 ∷ 0 ∷ 7 ∷ 7 ∷ 10 ∷ 12 ∷ 3 ∷ 3 ∷ 3 ∷ 0 ∷ 2 ∷ 2 ∷ []) ∷
    event_figure (small 2 1) (two_places 0 2 1 1 3 1 2) (0 ∷ 1 ∷ 0 ∷ 7 ∷ 14 ∷ 15 ∷ 3 ∷ 3 ∷ 0 ∷ 0 ∷ 2 ∷ 2 ∷ []) ∷ []

-- the settings N B 1 4 4 64 16, for banks of several subarrays
unfoldable pub wide : ℕ → ℕ → Settings
wide n b = settings_of n b 1 4 4 64 16

-- no row tracked in tables of C places, after so many events
unfoldable pub fresh : Settings → ℕ → State
fresh s e = state_of s e 0 empty

-- a first activation in such a bank
unfoldable pub wide_figure : ℕ → ℕ → ℕ → List ℕ → Figure
wide_figure n b row given = activation_figure (wide n b) (fresh (wide n b) 0) row given

-- the settings 1024 4 1 6 4 342 3: the block of event 170 is rows 510 to 512; and 1024 4 1 4 4 66 16: that of event 64 is empty
unfoldable pub across : Settings
across = settings_of 1024 4 1 6 4 342 3

unfoldable pub behind_all : Settings
behind_all = settings_of 1024 4 1 4 4 66 16

-- one row tracked, with a count of 5, after so many events
unfoldable pub tracks_one : Settings → ℕ → ℕ → State
tracks_one s e row = state_of s e 0 (record { entries = record { row = row; count = 5 } ∷ []; spillover = 0 })

-- 'disturbance does not cross': rows 511, 510, 512 and 513, of which bus rows 510 and 511 are the first two; 'banks of 512 rows or fewer see no
-- difference'; a last subarray of 16 rows; a block across the edge; rows 511 and 512 picked
unfoldable pub subarray_edges : List Figure
subarray_edges =
    wide_figure 1024 4 510 (0 ∷ 509 ∷ 510 ∷ 0 ∷ 0 ∷ 1 ∷ 1 ∷ 0 ∷ 0 ∷ 0 ∷ 1 ∷ 2 ∷ 0 ∷ []) ∷
    wide_figure 1024 4 511 (0 ∷ 508 ∷ 509 ∷ 511 ∷ 0 ∷ 1 ∷ 1 ∷ 1 ∷ 0 ∷ 0 ∷ 1 ∷ 3 ∷ 0 ∷ []) ∷
    wide_figure 1024 4 512 (0 ∷ 513 ∷ 514 ∷ 0 ∷ 0 ∷ 1 ∷ 1 ∷ 0 ∷ 0 ∷ 0 ∷ 1 ∷ 2 ∷ 0 ∷ []) ∷
    wide_figure 1024 4 513 (0 ∷ 512 ∷ 514 ∷ 515 ∷ 0 ∷ 1 ∷ 1 ∷ 1 ∷ 0 ∷ 0 ∷ 1 ∷ 3 ∷ 0 ∷ []) ∷
    wide_figure 1024 2 510 (0 ∷ 510 ∷ 0 ∷ 0 ∷ 0 ∷ 1 ∷ 0 ∷ 0 ∷ 0 ∷ 0 ∷ 1 ∷ 1 ∷ 0 ∷ []) ∷
    wide_figure 1024 2 512 (0 ∷ 513 ∷ 0 ∷ 0 ∷ 0 ∷ 1 ∷ 0 ∷ 0 ∷ 0 ∷ 0 ∷ 1 ∷ 1 ∷ 0 ∷ []) ∷
    wide_figure 512 4 510 (0 ∷ 509 ∷ 510 ∷ 0 ∷ 0 ∷ 1 ∷ 1 ∷ 0 ∷ 0 ∷ 0 ∷ 1 ∷ 2 ∷ 0 ∷ []) ∷
    wide_figure 528 4 512 (0 ∷ 513 ∷ 514 ∷ 0 ∷ 0 ∷ 1 ∷ 1 ∷ 0 ∷ 0 ∷ 0 ∷ 1 ∷ 2 ∷ 0 ∷ []) ∷
    wide_figure 528 4 526 (0 ∷ 525 ∷ 526 ∷ 0 ∷ 0 ∷ 1 ∷ 1 ∷ 0 ∷ 0 ∷ 0 ∷ 1 ∷ 2 ∷ 0 ∷ []) ∷
    event_figure across (fresh across 170) (0 ∷ 0 ∷ 7 ∷ 7 ∷ 508 ∷ 509 ∷ 510 ∷ 511 ∷ 513 ∷ 514 ∷ 1 ∷ 2 ∷ 1 ∷ 1 ∷ 1 ∷ 1 ∷ 171 ∷ 0 ∷ 6 ∷ 0 ∷ []) ∷
    event_figure behind_all (tracks_one behind_all 64 511) (0 ∷ 1 ∷ 511 ∷ 7 ∷ 509 ∷ 510 ∷ 0 ∷ 0 ∷ 1 ∷ 1 ∷ 0 ∷ 0 ∷ 65 ∷ 0 ∷ 2 ∷ 0 ∷ []) ∷
    event_figure behind_all (tracks_one behind_all 64 512) (0 ∷ 1 ∷ 512 ∷ 7 ∷ 513 ∷ 514 ∷ 0 ∷ 0 ∷ 1 ∷ 1 ∷ 0 ∷ 0 ∷ 65 ∷ 0 ∷ 2 ∷ 0 ∷ []) ∷ []

-- the settings N B 1 C 4 n 64, for banks of more than 65,536 rows
unfoldable pub large : ℕ → ℕ → ℕ → ℕ → Settings
large rows b c n = settings_of rows b 1 c 4 n 64

-- a first activation in a bank of 65,552, with B = 4
unfoldable pub large_figure : ℕ → List ℕ → Figure
large_figure row given = activation_figure (large 65552 4 4 1025) (fresh (large 65552 4 4 1025) 0) row given

-- 'any multiple of 16 up to 262,144', and P × n below N; the last two rows of a bank and one more; rows 65,535, 65,534, 65,536 and 65,537, of
-- which the first two end a subarray and the others begin one; the last row picked where the block is empty
unfoldable pub large_edges : List Figure
large_edges =
    set_up_figure (large 65552 2 2 1025) (0 ∷ 0 ∷ 0 ∷ 0 ∷ 0 ∷ []) ∷
    set_up_figure (large 131072 2 2 2048) (0 ∷ 0 ∷ 0 ∷ 0 ∷ 0 ∷ []) ∷
    set_up_figure (large 262128 2 2 4096) (0 ∷ 0 ∷ 0 ∷ 0 ∷ 0 ∷ []) ∷
    set_up_figure (large 262144 2 2 4096) (0 ∷ 0 ∷ 0 ∷ 0 ∷ 0 ∷ []) ∷
    set_up_figure (large 262145 2 2 8192) (1 ∷ 7 ∷ 7 ∷ 7 ∷ 7 ∷ []) ∷
    set_up_figure (large 262160 2 2 8192) (1 ∷ 7 ∷ 7 ∷ 7 ∷ 7 ∷ []) ∷
    set_up_figure (large 262144 2 2 4095) (7 ∷ 7 ∷ 7 ∷ 7 ∷ 7 ∷ []) ∷
    activation_figure (large 65552 2 2 1025) (untracked 0 0) 65551 (0 ∷ 65549 ∷ 65551 ∷ 1 ∷ 1 ∷ 0 ∷ 1 ∷ 2 ∷ 0 ∷ []) ∷
    activation_figure (large 65552 2 2 1025) (untracked 0 0) 65552 (9 ∷ 0 ∷ 0 ∷ 0 ∷ 0 ∷ 0 ∷ 0 ∷ 0 ∷ 0 ∷ []) ∷
    activation_figure (large 262144 2 2 4096) (untracked 0 0) 262143 (0 ∷ 262141 ∷ 262143 ∷ 1 ∷ 1 ∷ 0 ∷ 1 ∷ 2 ∷ 0 ∷ []) ∷
    activation_figure (large 262144 2 2 4096) (untracked 0 0) 262142 (0 ∷ 262142 ∷ 0 ∷ 1 ∷ 0 ∷ 0 ∷ 1 ∷ 1 ∷ 0 ∷ []) ∷
    activation_figure (large 262144 2 2 4096) (untracked 0 0) 262144 (9 ∷ 0 ∷ 0 ∷ 0 ∷ 0 ∷ 0 ∷ 0 ∷ 0 ∷ 0 ∷ []) ∷
    large_figure 65534 (0 ∷ 65533 ∷ 65534 ∷ 0 ∷ 0 ∷ 1 ∷ 1 ∷ 0 ∷ 0 ∷ 0 ∷ 1 ∷ 2 ∷ 0 ∷ []) ∷
    large_figure 65535 (0 ∷ 65532 ∷ 65533 ∷ 65535 ∷ 0 ∷ 1 ∷ 1 ∷ 1 ∷ 0 ∷ 0 ∷ 1 ∷ 3 ∷ 0 ∷ []) ∷
    large_figure 65536 (0 ∷ 65537 ∷ 65538 ∷ 0 ∷ 0 ∷ 1 ∷ 1 ∷ 0 ∷ 0 ∷ 0 ∷ 1 ∷ 2 ∷ 0 ∷ []) ∷
    large_figure 65537 (0 ∷ 65536 ∷ 65538 ∷ 65539 ∷ 0 ∷ 1 ∷ 1 ∷ 1 ∷ 0 ∷ 0 ∷ 1 ∷ 3 ∷ 0 ∷ []) ∷
    event_figure (large 262144 4 4 8192) (tracks_one (large 262144 4 4 8192) 4096 262143)
    (0 ∷ 1 ∷ 262143 ∷ 7 ∷ 262141 ∷ 262142 ∷ 0 ∷ 0 ∷ 1 ∷ 1 ∷ 0 ∷ 0 ∷ 4097 ∷ 0 ∷ 2 ∷ 0 ∷ []) ∷ []

-- all of them; tests/calls/edges.calls runs the same, and more
unfoldable pub edges : List Figure
edges = set_up_edges ++ activation_edges ++ event_edges ++ subarray_edges ++ large_edges
