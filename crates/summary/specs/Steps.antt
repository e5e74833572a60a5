-- 'The steps' on a summary: disturbing one row, several, and what an event takes out.
use Rattle.std.specs.Prelude.{ℕ, ◌+◌, Bool, true, false, ◌||◌, cond, List, [], ◌∷◌, ◌++◌, ltb, eqb, length}
use Rattle.summary.specs.Entries.{Entry, has, count_or, without_all, raised, entered, has_count, without_count, picks}

-- the tracked rows, ascending, and the spillover ('spill'), the figure that stands for every row not tracked
pub record Summary : Type 0 where
  pub entries : List Entry
  pub spillover : ℕ

-- a summary that tracks nothing
unfoldable pub empty : Summary
empty = record { entries = []; spillover = 0 }

-- 'a row's estimate is its count if tracked, else the spill'
unfoldable pub estimate : Summary → ℕ → ℕ
estimate s row = count_or s.spillover row s.entries

-- whether a row is in a list
unfoldable pub in_rows : ℕ → List ℕ → Bool
in_rows row [] = false
in_rows row (x ∷ xs) = eqb x row || in_rows row xs

-- 'its count rises by 1'
abbrev pub raise : ℕ → Summary → Summary
raise row s = record { entries = raised row s.entries; spillover = s.spillover }

-- 'it is entered with spill + 1'
abbrev pub enter : ℕ → Summary → Summary
enter row s = record { entries = entered row (s.spillover + 1) s.entries; spillover = s.spillover }

-- 'the lowest-numbered' of the tracked rows whose count equals the spill 'is dropped'
abbrev pub make_room : Summary → Summary
make_room s = record { entries = without_count s.spillover s.entries; spillover = s.spillover }

-- 'the spill rises by 1'
abbrev pub spill : Summary → Summary
spill s = record { entries = s.entries; spillover = s.spillover + 1 }

-- 'disturbing one row', in a summary of so many places
unfoldable pub disturb : ℕ → ℕ → Summary → Summary
disturb counters row s =
    cond (has row s.entries) (raise row s)
    (cond (ltb (length s.entries) counters) (enter row s)
    (cond (has_count s.spillover s.entries) (enter row (make_room s))
    (spill s)))

-- rows are disturbed one after the other
unfoldable pub disturb_each : ℕ → List ℕ → Summary → Summary
disturb_each counters [] s = s
disturb_each counters (row ∷ rows) s = disturb_each counters rows (disturb counters row s)

-- rows are dropped from the summary
unfoldable pub drop_rows : List ℕ → Summary → Summary
drop_rows rows s = record { entries = without_all rows s.entries; spillover = s.spillover }

-- rows disturb their victims, one row after the other
unfoldable pub spread : ℕ → (ℕ → List ℕ) → List ℕ → Summary → Summary
spread counters victims_of [] s = s
spread counters victims_of (row ∷ rows) s = spread counters victims_of rows (disturb_each counters (victims_of row) s)

-- 'activation': the row is dropped if tracked, then its victims are disturbed
unfoldable pub activation : ℕ → (ℕ → List ℕ) → ℕ → Summary → Summary
activation counters victims_of row s = disturb_each counters (victims_of row) (drop_rows (row ∷ []) s)

-- the rows of a second list that are not in the first
unfoldable pub besides : List ℕ → List ℕ → List ℕ
besides rows [] = []
besides rows (x ∷ xs) = cond (in_rows x rows) (besides rows xs) (x ∷ besides rows xs)

-- 'event', step 1: the picked rows
unfoldable pub picked : ℕ → Summary → List ℕ
picked volume s = picks volume s.entries

-- step 3: 'all picked and block rows are dropped from the summary together'
unfoldable pub taken_out : ℕ → List ℕ → Summary → Summary
taken_out volume block s = drop_rows (picked volume s ++ block) s

-- step 4: 'if e = n − 1, the summary is cleared (spill 0 too)'
unfoldable pub cleared_if : Bool → Summary → Summary
cleared_if true s = empty
cleared_if false s = s

-- step 5: 'each picked row in pick order, then each block row not picked'
unfoldable pub sources : ℕ → List ℕ → Summary → List ℕ
sources volume block s = picked volume s ++ besides (picked volume s) block

-- an event with its block; last: the window ends with it
unfoldable pub event : ℕ → (ℕ → List ℕ) → ℕ → List ℕ → Bool → Summary → Summary
event counters victims_of volume block last s =
    spread counters victims_of (sources volume block s) (cleared_if last (taken_out volume block s))
