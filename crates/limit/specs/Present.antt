-- The disturbance in the present window: the plain counter of 'true disturbance', with every row at 0 where a window begins.
use Rattle.std.specs.Prelude.{◌%◌, true, false, cond, List, [], ◌∷◌}
use Rattle.device.specs.declared.Settings.{Settings}
use Rattle.tracker.specs.Calls.{ends_window}
use Rattle.limit.specs.Exact.{Happened, activated, refreshed, Exact, at_rest, after}

-- every row at 0; f, 'the accepted events so far', stays
unfoldable pub cleared : Exact → Exact
cleared x = record { disturbance = λ row. 0; refreshes = x.refreshes }

-- an accepted event at 'e = n − 1' 'begins the next window' (step 4) before its own rows disturb (step 5)
unfoldable pub next_window : Settings → Happened → Exact → Exact
next_window s (activated remap row hold ok) x = x
next_window s (refreshed false named) x = x
next_window s (refreshed true named) x = cond (ends_window s (x.refreshes % s.window)) (cleared x) x

-- the calls in their order
unfoldable pub present_after_all : Settings → List Happened → Exact → Exact
present_after_all s [] x = x
present_after_all s (h ∷ hs) x = present_after_all s hs (after s h (next_window s h x))

-- each row's disturbance in the present window, after all that happened since setting up
unfoldable pub present : Settings → List Happened → Exact
present s happened = present_after_all s happened at_rest
