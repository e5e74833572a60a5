-- 'True disturbance': a plain counter beside the tracker, fed what happened and nothing else.
use Rattle.std.specs.Prelude.{ℕ, ◌+◌, ◌%◌, Bool, true, false, cond, List, [], ◌∷◌, ◌++◌, eqb}
use Rattle.device.specs.declared.Settings.{Settings}
use Rattle.device.specs.Remap.{physical}
use Rattle.device.specs.Hold.{repeated}
use Rattle.summary.specs.Steps.{besides}
use Rattle.tracker.specs.Calls.{victims_in, block_rows}

-- a call, as the counter is told of it: an activation's own remap ('fed each call's own'), logical row and hold ('fed each call's hold too'), and whether it
-- was accepted; whether an event was, and the rows it named
pub data Happened : Type 0 where
  activated : List ℕ → ℕ → ℕ → Bool → Happened
  refreshed : Bool → List ℕ → Happened

-- 'one number for each die row, and f, the accepted events so far'
pub record Exact : Type 0 where
  pub disturbance : ℕ → ℕ
  pub refreshes : ℕ

-- 'an accepted setting up makes all of these 0'
unfoldable pub at_rest : Exact
at_rest = record { disturbance = λ row. 0; refreshes = 0 }

-- rows are set to 0
unfoldable pub zeroed : List ℕ → (ℕ → ℕ) → ℕ → ℕ
zeroed [] d row = d row
zeroed (x ∷ xs) d row = cond (eqb x row) 0 (zeroed xs d row)

-- 1 is added at each row of a list
unfoldable pub one_more : List ℕ → (ℕ → ℕ) → ℕ → ℕ
one_more [] d row = d row
one_more (x ∷ xs) d row = cond (eqb x row) 1 0 + one_more xs d row

-- 1 is added at each victim of each row of a list
unfoldable pub disturbed_by : Settings → List ℕ → (ℕ → ℕ) → ℕ → ℕ
disturbed_by s [] d = d
disturbed_by s (x ∷ xs) d = disturbed_by s xs (one_more (victims_in s x) d)

-- each row of a list once, where it stands first
unfoldable pub once : List ℕ → List ℕ
once [] = []
once (x ∷ xs) = x ∷ besides (x ∷ []) (once xs)

-- 'every named and every block row' is set to 0
unfoldable pub restored : List ℕ → List ℕ → (ℕ → ℕ) → ℕ → ℕ
restored named block d = zeroed (named ++ block) d

-- the counter's one operation: named and block rows are set to 0, then 1 is added 'to each neighbour of each of them, once per such row'
unfoldable pub renewed : Settings → List ℕ → List ℕ → Exact → Exact
renewed s named block x =
    record {
      disturbance = disturbed_by s (once (named ++ block)) (restored named block x.disturbance);
      refreshes = x.refreshes;
    }

-- 'then f rises by 1'
unfoldable pub one_event_more : Exact → Exact
one_event_more x = record { disturbance = x.disturbance; refreshes = x.refreshes + 1 }

-- one call: an activation renews 'the die row of its bus row' by its own remap, once for each unit ('true disturbance counts units'); an event the rows it
-- named and the regular block, which 'the remainder of f by n as e' gives; 'a refused call changes nothing'
unfoldable pub after : Settings → Happened → Exact → Exact
after s (activated remap row hold true) x = repeated hold (renewed s (physical remap row ∷ []) []) x
after s (activated remap row hold false) x = x
after s (refreshed true named) x = one_event_more (renewed s named (block_rows s (x.refreshes % s.window)) x)
after s (refreshed false named) x = x

-- the calls in their order
unfoldable pub after_all : Settings → List Happened → Exact → Exact
after_all s [] x = x
after_all s (h ∷ hs) x = after_all s hs (after s h x)

-- the exact disturbance ('true disturbance') after all that happened since setting up
unfoldable pub exact : Settings → List Happened → Exact
exact s happened = after_all s happened at_rest
