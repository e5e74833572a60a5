-- What the silicon did, from a trace and a listing alone: 'it took the accepted activations and no others and refreshed the rows it listed and the
-- regular blocks, all in the trace's order'.
use Rattle.std.specs.Prelude.{ℕ, ◌+◌, Bool, true, false, ◌&&◌, cond, List, [], ◌∷◌, ◌++◌, eqb, leb, ltb, take}
use Rattle.std.proofs.Math.Option.{Option, none, some}
use Rattle.device.specs.declared.Settings.{Settings}
use Rattle.device.specs.Refusal.{Outcome, accepted, refused, first_failed}
use Rattle.device.specs.Acceptance.{settings_tests}
use Rattle.device.specs.Remap.{own_remap}
use Rattle.device.specs.Hold.{hold_allowed}
use Rattle.limit.specs.Exact.{Happened, activated, refreshed}
use Rattle.trace.specs.declared.Record.{Record}
use Rattle.trace.specs.declared.Record.TheVariants.{Set, Remap, Activate, Refresh, Blank}
use Rattle.trace.specs.Records.{sixteen_of}
use Rattle.trace.specs.Texts.{outcomes}
use Rattle.steps.specs.Steps.{loaded_by}
use Rattle.silicon.specs.EventLines.{event_lines, rows_named}

-- since the last accepted `S`: whether settings stand, its settings, its remap, the units activated since the last event, and what was done
pub record Silicon : Type 0 where
  -- settings stand: no `S` was refused since
  pub stands : Bool
  pub settings : Settings
  pub remap : List ℕ
  pub units : ℕ
  pub did : List Happened

-- behind a refused `S` no settings stand; what the silicon did since the last accepted one stays, so its rows keep their disturbance
unfoldable pub stopped : Option Silicon → Option Silicon
stopped none = none
stopped (some d) =
    some (record { stands = false; settings = d.settings; remap = d.remap; units = d.units; did = d.did })

-- an `S`: where its settings are accepted, all begins anew with the remap that is loaded; else the silicon is stopped
unfoldable pub set_up_by : List ℕ → Option Silicon → Settings → Option Silicon
set_up_by loaded x s =
    cond (eqb (first_failed (settings_tests s)) 0)
    (some (record { stands = true; settings = s; remap = loaded; units = 0; did = [] }))
    (stopped x)

-- an activation is accepted: settings stand, its row is below N, its hold one of 1 to 16 units, and with them no more than T units are activated since
-- the last event
unfoldable pub takes : Silicon → ℕ → ℕ → Bool
takes d row hold = d.stands && ltb row d.settings.rows && hold_allowed hold && leb (d.units + hold) d.settings.interval

-- 'it took the accepted activations and no others'
unfoldable pub activated_by : ℕ → ℕ → Silicon → Silicon
activated_by row hold d =
    cond (takes d row hold)
    (record {
      stands = d.stands;
      settings = d.settings;
      remap = d.remap;
      units = d.units + hold;
      did = d.did ++ activated d.remap row hold true ∷ [];
    })
    d

-- 'and refreshed the rows it listed and the regular blocks': which block it is, the exact disturbance knows from the events before
unfoldable pub refreshed_by : List ℕ → Silicon → Silicon
refreshed_by named d =
    record {
      stands = d.stands;
      settings = d.settings;
      remap = d.remap;
      units = 0;
      did = d.did ++ refreshed true named ∷ [];
    }

-- where both texts were read to: what the silicon did since the last accepted `S`, if there was one; the remap for the next `S`; and the `R` lines that
-- are left
pub record Walk : Type 0 where
  pub silicon : Option Silicon
  pub loaded : List ℕ
  pub events : List (List ℕ)

-- before the first line of the trace, with all `R` lines of the listing
unfoldable pub begin : List ℕ → Walk
begin listing = record { silicon = none; loaded = own_remap; events = event_lines listing }

-- an event while settings stand takes the next `R` line; where a listing has none left, no row is named
unfoldable pub event_by : List ℕ → List (List ℕ) → Silicon → Walk
event_by loaded [] d = record { silicon = some (refreshed_by [] d); loaded = loaded; events = [] }
event_by loaded (l ∷ ls) d = record { silicon = some (refreshed_by (rows_named l) d); loaded = loaded; events = ls }

-- a record of the trace, by the remap that is loaded, the `R` lines that are left and what the silicon did; an event while no settings stand is refused and
-- prints no `R` line: it takes none and refreshes nothing
unfoldable pub record_by : List ℕ → List (List ℕ) → Option Silicon → Record → Walk
record_by loaded events x (Set s) = record { silicon = set_up_by loaded x s; loaded = loaded; events = events }
record_by loaded events x (Remap table) = record { silicon = x; loaded = loaded_by loaded (sixteen_of table); events = events }
record_by loaded events none (Activate row hold) = record { silicon = none; loaded = loaded; events = events }
record_by loaded events (some d) (Activate row hold) = record { silicon = some (activated_by row hold d); loaded = loaded; events = events }
record_by loaded events none Refresh = record { silicon = none; loaded = loaded; events = events }
record_by loaded events (some d) Refresh =
    cond d.stands (event_by loaded events d) (record { silicon = some d; loaded = loaded; events = events })
record_by loaded events x Blank = record { silicon = x; loaded = loaded; events = events }

-- behind a line of the trace; one that is no record does nothing
unfoldable pub behind : Walk → Outcome Record → Walk
behind w (accepted r) = record_by w.loaded w.events w.silicon r
behind w (refused k) = w

-- behind lines of the trace, 'all in the trace's order'
unfoldable pub walked : Walk → List (Outcome Record) → Walk
walked w [] = w
walked w (o ∷ os) = walked (behind w o) os

-- behind so many lines of the trace: what the silicon did since the last accepted `S`, if there was one
unfoldable pub silicon_after : ℕ → List ℕ → List ℕ → Option Silicon
silicon_after count trace listing = (walked (begin listing) (take count (outcomes trace))).silicon
