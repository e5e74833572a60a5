-- What is claimed of the silicon behind a listing. proofs/Claims.antt proves each under the same name.
use Rattle.std.specs.Prelude.{ℕ, ◌*◌, ◌≤◌, ◌<◌, ◌≡◌, true, false, List, [], length, get_or, take}
use Rattle.std.proofs.Math.Option.{Option, none, some}
use Rattle.device.specs.Refusal.{accepted}
use Rattle.bound.specs.Totals.{bound_of}
use Rattle.limit.specs.Exact.{exact}
use Rattle.limit.specs.Run.{happened}
use Rattle.limit.specs.Reachable.{Reached}
use Rattle.limit.specs.ByRow.{RowLimited}
use Rattle.trace.specs.declared.Record.TheVariants.{Activate}
use Rattle.trace.specs.Texts.{outcomes}
use Rattle.steps.specs.Output.{refresh_line}
use Rattle.steps.specs.Steps.{Tracker, start, step}
use Rattle.listing.specs.Texts.{passed}
use Rattle.checker.specs.Departure.{departure}
use Rattle.silicon.specs.EventLines.{rows_named}
use Rattle.silicon.specs.Silicon.{Silicon, takes, silicon_after}

-- reading an `R` line gives back the rows that were printed: any that have no more than 6 digits
unfoldable pub NamesBack : Type 0
NamesBack =
    (e : ℕ) (rows : List ℕ) → length rows < 1000000 → ((i : ℕ) → i < length rows → get_or rows i 0 < 1000000) →
    rows_named (refresh_line e rows) ≡ rows

-- the silicon stands as a tracker does: settings stand, the same ones, with the same remap and as many units since the last event
pub record StandsAs (t : Tracker) (x : Option Silicon) : Type 0 where
  pub silicon : Silicon
  pub found : x ≡ some silicon
  pub stands : silicon.stands ≡ true
  pub same_settings : silicon.settings ≡ t.settings
  pub same_remap : silicon.remap ≡ t.remap
  pub same_units : silicon.units ≡ t.state.position.activations

-- after every line of the trace settings stand for the silicon exactly where the trace's own listing has a tracker standing, with the same settings,
-- remap and units, whatever listing it goes by; where none stands, the silicon of an earlier `S` is stopped
unfoldable pub StandsTogether : Type 0
StandsTogether =
    (trace given : List ℕ) (count : ℕ) →
    let tracker = (passed start (take count (outcomes trace))).tracker in
    let x = silicon_after count trace given in
    (tracker ≡ none → (d : Silicon) → x ≡ some d → d.stands ≡ false) × ((t : Tracker) → tracker ≡ some t → StandsAs t x)

-- the activations that the silicon takes are the accepted ones, whatever the listing: those of which the trace's own listing says nothing
unfoldable pub TakesTheAccepted : Type 0
TakesTheAccepted =
    (trace given : List ℕ) (count : ℕ) (d : Silicon) → silicon_after count trace given ≡ some d → (row hold : ℕ) →
    let prints = (step (passed start (take count (outcomes trace))) (accepted (Activate row hold))).prints in
    (takes d row hold ≡ true → prints ≡ []) × (prints ≡ [] → takes d row hold ≡ true)

-- what the silicon did is what the counter is told of calls: of some that lead, after an accepted setting up, where a tracker stands
pub record DidAs (t : Tracker) (d : Silicon) : Type 0 where
  pub reached : Reached t.settings t.state
  pub same : d.did ≡ happened t.settings reached.calls reached.begun

-- 'if it took the accepted activations and no others and refreshed the rows it listed': behind a passed listing, after every line of the trace behind
-- which its own listing has a tracker standing, the silicon did what happened in calls that lead to that tracker
unfoldable pub DidAsRequired : Type 0
DidAsRequired =
    (trace given : List ℕ) → departure trace given ≡ none →
    (count : ℕ) (t : Tracker) (d : Silicon) →
    (passed start (take count (outcomes trace))).tracker ≡ some t → silicon_after count trace given ≡ some d → DidAs t d

-- 'each row's limit, counted anew from each accepted `S`, holds for the silicon behind a passed listing': after every line of the trace each row's exact
-- disturbance is at most 2 × H, at most H in the first window, and at most its closer figures
unfoldable pub SiliconLimited : Type 0
SiliconLimited =
    (trace given : List ℕ) → departure trace given ≡ none →
    (count : ℕ) (d : Silicon) → silicon_after count trace given ≡ some d → (row : ℕ) → row < d.settings.rows →
    let x = exact d.settings d.did in
    (x.disturbance row ≤ 2 * bound_of d.settings) ×
    (x.refreshes < d.settings.window → x.disturbance row ≤ bound_of d.settings) ×
    RowLimited d.settings x row
