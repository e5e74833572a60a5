-- One line of a trace: what it prints, and what stands behind it.
use Rattle.std.specs.Prelude.{ℕ, zero, suc, cond, List, [], ◌∷◌, take, replicate}
use Rattle.std.proofs.Math.Option.{Option, none, some}
use Rattle.device.specs.declared.Settings.{Settings}
use Rattle.device.specs.Refusal.{Outcome, accepted, refused, unless, first_failed}
use Rattle.device.specs.Acceptance.{most_rows}
use Rattle.device.specs.Remap.{own_remap, remap_allowed}
use Rattle.bound.specs.Totals.{bound_of}
use Rattle.state.specs.declared.Position.{Position}
use Rattle.state.specs.State.{State}
use Rattle.tracker.specs.Calls.{SetUpCall, ActivationCall, RefreshCall, set_up_to, activation_to, refresh_to}
use Rattle.trace.specs.declared.Record.{Record}
use Rattle.trace.specs.declared.Record.TheVariants.{Set, Remap, Activate, Refresh, Blank}
use Rattle.trace.specs.Records.{sixteen_of}
use Rattle.columns.specs.Output.{refusal_line}
use Rattle.steps.specs.Output.{bound_line, refresh_line}

-- a tracker that stands: its settings, the remap of its own `S`, and its state in tables of C places
pub record Tracker : Type 0 where
  pub settings : Settings
  pub remap : List ℕ
  pub state : State

-- where a listing is: the tracker, if one stands, the remap 'for every later `S`', and the number of lines so far
pub record Progress : Type 0 where
  pub tracker : Option Tracker
  pub loaded : List ℕ
  pub count : ℕ

-- before the first line: 'our table is used until one is loaded'
unfoldable pub start : Progress
start = record { tracker = none; loaded = own_remap; count = 0 }

-- what a line prints, and the tracker behind it, if one stands
pub record Step : Type 0 where
  pub prints : List ℕ
  pub tracker : Option Tracker

-- 'a refused line prints `X`, its line number .. and the refusal'
unfoldable pub refused_step : ℕ → ℕ → Option Tracker → Step
refused_step number k left = record { prints = refusal_line number k; tracker = left }

-- 'sets up afresh and prints `B`'; 'after an `S` line of the right form whose settings are refused no tracker stands'
unfoldable pub set_up_step : ℕ → Settings → List ℕ → SetUpCall → Outcome Position → Step
set_up_step number s remap call (accepted p) =
    record {
      prints = bound_line (bound_of s);
      tracker = some (record { settings = s; remap = remap; state = record { rows = call.rows; counts = call.counts; position = p } });
    }
set_up_step number s remap call (refused k) = refused_step number k none

-- what a call prints: its own text where accepted (refusal 0), else `X`
unfoldable pub answered : ℕ → ℕ → List ℕ → List ℕ
answered number zero text = text
answered number (suc k) text = refusal_line number (suc k)

-- 'an accepted `F` prints nothing', and the tracker that stands, if any, goes on as it was; refused it gets 14
unfoldable pub remap_step : ℕ → List ℕ → Option Tracker → Step
remap_step number remap t =
    record {
      prints = answered number (first_failed (unless (remap_allowed remap) 14 ∷ [])) [];
      tracker = t;
    }

-- 'accepted activations .. print nothing'
unfoldable pub activation_step : ℕ → Settings → List ℕ → ActivationCall → Step
activation_step number s remap call =
    record {
      prints = answered number call.refusal [];
      tracker = some (record { settings = s; remap = remap; state = call.state });
    }

-- 'an event prints `R`, its e before the event, the number picked and the picked rows'
unfoldable pub refresh_step : ℕ → Settings → List ℕ → ℕ → RefreshCall → Step
refresh_step number s remap e call =
    record {
      prints = answered number call.refusal (refresh_line e (take call.count call.picks));
      tracker = some (record { settings = s; remap = remap; state = call.state });
    }

-- a record where N may be up to the most, by the remap that is loaded and the tracker that stands; 11: '`A` or `R` while no tracker stands', and `H`. An
-- event is lent a list of V places
unfoldable pub record_step_to : ℕ → ℕ → List ℕ → Option Tracker → Record → Step
record_step_to most number loaded t (Set s) =
    let call = set_up_to most s loaded (replicate s.counters 0) (replicate s.counters 0) in
    set_up_step number s loaded call call.answer
record_step_to most number loaded t (Remap table) = remap_step number (sixteen_of table) t
record_step_to most number loaded none (Activate row hold) = refused_step number 11 none
record_step_to most number loaded (some t) (Activate row hold) =
    activation_step number t.settings t.remap (activation_to most t.settings t.remap t.state row hold)
record_step_to most number loaded none Refresh = refused_step number 11 none
record_step_to most number loaded (some t) Refresh =
    refresh_step number t.settings t.remap t.state.position.events
    (refresh_to most t.settings t.state (replicate t.settings.volume 0))
record_step_to most number loaded t Blank = record { prints = []; tracker = t }

-- a line as it was read: its record or its refusal
unfoldable pub line_step_to : ℕ → ℕ → List ℕ → Option Tracker → Outcome Record → Step
line_step_to most number loaded t (accepted r) = record_step_to most number loaded t r
line_step_to most number loaded t (refused k) = refused_step number k t

-- the remap that is loaded behind another: that one if it is accepted, 'and a refused one changes nothing'
unfoldable pub loaded_by : List ℕ → List ℕ → List ℕ
loaded_by loaded remap = cond (remap_allowed remap) remap loaded

-- behind a line: an `F` loads its own, and no other line unloads it
unfoldable pub loaded_behind : List ℕ → Outcome Record → List ℕ
loaded_behind loaded (accepted (Set s)) = loaded
loaded_behind loaded (accepted (Remap table)) = loaded_by loaded (sixteen_of table)
loaded_behind loaded (accepted (Activate row hold)) = loaded
loaded_behind loaded (accepted Refresh) = loaded
loaded_behind loaded (accepted Blank) = loaded
loaded_behind loaded (refused k) = loaded

-- the next line, 'its line number from 1'
unfoldable pub step_to : ℕ → Progress → Outcome Record → Step
step_to most g o = line_step_to most (suc g.count) g.loaded g.tracker o

-- where the listing is behind that line
unfoldable pub next_to : ℕ → Progress → Outcome Record → Progress
next_to most g o =
    record {
      tracker = (step_to most g o).tracker;
      loaded = loaded_behind g.loaded o;
      count = suc g.count;
    }

-- the same with N up to `most_rows`
abbrev pub record_step : ℕ → List ℕ → Option Tracker → Record → Step
record_step number loaded t r = record_step_to most_rows number loaded t r

abbrev pub line_step : ℕ → List ℕ → Option Tracker → Outcome Record → Step
line_step number loaded t o = line_step_to most_rows number loaded t o

abbrev pub step : Progress → Outcome Record → Step
step g o = step_to most_rows g o

abbrev pub next : Progress → Outcome Record → Progress
next g o = next_to most_rows g o
