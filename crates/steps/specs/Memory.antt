-- How a listing is carried from line to line: a place, and three lent tables with a count for every row of the largest bank and its search aids.
use Rattle.std.specs.Prelude.{ℕ, ◌+◌, ◌%◌, ◌≡◌, true, false, cond, List, length}
use Rattle.std.proofs.Math.Option.{Option, none, some}
use Rattle.device.specs.Refusal.{Outcome}
use Rattle.device.specs.Remap.{own_remap, remap_allowed}
use Rattle.state.specs.State.{State, state_of}
use Rattle.limit.specs.Reachable.{Reached}
use Rattle.aids.specs.Marks.{Marked}
use Rattle.aids.specs.Bounds.{all_bounds}
use Rattle.dense.specs.Dense.{dense, Bank}
use Rattle.steps.specs.declared.Place.{Place}
use Rattle.trace.specs.declared.Record.{Record}
use Rattle.columns.specs.Output.{line_modulus}
use Rattle.steps.specs.Steps.{Tracker, Progress, Step, line_step, loaded_behind}

-- what is carried: the tracker, if one stands, the remap that is loaded, and the lines so far, which are counted modulo 10,000,000,000
pub record Memory : Type 0 where
  pub tracker : Option Tracker
  pub loaded : List ℕ
  pub lines : ℕ

-- the state that a place and a table of counts hold: the summary of the counts, as it lies in tables of C places
abbrev pub state_in : Place → List ℕ → State
state_in p counts = state_of p.settings p.events p.activations (dense counts p.tally.spillover)

-- the tracker that they hold, if one stands
unfoldable pub tracker_in : Place → List ℕ → Option Tracker
tracker_in p counts =
    cond p.active (some (record { settings = p.settings; remap = p.remap; state = state_in p counts })) none

abbrev pub memory : Place → List ℕ → Memory
memory p counts = record { tracker = tracker_in p counts; loaded = p.loaded; lines = p.lines }

-- the same of a call's parameters
abbrev pub memory_of : Place → List ℕ → Memory
memory_of p counts = memory p counts

-- where a listing begins: no tracker stands, our own remap is loaded, no line was read; where a tracker's numbers will stand, 0 and the same remap
unfoldable pub start_place : Place
start_place =
    record {
      active = false;
      settings = record {
        rows = 0;
        blast_diameter = 0;
        volume = 0;
        counters = 0;
        interval = 0;
        window = 0;
        block = 0;
      };
      remap = own_remap;
      events = 0;
      activations = 0;
      tally = record { tracked = 0; spillover = 0; hint = 0 };
      loaded = own_remap;
      lines = 0;
    }

-- a tracker that stands was reached by calls after an accepted setting up, and its remap is an accepted one
unfoldable pub Running : Option Tracker → Type 0
Running none = Unit {0}
Running (some t) = Reached t.settings t.state × (remap_allowed t.remap ≡ true)

-- what is carried is a listing's: a tracker that stands was reached, and the loaded remap is an accepted one
pub record Ready (m : Memory) : Type 0 where
  pub running : Running m.tracker
  pub loadable : remap_allowed m.loaded ≡ true

-- the tables are a listing's: they have a place for every row, mark or bound, and those of a tracker that stands are its bank's
pub record Banked (p : Place) (counts marks bounds : List ℕ) : Type 0 where
  pub marked : Marked counts marks
  pub bounds_long : length bounds ≡ all_bounds
  pub bank : p.active ≡ true → Bank p.settings.rows p.settings.counters counts marks bounds p.tally

abbrev pub BankedIn : Place → List ℕ → List ℕ → List ℕ → Type 0
BankedIn p counts marks bounds = Banked p counts marks bounds

-- what is carried is where a listing is, its lines counted modulo 10,000,000,000
pub record Represents (m : Memory) (g : Progress) : Type 0 where
  pub ready : Ready m
  pub tracker : g.tracker ≡ m.tracker
  pub loaded : g.loaded ≡ m.loaded
  pub lines : m.lines % line_modulus ≡ g.count % line_modulus

-- the number of the line behind so many
unfoldable pub next_number : ℕ → ℕ
next_number lines = lines % line_modulus + 1

-- what the next line does, as it was read, and what it leaves
unfoldable pub step_in : Memory → Outcome Record → Step
step_in m o = line_step (next_number m.lines) m.loaded m.tracker o

unfoldable pub next_in : Memory → Outcome Record → Memory
next_in m o =
    record {
      tracker = (step_in m o).tracker;
      loaded = loaded_behind m.loaded o;
      lines = next_number m.lines;
    }
