-- What the functions of this crate promise of a line: what it printed, and what it left.
use Rattle.std.specs.Prelude.{ℕ, ◌+◌, ◌≡◌, not, List, leb, ltb}
use Rattle.std.proofs.Math.Option.{Option}
use Rattle.laws.specs.Lent.{Lent}
use Rattle.device.specs.Refusal.{Outcome, accepted, refused, refuse}
use Rattle.device.specs.Hold.{hold_allowed}
use Rattle.dense.specs.declared.Tally.{Tally}
use Rattle.columns.specs.Output.{refusal_line, Prints}
use Rattle.steps.specs.declared.Place.{Place}
use Rattle.steps.specs.declared.Listed.{Listed}
use Rattle.steps.specs.Output.{bound_line}
use Rattle.steps.specs.Steps.{Tracker, Step}
use Rattle.steps.specs.Memory.{Memory, memory_of}

-- what a settings line prints, by the bound's answer
unfoldable pub settings_line : ℕ → Outcome ℕ → List ℕ
settings_line number (accepted h) = bound_line h
settings_line number (refused k) = refusal_line number k

-- a place with another loaded remap, at a line
abbrev pub at_line : Place → List ℕ → ℕ → Place
at_line p loaded line =
    record {
      active = p.active;
      settings = p.settings;
      remap = p.remap;
      events = p.events;
      activations = p.activations;
      tally = p.tally;
      loaded = loaded;
      lines = line;
    }

-- a place whose tracker moved on, at a line
abbrev pub moved : Place → ℕ → ℕ → Tally → ℕ → Place
moved p events activations tally line =
    record {
      active = p.active;
      settings = p.settings;
      remap = p.remap;
      events = events;
      activations = activations;
      tally = tally;
      loaded = p.loaded;
      lines = line;
    }

-- the refusal of an activation line, 0 where there is none: of the tests, those that a state which a listing reached can fail
unfoldable pub activation_refusal : Place → ℕ → ℕ → ℕ
activation_refusal p row hold =
    refuse (not p.active) 11
    (refuse (not (ltb row p.settings.rows)) 9
    (refuse (not (hold_allowed hold)) 15
    (refuse (not (leb (p.activations + hold) p.settings.interval)) 22 0)))

-- the memory that a line left, with its number as so many lines, and what it printed
pub record Leaves (step : Step) (loaded : List ℕ) (line : ℕ) (m : Memory) (before : List ℕ) (at : ℕ) (after : List ℕ) (end : ℕ) : Type 0 where
  pub printed : Prints before at step.prints after end
  pub left : m ≡ record { tracker = step.tracker; loaded = loaded; lines = line }

-- the same of the functions' parameters: a line that printed something, and one that prints nothing
abbrev pub ListsLine : Step → List ℕ → ℕ → Lent → Lent → ℕ → Listed → Type 0
ListsLine step loaded line counts out at r =
    Leaves step loaded line (memory_of r.place counts.exit.now) out.entry.now at out.exit.now r.end

abbrev pub LeavesIn : Option Tracker → List ℕ → ℕ → Lent → Place → Type 0
LeavesIn tracker loaded line counts p =
    memory_of p counts.exit.now ≡ record { tracker = tracker; loaded = loaded; lines = line }
