-- One line further: a tracker that stands stays one that calls reach, and a place keeps holding where the listing is.
use mathlib.Core.Path.{◌≡◌, refl, sym, ◌∙◌, ap}
use mathlib.Core.Bool.{true}
use mathlib.Core.List.{List}
use mathlib.Core.Option.{Option, none, some}
use Prim.Native.Nat.{ℕ, suc, ◌+◌, ◌%◌}
use lib.ListN.{replicate}
use Rattle.device.specs.Remap.{remap_allowed}
use Rattle.device.proofs.Remap.{own_allowed}
use Rattle.laws.proofs.Cases.{split}
use Rattle.device.specs.declared.Settings.{Settings}
use Rattle.device.specs.Refusal.{Outcome, accepted, refused}
use Rattle.state.specs.declared.Position.{Position}
use Rattle.tracker.specs.Calls.{set_up}
use Rattle.limit.proofs.Reachable.{reached_set_up, reached_activation, reached_refresh}
use Rattle.trace.specs.declared.Record.{Record}
use Rattle.trace.specs.declared.Record.TheVariants.{Set, Remap, Activate, Refresh, Blank}
use Rattle.trace.specs.Records.{sixteen_of}
use Rattle.steps.specs.Steps.{Tracker, Progress, start, Step, refused_step, set_up_step, remap_step, activation_step, refresh_step, record_step_to, line_step_to, line_step, loaded_by, loaded_behind, step_to, step, next_to, next}
use Rattle.steps.specs.Memory.{Memory, memory, start_place, tracker_in, Running, Ready, Represents, next_number, step_in, next_in}
use Rattle.columns.proofs.Output.{counted_on}
use Rattle.steps.proofs.Steps.LineNumbers.{line_alike}

set_up_runs : (number : ℕ) (s : Settings) (remap rows counts : List ℕ) (o : Outcome Position) → remap_allowed remap ≡ true → (set_up s remap rows counts).answer ≡ o → Running (set_up_step number s remap (set_up s remap rows counts) o).tracker
unfolding set_up_step refused_step Running
set_up_runs number s remap rows counts (accepted p) ok e =
    (reached_set_up (record { remap = remap; rows = rows; counts = counts; accepts = e; rows_left = refl; counts_left = refl }), ok)
set_up_runs number s remap rows counts (refused k) ok e = tt

-- the loaded remap stays an accepted one
pub loadable_behind : (loaded : List ℕ) (o : Outcome Record) → remap_allowed loaded ≡ true → remap_allowed (loaded_behind loaded o) ≡ true
unfolding loaded_behind loaded_by
loadable_behind loaded (accepted (Set s)) ok = ok
loadable_behind loaded (accepted (Remap table)) ok =
    split (remap_allowed (sixteen_of table)) (λ e. rw e e) (λ e. rw e ok)
loadable_behind loaded (accepted (Activate row hold)) ok = ok
loadable_behind loaded (accepted Refresh) ok = ok
loadable_behind loaded (accepted Blank) ok = ok
loadable_behind loaded (refused k) ok = ok

running_step : (number : ℕ) (loaded : List ℕ) (t : Option Tracker) (o : Outcome Record) → remap_allowed loaded ≡ true → Running t → Running (line_step number loaded t o).tracker
unfolding Running line_step_to record_step_to refused_step remap_step activation_step refresh_step
running_step number loaded t (refused k) ok r = r
running_step number loaded t (accepted (Set s)) ok r = set_up_runs number s loaded (replicate s.counters 0) (replicate s.counters 0) _ ok refl
running_step number loaded t (accepted (Remap table)) ok r = r
running_step number loaded none (accepted (Activate row hold)) ok r = tt
running_step number loaded (some t) (accepted (Activate row hold)) ok r = (reached_activation t.remap row hold r.0, r.1)
running_step number loaded none (accepted Refresh) ok r = tt
running_step number loaded (some t) (accepted Refresh) ok r = (reached_refresh (replicate t.settings.volume 0) r.0, r.1)
running_step number loaded t (accepted Blank) ok r = r

module _ {m : Memory} {g : Progress} (h : Represents m g) (o : Outcome Record) where
  pub step_represented : step_in m o ≡ step g o
  unfolding step_to step_in next_number
  step_represented =
      line_alike (m.lines % 10000000000 + 1) (suc g.count) (counted_on m.lines g.count h.lines) m.loaded m.tracker o ∙
      rw (h.tracker, h.loaded)

  step_running : Running (step_in m o).tracker
  unfolding step_in
  step_running = running_step (next_number m.lines) m.loaded m.tracker o h.ready.loadable h.ready.running

  pub represents_next : Represents (next_in m o) (next g o)
  unfolding next_to next_in next_number
  represents_next =
      record {
        ready = record { running = step_running; loadable = loadable_behind m.loaded o h.ready.loadable };
        tracker = sym (ap (λ (x : Step). x.tracker) step_represented);
        loaded = ap (λ (v : List ℕ). loaded_behind v o) h.loaded;
        lines = counted_on m.lines g.count h.lines;
      }

-- a listing that is where the memory says
pub represents_memory : {m : Memory} → Ready m → Represents m (record { tracker = m.tracker; loaded = m.loaded; count = m.lines })
represents_memory r = record { ready = r; tracker = refl; loaded = refl; lines = refl }

-- and the memory stays a listing's
pub ready_next : {m : Memory} → Ready m → (o : Outcome Record) → Ready (next_in m o)
ready_next r o = (represents_next (represents_memory r) o).ready

-- where a listing begins
pub represents_start : (counts : List ℕ) → Represents (memory start_place counts) start
unfolding start_place start tracker_in Running
represents_start counts =
    record {
      ready = record { running = tt; loadable = own_allowed };
      tracker = refl;
      loaded = refl;
      lines = refl;
    }
