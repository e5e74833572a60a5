-- `RunsOn`: a run of accepted activation lines, one line further.
use mathlib.Core.Path.{◌≡◌, refl, ◌∙◌, ap}
use mathlib.Core.Bool.{true}
use mathlib.Core.List.{List}
use Prim.Native.Nat.{ℕ, zero, suc, ◌+◌, ◌*◌, ◌%◌, ◌≤◌, ◌<◌}
use native.Mathlib.Omega.{arith}
use borrow.Author.Tests.{lt-ltb, le-leb}
use lib.ListN.{length}
use Rattle.device.specs.Refusal.{accepted, refuse}
use Rattle.device.specs.Acceptance.{within}
use Rattle.device.specs.Hold.{hold_allowed, repeated}
use Rattle.device.specs.Remap.{physical}
use Rattle.device.specs.Victims.{victims}
use Rattle.summary.specs.Steps.{activation}
use Rattle.dense.specs.declared.Tally.{Tally}
use Rattle.dense.specs.Dense.{dense}
use Rattle.dense.specs.InnerContracts.{Turned}
use Rattle.trace.specs.declared.Record.TheVariants.{Activate}
use Rattle.trace.specs.Reading.{Reading, reading}
use Rattle.columns.proofs.Output.{prints_nothing}
use Rattle.trace.proofs.Reading.Activations.{Activates}
use Rattle.steps.specs.declared.Place.{Place}
use Rattle.steps.specs.Steps.{line_step_to, loaded_behind}
use Rattle.steps.specs.Memory.{Memory, memory, Ready, Banked, next_number, step_in, next_in}
use Rattle.steps.specs.InnerContracts.{moved, activation_refusal, Leaves}
use Rattle.listing.specs.InnerContracts.{numbers_on, RunsOn}
use Rattle.steps.proofs.Memory.Progress.{ready_next}
use Rattle.steps.proofs.Steps.CallLines.{banked_moved, activation_prints, activation_moves}
use Rattle.listing.proofs.Chunks.PartLoop.{come, going_on}

pub runs_none : (text : List ℕ) {m : Memory} (from : ℕ) → Ready m → from ≤ length text → RunsOn text m from m from
runs_none text from ready h = record { ready = ready; within = h; onward = omega arith; same = λ buffer end room. refl }

-- the number behind one line more and others
pub numbers_more : (lines count : ℕ) → numbers_on lines (suc count) ≡ (lines % 10000000000 + count) % 10000000000 + 1
unfolding numbers_on next_number
numbers_more lines zero = omega arith
numbers_more lines (suc count) = rw (numbers_more lines count) (omega arith)

-- an activation of one unit is accepted where the row is the bank's and the interval has room
pub one_unit_free : (p : Place) (row : ℕ) → p.active ≡ true → row < p.settings.rows → p.activations < p.settings.interval → activation_refusal p row 1 ≡ 0
unfolding activation_refusal refuse hold_allowed within
one_unit_free p row on inside less =
    rw (on, lt-ltb row p.settings.rows inside, le-leb (p.activations + 1) p.settings.interval (omega arith))

-- how far a run has come: the place that its numbers make
pub record Running (text : List ℕ) (p : Place) (counts₀ : List ℕ) (from : ℕ) (counts marks bounds : List ℕ) (activations : ℕ) (tally : Tally) (at : ℕ) : Type 0 where
  pub count : ℕ
  pub far : at ≡ from + 8 * count
  pub runs : RunsOn text (memory p counts₀) from (memory (moved p p.events activations tally (numbers_on p.lines count)) counts) at
  pub banked : Banked (moved p p.events activations tally (numbers_on p.lines count)) counts marks bounds

module _ {text : List ℕ} {p : Place} {counts₀ : List ℕ} {from : ℕ} {counts marks bounds : List ℕ} {activations : ℕ} {tally : Tally} {at : ℕ} (l : Running text p counts₀ from counts marks bounds activations tally at) (on : p.active ≡ true) (row : ℕ) (inside : row < p.settings.rows) (less : activations < p.settings.interval) where
  pub run_free : activation_refusal (moved p p.events activations tally (numbers_on p.lines l.count)) row 1 ≡ 0
  run_free = one_unit_free (moved p p.events activations tally (numbers_on p.lines l.count)) row on inside less

  module _ {counts' marks' bounds' : List ℕ} {t : Tally} (turned : Turned p.settings.rows p.settings.counters (repeated 1 (activation p.settings.counters (victims p.settings.rows p.settings.blast_diameter) (physical p.remap row)) (dense counts tally.spillover)) counts' marks' bounds' t) where
    -- what the line left
    left : memory (moved p p.events (activations + 1) t (numbers_on p.lines (suc l.count))) counts' ≡ next_in (memory (moved p p.events activations tally (numbers_on p.lines l.count)) counts) (accepted (Activate row 1))
    unfolding numbers_on next_in step_in line_step_to loaded_behind
    left = activation_moves (moved p p.events activations tally (numbers_on p.lines l.count)) counts l.runs.ready row 1 run_free (numbers_on p.lines (suc l.count)) refl turned

    leaves : (buffer : List ℕ) (end : ℕ) → end ≤ length buffer → Leaves (step_in (memory (moved p p.events activations tally (numbers_on p.lines l.count)) counts) (accepted (Activate row 1))) (loaded_behind p.loaded (accepted (Activate row 1))) (numbers_on p.lines (suc l.count)) (memory (moved p p.events (activations + 1) t (numbers_on p.lines (suc l.count))) counts') buffer end buffer end
    unfolding numbers_on step_in line_step_to loaded_behind next_in
    leaves buffer end fits =
        record {
          printed = rw (activation_prints (moved p p.events activations tally (numbers_on p.lines l.count)) counts l.runs.ready row 1 run_free (numbers_on p.lines (suc l.count))) (prints_nothing buffer end fits);
          left = left;
        }

    pub running_more : Activates text at row → Running text p counts₀ from counts' marks' bounds' (activations + 1) t (at + 8)
    unfolding numbers_on
    running_more next =
        let says : (reading text at).outcome ≡ accepted (Activate row 1) = ap (λ (r : Reading). r.outcome) next.reads in
        let behind : (reading text at).place ≡ at + 8 = ap (λ (r : Reading). r.place) next.reads in
        record {
          count = suc l.count;
          far = omega (arith, l.far);
          runs = record {
            ready = rw left (ready_next l.runs.ready (accepted (Activate row 1)));
            within = next.inside;
            onward = omega (arith, l.runs.onward);
            same = λ buffer end room.
                let left_by : Leaves (step_in (memory (moved p p.events activations tally (numbers_on p.lines l.count)) counts) (reading text at).outcome) (loaded_behind p.loaded (reading text at).outcome) (numbers_on p.lines (suc l.count)) (memory (moved p p.events (activations + 1) t (numbers_on p.lines (suc l.count))) counts') buffer end buffer end =
                rw says (leaves buffer end (omega arith)) in
                l.runs.same buffer end room ∙
                rw behind at (going_on text (come (moved p p.events activations tally (numbers_on p.lines l.count)) counts buffer at end) (omega arith) next.ends room left_by);
          };
          banked = banked_moved p p.events (activations + 1) (numbers_on p.lines (suc l.count)) turned;
        }
