-- `steps::record::list_record` meets its contract: by the case of the record.
use native.Mathlib.Omega.{arith}
use Rattle.steps.specs.Steps.{remap_step, record_step_to, loaded_behind}
use Rattle.columns.proofs.Output.{prints_nothing}
use Rattle.steps.proofs.Memory.Tracker.{leaves_unmoved, banked_unmoved}
use Rattle.steps.proofs.record.list_record.Goals as goal

pub returns-in-Set : goal.returns-in-Set
unfolding loaded_behind
returns-in-Set c = record { lists_line = rw c.in-Set.is c.list_settings.ensures.lists_line; banked_in = c.list_settings.ensures.banked_in }

pub returns-in-Remap : goal.returns-in-Remap
unfolding record_step_to remap_step loaded_behind
returns-in-Remap c =
    let r = c.remap_line in
    record {
      lists_line = rw (c.in-Remap.is, ← c.sixteen_of.ensures) (leaves_unmoved c.args.p c.args.counts.now r.ensures.place_value _ r.ensures.prints_into);
      banked_in = banked_unmoved c.args.p c.args.counts.now r.ensures.place_value c.requires.1;
    }

pub returns-in-Activate : goal.returns-in-Activate
unfolding loaded_behind
returns-in-Activate c = record { lists_line = rw c.in-Activate.is c.list_activation.ensures.lists_line; banked_in = c.list_activation.ensures.banked_in }

pub returns-in-Refresh : goal.returns-in-Refresh
unfolding loaded_behind
returns-in-Refresh c = record { lists_line = rw c.in-Refresh.is c.list_event.ensures.lists_line; banked_in = c.list_event.ensures.banked_in }

pub returns-in-Blank : goal.returns-in-Blank
unfolding record_step_to loaded_behind
returns-in-Blank c =
    record {
      lists_line = rw c.in-Blank.is (leaves_unmoved c.args.p c.args.counts.now c.at_line.ensures _ (prints_nothing c.args.out.now c.args.at (omega (arith, c.requires.2))));
      banked_in = banked_unmoved c.args.p c.args.counts.now c.at_line.ensures c.requires.1;
    }
