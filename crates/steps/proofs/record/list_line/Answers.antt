-- `steps::record::list_line` meets its contract: by the reader's answer.
use Rattle.device.specs.Refusal.{outcome}
use Rattle.trace.specs.Reading.{said}
use Rattle.steps.specs.Steps.{line_step_to, refused_step, loaded_behind}
use Rattle.steps.specs.Memory.{next_number, step_in}
use Rattle.steps.proofs.Memory.Tracker.{leaves_unmoved, banked_unmoved}
use Rattle.steps.proofs.record.list_line.Goals as goal

pub returns-in-Ok : goal.returns-in-Ok
unfolding said outcome step_in line_step_to next_number
returns-in-Ok c = record { lists_line = rw c.in-Ok.is c.list_record.ensures.lists_line; banked_in = c.list_record.ensures.banked_in }

pub returns-in-Err : goal.returns-in-Err
unfolding said outcome step_in line_step_to refused_step loaded_behind next_number
returns-in-Err c =
    let r = c.list_refusal.ensures in record {
      lists_line = rw c.in-Err.is (leaves_unmoved c.args.p c.args.counts.now r.place_value _ r.prints_into);
      banked_in = banked_unmoved c.args.p c.args.counts.now r.place_value c.requires.1;
    }
