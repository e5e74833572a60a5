-- `steps::line::list_activation` meets its contract: refused, the tracker and the tables are as they were.
use mathlib.Core.Path.{sym}
use native.Mathlib.Omega.{arith}
use Rattle.columns.proofs.Output.{prints_nothing}
use Rattle.steps.proofs.Memory.Tracker.{leaves_unmoved, banked_unmoved}
use Rattle.steps.proofs.Steps.CallLines.{activations_few, activation_refused_step, activation_prints}
use Rattle.steps.proofs.line.list_activation.Goals as goal

pub test_activation-requires : goal.test_activation-requires
test_activation-requires c = activations_few c.args.p c.args.counts.now c.requires.0

pub activated-requires : goal.activated-requires
activated-requires c = (c.requires.0, c.requires.1, sym c.in-Ok.ensures)

pub returns-in-Ok : goal.returns-in-Ok
returns-in-Ok c =
    let d = c.activated in record {
      lists_line = record {
        printed = rw (activation_prints c.args.p c.args.counts.now c.requires.0 c.args.row c.args.hold (sym c.in-Ok.ensures) c.args.line) (prints_nothing c.args.out.now c.args.at (omega (arith, c.requires.2)));
        left = d.ensures.leaves_in;
      };
      banked_in = d.ensures.banked_in;
    }

pub returns-in-Err : goal.returns-in-Err
returns-in-Err c =
    let r = c.list_refusal.ensures in record {
      lists_line = rw (← activation_refused_step c.args.p c.args.counts.now c.requires.0 c.args.line c.args.row c.args.hold c.in-Err.refusal c.in-Err.ensures)
          (leaves_unmoved c.args.p c.args.counts.now r.place_value _ r.prints_into);
      banked_in = banked_unmoved c.args.p c.args.counts.now r.place_value c.requires.1;
    }
