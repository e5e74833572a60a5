-- `steps::record::remap_line` meets its contract: by the remap.
use native.Mathlib.Omega.{arith}
use Rattle.device.specs.Refusal.{unless, refuse, first_failed}
use Rattle.columns.proofs.Output.{prints_nothing}
use Rattle.steps.specs.Steps.{answered, remap_step, loaded_by}
use Rattle.steps.proofs.record.remap_line.Goals as goal

pub returns-then-not-remap_allowed : goal.returns-then-not-remap_allowed
unfolding remap_step loaded_by answered first_failed unless refuse
returns-then-not-remap_allowed c =
    let off = c.if-not-remap_allowed.true in
    record {
      place_value = rw (← c.remap_allowed.ensures, off) c.list_refusal.ensures.place_value;
      prints_into = rw (← c.remap_allowed.ensures, off) c.list_refusal.ensures.prints_into;
    }

pub returns : goal.returns
unfolding remap_step loaded_by answered first_failed unless refuse
returns c =
    let on = c.if-not-remap_allowed.false in
    record {
      place_value = rw (← c.remap_allowed.ensures, on) c.at_line.ensures;
      prints_into = rw (← c.remap_allowed.ensures, on) (prints_nothing c.args.out.now c.args.at (omega (arith, c.requires)));
    }
