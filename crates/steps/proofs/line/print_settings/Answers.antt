-- `steps::line::print_settings` meets its contract.
use native.Mathlib.Omega.{arith}
use Rattle.device.specs.Refusal.{outcome}
use Rattle.bound.specs.Answers.{Small}
use Rattle.steps.specs.InnerContracts.{settings_line}
use Rattle.steps.proofs.line.print_settings.Goals as goal

pub print_bound-requires : goal.print_bound-requires
unfolding outcome Small
print_bound-requires c =
    let small = rw c.in-Ok.is at c.requires.1 in
    (omega (arith, c.requires.0), omega (arith, small))

pub returns-in-Ok : goal.returns-in-Ok
unfolding outcome settings_line
returns-in-Ok c = rw c.in-Ok.is c.print_bound.ensures

pub returns-in-Err : goal.returns-in-Err
unfolding outcome settings_line
returns-in-Err c = rw (c.in-Err.is, ← c.number.ensures) c.print_refusal.ensures
