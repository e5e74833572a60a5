-- `steps::line::test_activation` meets its contract: where no tracker stands the sum is not taken, and a hold has at most 16 units.
use mathlib.Core.Path.{sym, ◌∙◌}
use native.Mathlib.Omega.{arith}
use Rattle.device.proofs.Tests.{refuse_passed}
use Rattle.device.proofs.Hold.{hold_between}
use Rattle.steps.proofs.line.test_activation.Goals as goal

pub overflow_add-p : goal.overflow_add-p
overflow_add-p c =
    let stands = (refuse_passed c.args.p.active 10 0 (sym c.in_ok-test.ensures)).0 in
    let held = (refuse_passed c.hold_allowed.result 14 0 (sym c.in_ok-test-3.ensures)).0 in
    omega (arith, c.requires stands, (hold_between c.args.hold (sym c.hold_allowed.ensures ∙ held)).most)
