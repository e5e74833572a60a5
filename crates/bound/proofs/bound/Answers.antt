-- `bound::bound` meets its contract.
use native.Mathlib.Omega.{arith}
use mathlib.Core.Path.{sym}
use Rattle.device.proofs.Acceptance.{accepted_settings}
use Rattle.bound.proofs.bound.Goals as goal

pub bound_at-requires : goal.bound_at-requires
bound_at-requires c =
    let passed = sym c.in_ok-test_settings.ensures in
    let n = (accepted_settings c.args.s passed).others.window in record { s_value = passed; events_nonzero = (omega arith, omega arith) }
