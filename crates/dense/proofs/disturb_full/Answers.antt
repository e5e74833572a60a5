-- `dense::disturb_full` meets its contract.
use Prim.Native.Nat.{◌<◌}
use native.Mathlib.Omega.{arith}
use Rattle.device.specs.Acceptance.{most_rows}
use Rattle.dense.proofs.InnerContracts.DisturbedIn.{spill_zero, spill_nowhere, found_row, exchange}
use Rattle.dense.proofs.disturb_full.Goals as goal

pub returns-then-s-eq0 : goal.returns-then-s-eq0
returns-then-s-eq0 c = let p = c.requires in spill_zero p.0 p.1 p.2 p.3 p.4 c.if-s-eq0.true

pub first_at-requires : goal.first_at-requires
first_at-requires c =
    let p = c.requires in
    let pos : 0 < c.args.t.spillover = omega (arith, c.if-s-eq0.false) in
    (p.0.marked, pos, p.2, p.1, p.0.clear pos)

pub returns-in_default : goal.returns-in_default
returns-in_default c = let p = c.requires in spill_nowhere p.0 p.1 p.2 p.3 p.4 (omega (arith, c.if-s-eq0.false)) c.in_default.ensures

pub remove-requires : goal.remove-requires
remove-requires c =
    let p = c.requires in
    let found = c.in-Some in
    let r = found_row p.0 p.1 p.2 p.3 p.4 found.found (omega (arith, c.if-s-eq0.false)) found.ensures.0 found.ensures.1 in
    (p.0.marked, r.0, r.1)

pub overflow_cast-result : goal.overflow_cast-result
overflow_cast-result c = omega (arith, c.in-Some.ensures.0, c.requires.0.marked.counts_long)

pub returns : goal.returns
returns c =
    let p = c.requires in
    let found = c.in-Some in
    let less : found.found < most_rows = omega (arith, found.ensures.0, p.0.marked.counts_long) in
    exchange p.0 p.1 p.2 p.3 p.4 found.found (omega (arith, c.if-s-eq0.false)) found.ensures.1 less c.remove.ensures.counts_after c.remove.ensures.marked c.enter.ensures.counts_after c.enter.ensures.marked
