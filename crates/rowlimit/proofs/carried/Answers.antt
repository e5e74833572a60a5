-- `rowlimit::carried` meets its contract: the row's own event is one of the window's, so that no difference is cut off.
use Prim.Native.Nat.{ℕ, ◌*◌, ◌^◌, ◌≤◌, ◌<◌}
use native.Mathlib.Nat.{mul-le-mul}
use native.Mathlib.Omega.{arith}
use Rattle.std.proofs.lemmas.Grind.{common_steps}
use Rattle.device.proofs.Acceptance.{accepted_settings}
use Rattle.bound.specs.Totals.{bound_of}
use Rattle.bound.proofs.Totals.Bound.{disturbers_le}
use Rattle.limit.specs.ByRow.{own_event, carried_most}
use Rattle.limit.proofs.ByRow.{own_early}
use Rattle.rowlimit.proofs.carried.Goals as goal

product_lt : {t k : ℕ} → t ≤ 4176 → k ≤ 8192 → t * k < 2 ^ 64
product_lt ht hk = omega (arith, mul-le-mul ht hk)

-- less can have gathered than H
pub overflow_sub-later : goal.overflow_sub-later
overflow_sub-later c = omega (arith, (accepted_settings c.args.s c.requires.s_value).others.window.least)

pub nonzero_div-later : goal.nonzero_div-later
nonzero_div-later c = (accepted_settings c.args.s c.requires.s_value).others.block.least

pub overflow_sub-later-2 : goal.overflow_sub-later-2
unfolding own_event
overflow_sub-later-2 c = omega (arith, own_early c.args.s (accepted_settings c.args.s c.requires.s_value) c.args.row c.requires.row_lt_rows.0)

pub overflow_mul-gathered : goal.overflow_mul-gathered
overflow_mul-gathered c =
    let ok = (accepted_settings c.args.s c.requires.s_value).others in
    rw c.disturbers_of.ensures (record { fits = product_lt (disturbers_le c.args.s ok) (omega (arith, ok.window.most)) })

pub returns-then-gathered-least : goal.returns-then-gathered-least
unfolding carried_most own_event
returns-then-gathered-least c =
    let told = c.disturbers_of.ensures in
    let least = c.requires.row_lt_rows.1 in
    rw told (omega (arith, rw told at c.if-gathered-least.true, least))

pub bound_at-requires : goal.bound_at-requires
bound_at-requires c = let n = (accepted_settings c.args.s c.requires.s_value).others.window in record { s_value = c.requires.s_value; events_nonzero = (omega (arith, n.least), omega (arith, n.most)) }

pub returns : goal.returns
unfolding carried_most own_event bound_of
returns c = grind (arith, common_steps)
