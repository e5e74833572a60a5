-- `rowlimit::figure` meets its contract: neither figure comes near 2^64.
use Prim.Native.Nat.{◌/◌, ◌^◌, ◌≤◌, ◌<◌}
use native.Mathlib.Omega.{arith}
use borrow.Author.Tests.{lt-ltb, le-ltb}
use Rattle.device.proofs.Acceptance.{accepted_settings}
use Rattle.bound.specs.Totals.{bound_of}
use Rattle.bound.proofs.Totals.Bound.{bound_grows, bound_at_lt, bound_lt}
use Rattle.limit.specs.ByRow.{own_event, first_figure, second_figure, row_figure}
use Rattle.limit.proofs.ByRow.{carried_most_le}
use Rattle.rowlimit.proofs.figure.Goals as goal

-- H(e + 1) is at most H(n)
pub overflow_add-events : goal.overflow_add-events
overflow_add-events c = omega (arith, (accepted_settings c.args.s c.requires.s_value).others.window.most, c.requires.events_lt_window.0)

pub bound_at-first-requires : goal.bound_at-first-requires
bound_at-first-requires c = let n = (accepted_settings c.args.s c.requires.s_value).others.window in record { s_value = c.requires.s_value; events_nonzero = (omega arith, omega (arith, n.most, c.requires.events_lt_window.0)) }

pub nonzero_div-row : goal.nonzero_div-row
nonzero_div-row c = (accepted_settings c.args.s c.requires.s_value).others.block.least

pub carried-requires : goal.carried-requires
unfolding bound_of
carried-requires c = record { s_value = c.requires.s_value; row_lt_rows = (c.requires.events_lt_window.1, rw c.bound_at-first.ensures (bound_grows c.args.s (omega (arith, c.requires.events_lt_window.0)))) }

pub overflow_add-result : goal.overflow_add-result
overflow_add-result c =
    let s = c.args.s in
    let first = c.bound_at-first in
    let ok = (accepted_settings s c.requires.s_value).others in
    let one : first.result < 2 ^ 29 = rw first.ensures (bound_at_lt s _ ok (omega (arith, ok.window.most, c.requires.events_lt_window.0))) in
    let other : c.carried.result ≤ bound_of s = rw c.carried.ensures (carried_most_le s c.args.row) in
    omega (arith, bound_lt s ok)

pub returns-then-row-s : goal.returns-then-row-s
unfolding row_figure first_figure own_event
returns-then-row-s c =
    let a = c.args in
    rw (c.bound_at-first.ensures, lt-ltb (a.row / a.s.block) a.events (omega (arith, c.if-row-s.true)))

pub returns-else-row-s : goal.returns-else-row-s
unfolding row_figure first_figure second_figure own_event
returns-else-row-s c =
    let a = c.args in
    rw (
      c.bound_at-first.ensures,
      le-ltb (a.row / a.s.block) a.events (omega (arith, c.if-row-s.false)),
      c.carried.ensures,
    )
