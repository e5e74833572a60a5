-- `checker::check_rest` meets its contract: by what the end of the trace requires, and by what comparing that came to.
use native.Mathlib.Numerals.{add-one}
use native.Mathlib.Omega.{arith}
use Rattle.checker.specs.Comparison.{verdict_of}
use Rattle.checker.proofs.Checks.{last_most, last_lines, last_off, last_surplus, last_fits, last_passes, rest_all}
use Rattle.checker.proofs.check_rest.Goals as goal

pub departs_behind-requires : goal.departs_behind-requires
departs_behind-requires c =
    omega (arith, last_lines c.args.k.lines c.list_end-end.ensures c.args.given.now c.args.k.passed _ c.in-Ok.ensures c.requires.2 c.requires.1, c.well_formed)

pub departs_behind-requires-in-Err : goal.departs_behind-requires-in-Err
departs_behind-requires-in-Err c =
    omega (arith, last_most c.args.k.lines c.list_end-end.ensures c.args.given.now c.args.k.passed _ c.in-Err.ensures c.requires.2 c.requires.1, c.well_formed)

pub returns-in-Ok : goal.returns-in-Ok
unfolding verdict_of
returns-in-Ok c =
    let p = rw (rest_all c.args.trace.now c.args.k.taken) at c.list_end-end.ensures in
    rw (c.departs_behind.ensures, add-one c.in-Ok.lines)
    (last_surplus c.args.k.lines p c.args.given.now c.args.k.passed _ c.in-Ok.ensures (λ same. omega (arith, same, c.if-end-given.true)))

pub returns-in-Ok-2 : goal.returns-in-Ok-2
unfolding verdict_of
returns-in-Ok-2 c =
    let p = rw (rest_all c.args.trace.now c.args.k.taken) at c.list_end-end.ensures in
    let fits = last_fits c.args.k.lines p c.args.given.now c.args.k.passed _ c.in-Ok-2.ensures in
    last_passes c.args.k.lines p c.args.given.now c.args.k.passed _ c.in-Ok-2.ensures (omega (arith, c.if-end-given.false, fits))

pub returns-in-Err : goal.returns-in-Err
unfolding verdict_of
returns-in-Err c =
    let p = rw (rest_all c.args.trace.now c.args.k.taken) at c.list_end-end.ensures in
    rw (c.departs_behind-in-Err.ensures, add-one c.in-Err.lines) (last_off c.args.k.lines p c.args.given.now c.args.k.passed _ c.in-Err.ensures)
