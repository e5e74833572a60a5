-- `checker::check_part` meets its contract: by what was listed, and by what comparing that came to.
use mathlib.Core.Path.{refl}
use mathlib.Core.Bool.{true}
use native.Mathlib.Numerals.{add-one}
use native.Mathlib.Omega.{arith}
use lib.Seq.{length-take-le}
use Rattle.checker.proofs.Cuts.{cut_part}
use Rattle.checker.proofs.Checks.{departs_within, part_departs, taken_within, part_passes, passes_onward, rest_all}
use Rattle.checker.proofs.check_part.Goals as goal

pub slice_bounds-piece-end : goal.slice_bounds-piece-end
slice_bounds-piece-end c =
    let cut = cut_part _ _ c.requires.0.represents c.list_part-part.ensures.out_value in
    omega (arith, cut.fits)

pub slice_bounds-compare-end : goal.slice_bounds-compare-end
slice_bounds-compare-end c =
    let cut = cut_part _ _ c.requires.0.represents c.list_part-part.ensures.out_value in
    omega (arith, cut.fits, length-take-le c.list_part-part.result.end c.list_part-part.new.out cut.fits)

pub overflow_add-result : goal.overflow_add-result
overflow_add-result c =
    let cut = cut_part _ _ c.requires.0.represents (rw (rest_all c.args.trace.now c.args.k.taken) at c.list_part-part.ensures.out_value) in
    record { fits = omega (arith, taken_within c.requires.0 cut, c.well_formed) }

pub overflow_add-result-in-Ok : goal.overflow_add-result-in-Ok
overflow_add-result-in-Ok c =
    let cut = cut_part _ _ c.requires.0.represents (rw (rest_all c.args.trace.now c.args.k.taken) at c.list_part-part.ensures.out_value) in
    let within = (part_passes c.requires.0 cut _ c.list_part-part.result.place true c.in-Ok.ensures).passed in
    record { fits = omega (arith, within, c.well_formed) }

pub overflow_sub-result : goal.overflow_sub-result
overflow_sub-result c =
    let cut = cut_part _ _ c.requires.0.represents c.list_part-part.ensures.out_value in
    omega (arith, cut.small)

pub departs_behind-requires : goal.departs_behind-requires
departs_behind-requires c =
    let cut = cut_part _ _ c.requires.0.represents (rw (rest_all c.args.trace.now c.args.k.taken) at c.list_part-part.ensures.out_value) in
    omega (arith, departs_within c.requires.0 cut _ c.in-Err.ensures, c.well_formed)

pub returns-in-Ok-clause-goes_on : goal.returns-in-Ok-clause-goes_on
returns-in-Ok-clause-goes_on c =
    let cut = cut_part _ _ c.requires.0.represents (rw (rest_all c.args.trace.now c.args.k.taken) at c.list_part-part.ensures.out_value) in
    (part_passes c.requires.0 cut _ _ _ c.in-Ok.ensures, passes_onward c.requires.0 cut _ _ _ refl (omega arith) (omega arith), c.list_part-part.ensures.banked_in)

pub returns-in-Err-clause-departs : goal.returns-in-Err-clause-departs
returns-in-Err-clause-departs c =
    let cut = cut_part _ _ c.requires.0.represents (rw (rest_all c.args.trace.now c.args.k.taken) at c.list_part-part.ensures.out_value) in
    rw (c.departs_behind.ensures, add-one c.in-Err.lines) (part_departs c.requires.0 cut _ c.in-Err.ensures)
