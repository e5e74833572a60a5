-- `tracefmt::tell_fault` is safe.
use mathlib.Core.Path.{sym}
use native.Mathlib.Omega.{arith}
use lib.Seq.{length-take-le}
use Rattle.columns.proofs.Output.{prints_long}
use Rattle.tracefmt.proofs.tell_fault.Goals as goal

pub slice_bounds-say-end : goal.slice_bounds-say-end
slice_bounds-say-end c =
    let p = c.print_fault-end.ensures in
    omega (arith, p.fits, p.behind, prints_long p)

pub slice_bounds-say-end-2 : goal.slice_bounds-say-end-2
slice_bounds-say-end-2 c =
    let p = c.print_fault-end.ensures in
    sym (length-take-le _ _ (omega (arith, p.fits, p.behind, prints_long p)))
