-- `aids::bounds::highest` meets its contract. The invariant: the best is the highest of the places passed.
use mathlib.Core.Path.{◌≡◌}
use native.Mathlib.Omega.{arith}
use Rattle.std.proofs.Common.{rules}
use Rattle.aids.proofs.BoundsTop.{highest_start, highest_next}
use Rattle.aids.proofs.bounds.highest.Goals as goal

pub loop-i-init : goal.loop-i-init
loop-i-init c = (highest_start c.args.t.now c.args.from, search rules)

pub loop-i-preserved : goal.loop-i-preserved
loop-i-preserved c = (rw c.max-best.ensures (highest_next c.loop-i.invariant.0), search rules)

pub returns : goal.returns
returns c =
    let l = c.loop-i.invariant in
    let done : c.loop-i.i ≡ c.args.to = omega (arith, l.1, c.loop-i-test.false) in
    rw done at l.0
