-- `aids::bounds::cover` meets its contract. A block's place is before the groups', so that the two stores are at different places.
use native.Mathlib.Omega.{arith}
use lib.ListN.{length-set}
use Rattle.aids.proofs.BoundsCapped.{covers_stored}
use Rattle.aids.proofs.bounds.cover.Goals as goal

pub bounds-bounds-g : goal.bounds-bounds-g
bounds-bounds-g c = rw length-set (omega (arith, c.requires.1.bounds_long))

pub bounds-bounds-g-2 : goal.bounds-bounds-g-2
bounds-bounds-g-2 c = rw length-set (omega (arith, c.requires.1.bounds_long))

pub returns : goal.returns
returns c = covers_stored c.requires.1 c.args.row c.args.count c.max.result c.max-2.result c.requires.0 (omega (arith, c.max.ensures)) (omega (arith, c.max-2.ensures))
