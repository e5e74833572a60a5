-- `aids::bounds::top_row` meets its contract. The invariant: the bounds hold. The measure is all bounds together.
use Rattle.device.specs.Acceptance.{most_rows}
use Rattle.aids.proofs.BoundsTop.{highest_is}
use Rattle.aids.proofs.bounds.top_row.Goals as goal

pub try_top-requires : goal.try_top-requires
try_top-requires c = (c.requires.0, c.loop-row.invariant)

pub loop-row-preserved : goal.loop-row-preserved
loop-row-preserved c = (c.in_default.ensures).0

pub loop-row-smaller : goal.loop-row-smaller
loop-row-smaller c = (c.in_default.ensures).1

pub returns-in-Some : goal.returns-in-Some
returns-in-Some c =
    let tried = c.in-Some.ensures in
    (highest_is c.args.counts.now most_rows c.in-Some.row c.requires.0 tried.1, tried.1.inside, tried.0)
