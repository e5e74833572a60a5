-- `listing::start` meets its contract.
use Rattle.steps.specs.Memory.{start_place}
use Rattle.listing.proofs.start.Goals as goal

pub returns : goal.returns
unfolding start_place
returns c = rw c.own_remap-remap.ensures
