-- `tracker::victims::disturb_victims` meets its contract: its victims are the rows around it.
use Rattle.tracker.proofs.Calls.VictimsIn.{victims_around}
use Rattle.tracker.proofs.victims.disturb_victims.Goals as goal

pub returns : goal.returns
returns g c = rw (victims_around c.args.s c.args.row c.lowest_within-low.ensures c.highest_within.ensures c.min-high.ensures) c.disturb_around.ensures
