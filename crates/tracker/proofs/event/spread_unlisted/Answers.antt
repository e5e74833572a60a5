-- `tracker::event::spread_unlisted` meets its contract.
use Rattle.std.proofs.Common.{refl, sym, ◌∙◌}
use Rattle.summary.specs.Steps.{spread, besides}
use Rattle.summary.proofs.Turned.{turned_as, turned_none}
use Rattle.tracker.proofs.event.spread_unlisted.Goals as goal

pub returns-then-is_listed : goal.returns-then-is_listed
unfolding spread besides
returns-then-is_listed g c = turned_none g.met.L.Ledger.same_reflexive c.requires.kept (rw (sym c.is_listed.ensures ∙ c.if-is_listed.true) refl)

pub returns : goal.returns
unfolding spread besides
returns g c = turned_as c.disturb_victims.ensures (rw (sym c.is_listed.ensures ∙ c.if-is_listed.false) refl)
