-- `rowcheck::listing_step` meets its contract.
use mathlib.Core.Path.{refl}
use native.Mathlib.Omega.{arith}
use Rattle.rowcheck.proofs.Steps.{lines_behind, comparable}
use Rattle.rowcheck.proofs.listing_step.Goals as goal

pub behind_listing-requires : goal.behind_listing-requires
behind_listing-requires c =
    let r = c.read_listing-input in
    comparable {k = c.args.from.check} c.args.out.now r.ensures r.auto.given c.requires.0 c.requires.1 c.requires.2

pub returns-clause-turn_value : goal.returns-clause-turn_value
returns-clause-turn_value c =
    let r = c.read_listing-input in
    let read = comparable {k = c.args.from.check} c.args.out.now r.ensures r.auto.given c.requires.0 c.requires.1 c.requires.2 in
    (refl, rw c.behind_listing.ensures (omega (arith, lines_behind c.args.from.check c.args.out.now r.new.given c.args.from.turn.end r.result read, r.auto.given)))
