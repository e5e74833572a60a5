-- `rowcheck::read_listing` meets its contract: into the front of the buffer, or into all of it.
use mathlib.Core.Path.{◌∙◌}
use lib.Seq.{length-take-le}
use Rattle.rowcheck.proofs.Steps.{read_part, read_whole}
use Rattle.rowcheck.proofs.read_listing.Goals as goal

pub returns-then-at-end : goal.returns-then-at-end
returns-then-at-end c =
    let r = c.read_from in
    read_part _ c.args.at c.args.end c.args.given.now r.new.text _ c.if-at-end.true (r.auto.text ∙ length-take-le c.args.end c.args.given.now c.requires) r.ensures

pub returns : goal.returns
returns c = read_whole _ _ _ _ _ c.if-at-end.false c.read_from-2.ensures
