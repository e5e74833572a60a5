-- `rowcheck::behind_listing` meets its contract: bytes that a read brought are within what is required.
use Rattle.input.specs.AtHand.{Within}
use Rattle.rowcheck.proofs.behind_listing.Goals as goal

pub given_beside-requires : goal.given_beside-requires
unfolding Within
given_beside-requires c = (λ inside. rw c.in-Bytes.is at (c.requires.most inside), c.requires.required_long, c.requires.given_long, c.requires.few)
