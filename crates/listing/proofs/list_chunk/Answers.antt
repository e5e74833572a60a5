-- `listing::list_chunk` meets its contract.
use native.Mathlib.Nat.{sub-zero}
use Rattle.steps.specs.Memory.{memory}
use Rattle.listing.proofs.Parts.Moves.{chunk_parts}
use Rattle.listing.proofs.list_chunk.Goals as goal

pub list_part-part-requires : goal.list_part-part-requires
list_part-part-requires c = (c.requires.0, c.requires.1)

pub returns : goal.returns
returns c =
    let a = c.args in
    let l = c.list_part-part in
    let k = c.keep-kept in record { out_value = chunk_parts (memory a.p a.counts.now) a.text.now a.len a.out.now (rw (sub-zero a.len) at l.ensures.out_value) k.ensures.0 k.ensures.1; banked_in = l.ensures.banked_in }
