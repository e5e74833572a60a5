-- `tracefmt::rewrite_chunk` meets its contract.
use native.Mathlib.Nat.{sub-zero}
use native.Mathlib.Omega.{arith}
use lib.Seq.{length-take-le}
use Rattle.tracefmt.proofs.WholePart.{chunk_moves}
use Rattle.tracefmt.proofs.rewrite_chunk.Goals as goal

pub rewrite_part-part-requires : goal.rewrite_part-part-requires
rewrite_part-part-requires c =
    let a = c.args in
    rw (sub-zero a.len) (omega (arith, length-take-le a.len a.text.now c.requires.0, c.requires))

pub returns : goal.returns
returns c =
    let a = c.args in
    let part = c.rewrite_part-part in
    let keep = c.keep-kept in
    chunk_moves a.text.now a.len (rw (sub-zero a.len) at part.ensures) keep.ensures.0 keep.ensures.1
