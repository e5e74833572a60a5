-- `tracefmt::between_reads` meets its contract: by what the read came to.
use native.Mathlib.Omega.{arith}
use mathlib.Core.Path.{refl}
use Rattle.input.specs.AtHand.{Within}
use Rattle.tracefmt.specs.Turns.{Turned}
use Rattle.tracefmt.proofs.between_reads.Goals as goal

pub rewrite_chunk-chunk-requires : goal.rewrite_chunk-chunk-requires
unfolding Within
rewrite_chunk-chunk-requires c =
    let within = rw c.in-Bytes.is at c.requires.within in
    (within.1, c.requires.room)

pub returns-in-Bytes : goal.returns-in-Bytes
unfolding Turned
returns-in-Bytes c =
    let chunk = c.rewrite_chunk-chunk in
    rw c.in-Bytes.is ((chunk.ensures.0, c.next_behind.ensures.0, c.next_behind.ensures.1), record { few = chunk.ensures.1; fits = chunk.ensures.2 })

pub returns-in-End : goal.returns-in-End
unfolding Turned
returns-in-End c = rw c.in-End.is ((c.rewrite_end-after.ensures, refl, refl, refl), record { few = c.requires.few; fits = omega arith })

pub returns-in-Failed : goal.returns-in-Failed
unfolding Turned
returns-in-Failed c = rw c.in-Failed.is ((refl, refl, refl, refl), record { few = c.requires.few; fits = omega arith })
