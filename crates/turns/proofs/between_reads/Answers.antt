-- `turns::between_reads` meets its contract: by what the read came to.
use native.Mathlib.Omega.{arith}
use Rattle.input.specs.AtHand.{Within}
use Rattle.turns.specs.Turns.{turn_of}
use Rattle.turns.proofs.Turns.{turn_chunk, turn_end}
use Rattle.turns.proofs.between_reads.Goals as goal

pub list_chunk-chunk-requires : goal.list_chunk-chunk-requires
unfolding Within
list_chunk-chunk-requires c =
    let within = rw c.in-Bytes.is at c.requires.2.within in
    (c.requires.0, c.requires.1, within.1, omega (arith, within.1, c.requires.2.room))

pub returns-in-Bytes-clause-out_value : goal.returns-in-Bytes-clause-out_value
returns-in-Bytes-clause-out_value c = rw c.in-Bytes.is (turn_chunk _ _ _ _ _ _ c.list_chunk-chunk.ensures.out_value)

pub returns-in-End-clause-out_value : goal.returns-in-End-clause-out_value
returns-in-End-clause-out_value c = rw c.in-End.is (turn_end _ _ _ _ c.list_end.ensures)

pub returns-in-Failed-clause-out_value : goal.returns-in-Failed-clause-out_value
unfolding turn_of
returns-in-Failed-clause-out_value c = rw c.in-Failed.is
