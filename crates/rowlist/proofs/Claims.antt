-- The claim of specs/Claims.antt, under its own name.
use Rattle.turns.specs.Claims.{TurnsListed, ChainTurns}
use Rattle.turns.proofs.Claims.{turns_listed, chain_turns}
use Rattle.rowlist.specs.Claims.{RunListed}

pub run_listed : RunListed
unfolding RunListed TurnsListed ChainTurns
run_listed counts text buffer last written ran no_more none_failed =
    turns_listed counts text ran.parts ran.out
    (chain_turns counts text buffer ran.parts ran.out
    (record { reads = ran.reads; last = last; chain = ran.chain; no_more = no_more; none_failed = none_failed }))
