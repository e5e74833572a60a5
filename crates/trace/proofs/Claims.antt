-- The claims of specs/Claims.antt, each under its own name.
use mathlib.Core.Option.{bind}
use borrow.Author.Tests.{eq-eqb}
use lib.ListN.{drop_of_length-le}
use Rattle.trace.specs.Records.{as_activation, numbered, activation, held_activation, record_of}
use Rattle.trace.specs.Claims.{ReadInTurn, OneRecord}
use Rattle.trace.proofs.Texts.FirstLine.{outcomes_none, outcomes_turn}

pub read_in_turn : ReadInTurn
unfolding ReadInTurn
read_in_turn text place = (outcomes_turn text place, λ h. rw (drop_of_length-le text {i = place} h) outcomes_none)

pub one_record : OneRecord
unfolding OneRecord record_of activation as_activation held_activation numbered bind
one_record row one held long e long' e' = rw (eq-eqb _ _ long, e, eq-eqb _ _ long', e')
