-- What the writer is given and what it answers: 'a definition gives this paper's number and values for every case of the enum'.
use Rattle.std.specs.Prelude.{ℕ, List, map, Result}
use Rattle.laws.specs.Lent.{Lent}
use Rattle.device.specs.declared.refusal.Refusal.{Refusal}
use Rattle.device.specs.Refusal.{Outcome, outcome}
use Rattle.trace.specs.declared.Record.{Record}
use Rattle.trace.specs.declared.Read.{Read}
use Rattle.trace.specs.Reading.{said}
use Rattle.canonical.specs.Writing.{Writing}

-- what the reader's answers say
unfoldable pub outcome_of : Read → Outcome Record
outcome_of answer = (said answer).outcome

unfoldable pub outcomes_of : List Read → List (Outcome Record)
outcomes_of answers = map outcome_of answers

-- what an answer of the code says, with what was left in the lent text
abbrev pub write_left : Result ℕ Refusal → Lent → Writing
write_left r text = record { answer = outcome r; text = text.exit.now }
