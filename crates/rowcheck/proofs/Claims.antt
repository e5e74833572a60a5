-- The claims of specs/Claims.antt, under their own names.
use mathlib.Core.Path.{◌≡◌, refl, sym, ◌∙◌, ap}
use mathlib.Core.List.{List, []}
use mathlib.Core.Option.{none, some}
use Prim.Native.Nat.{ℕ, suc}
use native.Mathlib.Omega.{arith}
use Rattle.trace.specs.Lines.{ended}
use Rattle.steps.specs.Steps.{start}
use Rattle.steps.proofs.Memory.Progress.{represents_start}
use Rattle.turns.specs.Turns.{first_turned}
use Rattle.checker.specs.Departure.{departure}
use Rattle.checker.specs.Claims.{PassesExactly}
use Rattle.checker.proofs.Claims.{passes_exactly}
use Rattle.laws.proofs.Cases.{zero_one}
use Rattle.trace.specs.Texts.{joined}
use Rattle.turns.specs.Claims.{TurnsListed}
use Rattle.turns.proofs.Claims.{turns_listed}
use Rattle.rowcheck.specs.declared.Answer.{Answer}
use Rattle.rowcheck.specs.declared.Answer.TheVariants.{Open, Passes, Departs, TraceFailed, ListingFailed}
use Rattle.rowcheck.specs.declared.Check.{Check}
use Rattle.rowcheck.specs.Answers.{digits_before, decimal, passes_line, departs_words, line_of, answer_line}
use Rattle.rowcheck.specs.Turns.{first_state, passes, departs}
use Rattle.rowcheck.specs.Claims.{RunsChecked, ChainRuns, RunAnswers, SaysPasses, LinesShown, ProgramPasses, ChainsExist}
use Rattle.rowcheck.proofs.Wanted.{behind, required, to_answer, wanted, Fine}
use Rattle.rowcheck.proofs.Runs.{runs_answer}
use Rattle.rowcheck.proofs.Linked.{chain_runs_to}
use Rattle.rowcheck.proofs.Example.{both_answers}

fine_first : (counts text buffer : List ℕ) → Fine (first_state counts text buffer).turn start
unfolding first_state first_turned ended
fine_first counts text buffer =
    record { represents = represents_start counts; unended = λ on. refl; fits = omega arith }

pub runs_checked : RunsChecked
unfolding RunsChecked first_state first_turned behind required to_answer wanted departure
runs_checked counts text buffer parts given answer run = runs_answer (fine_first counts text buffer) run

pub chain_runs : ChainRuns
unfolding ChainRuns
chain_runs counts text buffer other reads last left parts given chain = (
  λ passed. chain_runs_to chain (passes passed),
  λ departed. chain_runs_to chain (departs [] [] departed),
)

pub run_answers : RunAnswers
unfolding RunAnswers ChainRuns RunsChecked
run_answers counts text buffer other k ran =
    let answers = chain_runs counts text buffer other ran.reads ran.last ran.left ran.parts ran.given ran.chain in
    let came = ran.came in (
      λ passed. sym (runs_checked counts text buffer ran.parts ran.given none (answers.0 (ap (λ (c : Check). c.answer) came ∙ passed))),
      λ departed.
          sym (runs_checked counts text buffer ran.parts ran.given _ (answers.1 (ap (λ (c : Check). c.answer) came ∙ departed))) ∙
          ap (λ (c : Check). some (suc c.lines)) came,
    )

only_passes : (a : Answer) (lines : ℕ) → line_of a lines ≡ passes_line → a ≡ Passes
unfolding line_of passes_line departs_words
only_passes Passes lines e = refl
only_passes Departs lines e = let heads : ◌≡◌ {A = ℕ} 100 112 = cc in absurd (omega arith)
only_passes Open lines e = zero_one (cc)
only_passes TraceFailed lines e = zero_one (cc)
only_passes ListingFailed lines e = zero_one (cc)

pub says_passes : SaysPasses
unfolding SaysPasses answer_line line_of
says_passes k = (λ passed. rw passed, λ said. only_passes k.answer k.lines said)

pub lines_shown : LinesShown
unfolding LinesShown line_of departs_words decimal digits_before
lines_shown = (refl, refl, refl)

pub program_passes : ProgramPasses
unfolding ProgramPasses RunsChecked TurnsListed PassesExactly
program_passes counts text parts out turns counts' text' buffer parts' given answer run same =
    let printed = turns_listed counts text parts out turns in
    let answers = runs_checked counts' text' buffer parts' given answer run in
    let exactly = passes_exactly (joined parts) (joined given) in (
      λ alike. rw (answers, same) (exactly.1 (alike ∙ printed)),
      λ passed. exactly.0 (rw (sym same) (sym answers ∙ passed)) ∙ sym printed,
    )

pub chains_exist : ChainsExist
unfolding ChainsExist
chains_exist counts text other = both_answers counts text other
