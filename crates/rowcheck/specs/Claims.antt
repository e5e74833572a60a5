-- What is claimed of the program, besides its functions' contracts. proofs/Claims.antt proves each under the same name.
use Rattle.std.specs.Prelude.{ℕ, suc, ◌≡◌, List, [], ◌∷◌, replicate}
use Rattle.std.proofs.Math.Option.{Option, none, some}
use Rattle.trace.specs.Texts.{joined}
use Rattle.steps.specs.Memory.{memory, start_place}
use Rattle.turns.specs.Turns.{Turns}
use Rattle.checker.specs.Departure.{departure}
use Rattle.rowcheck.specs.declared.Answer.{Answer}
use Rattle.rowcheck.specs.declared.Answer.TheVariants.{Passes, Departs}
use Rattle.rowcheck.specs.declared.Check.{Check}
use Rattle.rowcheck.specs.Answers.{passes_line, line_of, answer_line}
use Rattle.rowcheck.specs.Turns.{State, first_state, Chain, Ran, Runs}
use Rattle.rowcheck.specs.Example.{example_trace, example_listing, other_listing}

-- however both files come in parts: what a run answers is the first line at which all that the listing's reads brought departs from what all that the
-- trace's reads brought requires
unfoldable pub RunsChecked : Type 0
RunsChecked =
    (counts text buffer : List ℕ) (parts given : List (List ℕ)) (answer : Option ℕ) →
    Runs (first_state counts text buffer) parts given answer → answer ≡ departure (joined parts) (joined given)

-- a chain of steps that ends in an answer is what `RunsChecked` speaks of, with that answer
unfoldable pub ChainRuns : Type 0
ChainRuns =
    (counts text buffer other : List ℕ) (reads : ℕ) (last : State) (left : List ℕ) (parts given : List (List ℕ)) →
    let first = first_state counts text buffer in
    Chain first other reads last left parts given →
    (last.check.answer ≡ Passes → Runs first parts given none) ×
    (last.check.answer ≡ Departs → Runs first parts given (some (suc last.check.lines)))

-- of a run: where it says that the listing passes, nothing departs in what its reads brought; where it says that a line departs, that line is the first
unfoldable pub RunAnswers : Type 0
RunAnswers =
    (counts text buffer other : List ℕ) (k : Check) (ran : Ran (first_state counts text buffer) other k) →
    (k.answer ≡ Passes → departure (joined ran.parts) (joined ran.given) ≡ none) ×
    (k.answer ≡ Departs → departure (joined ran.parts) (joined ran.given) ≡ some (suc k.lines))

-- the line that is written is `passes` exactly where that is the answer
unfoldable pub SaysPasses : Type 0
SaysPasses = (k : Check) → (k.answer ≡ Passes → answer_line k ≡ passes_line) × (answer_line k ≡ passes_line → k.answer ≡ Passes)

-- lines as they are printed: `departs at line 2`, `departs at line 10`, and the highest number that a run can come to, which has 20 digits
unfoldable pub LinesShown : Type 0
LinesShown =
    (line_of Departs 1 ≡ 100 ∷ 101 ∷ 112 ∷ 97 ∷ 114 ∷ 116 ∷ 115 ∷ 32 ∷ 97 ∷ 116 ∷ 32 ∷ 108 ∷ 105 ∷ 110 ∷ 101 ∷ 32 ∷ 50 ∷ 10 ∷ []) ×
    (line_of Departs 9 ≡ 100 ∷ 101 ∷ 112 ∷ 97 ∷ 114 ∷ 116 ∷ 115 ∷ 32 ∷ 97 ∷ 116 ∷ 32 ∷ 108 ∷ 105 ∷ 110 ∷ 101 ∷ 32 ∷ 49 ∷ 48 ∷ 10 ∷ []) ×
    (line_of Departs 11961560610296037376 ≡ 100 ∷ 101 ∷ 112 ∷ 97 ∷ 114 ∷ 116 ∷ 115 ∷ 32 ∷ 97 ∷ 116 ∷ 32 ∷ 108 ∷ 105 ∷ 110 ∷ 101 ∷ 32 ∷ 49 ∷ 49 ∷ 57 ∷ 54 ∷ 49 ∷ 53 ∷ 54 ∷ 48 ∷ 54 ∷ 49 ∷ 48 ∷ 50 ∷ 57 ∷ 54 ∷ 48 ∷ 51 ∷ 55 ∷ 51 ∷ 55 ∷ 55 ∷ 10 ∷ [])

-- 'a listing that passes equals the program's output byte for byte, and what the program prints always passes': of what turns of `rowlist` print, and of a run
-- of this program, however the same trace came in parts to each
unfoldable pub ProgramPasses : Type 0
ProgramPasses =
    (counts text : List ℕ) (parts : List (List ℕ)) (out : List ℕ) → Turns (memory start_place counts) text 0 parts out →
    (counts' text' buffer : List ℕ) (parts' given : List (List ℕ)) (answer : Option ℕ) → Runs (first_state counts' text' buffer) parts' given answer →
    joined parts' ≡ joined parts → (joined given ≡ out → answer ≡ none) × (answer ≡ none → joined given ≡ out)

-- a chain of steps that brought such parts came to an answer
pub record Answered (first : State) (other : List ℕ) (parts given : List (List ℕ)) (answer : Answer) : Type 0 where
  pub reads : ℕ
  pub last : State
  pub left : List ℕ
  pub chain : Chain first other reads last left parts given
  pub came : last.check.answer ≡ answer

-- there are such chains, with either answer
unfoldable pub ChainsExist : Type 0
ChainsExist =
    (counts text other : List ℕ) →
    let first = first_state counts text (replicate 310 0) in
    Answered first other (example_trace ∷ []) (example_listing ∷ []) Passes × Answered first other (example_trace ∷ []) (other_listing ∷ []) Departs
