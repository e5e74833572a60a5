-- How far a run is between two steps, and one step further.
use mathlib.Core.Path.{◌≡◌, refl}
use mathlib.Core.Bool.{true}
use mathlib.Core.List.{List, ◌++◌}
use Prim.Native.Nat.{ℕ, ◌+◌, ◌*◌, ◌≤◌}
use native.Mathlib.Numerals.{add-one}
use lib.ListN.{length}
use Rattle.turns.specs.InnerContracts.{Carried}
use Rattle.rowcheck.specs.declared.Step.{Step}
use Rattle.rowcheck.specs.Turns.{open_so_far, State, Stepped, trace_part, listing_part, Chain, one_more, most_reads, Ran}
use Rattle.rowcheck.specs.InnerContracts.{state_of}

-- the steps of so many reads
pub record Steps (first : State) (buffer : List ℕ) (last : State) (after : List ℕ) (reads : ℕ) : Type 0 where
  pub parts : List (List ℕ)
  pub given : List (List ℕ)
  pub chain : Chain first buffer reads last after parts given

-- with memory that is a listing's, and no more lines than so many reads pass over
pub record Going (first : State) (buffer : List ℕ) (counts marks bounds text out given : List ℕ) (step : Step) (reads : ℕ) : Type 0 where
  pub carried : Carried step.turn counts marks bounds text out
  pub given_long : length given ≡ 339968
  pub few_lines : step.check.lines ≤ reads * 339968
  pub steps : Steps first buffer (state_of step counts text out) given reads

pub steps_on : {first from to : State} {buffer before after : List ℕ} {reads : ℕ} → Steps first buffer from before reads → open_so_far from.check.answer ≡ true → Stepped from to before after → Steps first buffer to after (reads + 1)
steps_on s on step =
    record {
      parts = s.parts ++ trace_part step;
      given = s.given ++ listing_part step;
      chain = rw add-one (one_more s.chain on step);
    }

-- what the run has come to
pub ran : {first last : State} {buffer after : List ℕ} {reads : ℕ} → Steps first buffer last after reads → (open_so_far last.check.answer ≡ true → reads ≡ most_reads) → Ran first buffer last.check
ran {last = last} {after = after} {reads = reads} s all =
    record { reads = reads; last = last; left = after; parts = s.parts; given = s.given; chain = s.chain; came = refl; ends = all }
