-- How far a run is between two steps, one step further, and what it comes to.
use mathlib.Core.Path.{◌≡◌}
use mathlib.Core.Bool.{true}
use mathlib.Core.List.{List}
use Prim.Native.Nat.{ℕ, ◌+◌, ◌-◌, ◌≤◌, ◌<◌}
use native.Mathlib.Omega.{arith}
use lib.ListN.{take}
use Rattle.input.specs.AtHand.{brought}
use Rattle.input.specs.Runs.{Ran}
use Rattle.input.proofs.Runs.{Steps, steps_further, ran_written}
use Rattle.turns.specs.declared.Turn.{Turn}
use Rattle.input.specs.Next.{reads_on}
use Rattle.turns.specs.Turns.{Turned, turn_in, more_in, Stepped, Chain, one_more}
use Rattle.turns.specs.InnerContracts.{Carried}

-- behind so many reads
pub record Going (first : Turned) (counts marks bounds text out : List ℕ) (turn : Turn) (reads : ℕ) : Type 0 where
  pub carried : Carried turn counts marks bounds text out
  pub steps : Steps (Chain first) (turn_in turn counts text out) (18446744073709551615 - reads)

module _ {first : Turned} {counts marks bounds text out : List ℕ} {turn : Turn} {reads : ℕ} (going : Going first counts marks bounds text out turn reads) where
  -- while there is more to read, a step goes on from there
  pub goes_further : {counts' marks' bounds' text' out' : List ℕ} {turn' : Turn} → reads < 18446744073709551615 → reads_on turn.next ≡ true → Carried turn' counts' marks' bounds' text' out' → Stepped (turn_in turn counts text out) (turn_in turn' counts' text' out') → Going first counts' marks' bounds' text' out' turn' (reads + 1)
  goes_further {out' = out'} {turn' = turn'} few on carried step =
      let left : 18446744073709551615 - reads - 1 ≡ 18446744073709551615 - (reads + 1) = omega arith in
      record {
        carried = carried;
        steps = rw (← left)
            (steps_further (brought step.input turn.kept step.text) (take turn'.end out') going.steps (omega arith)
            (λ n parts out chain. one_more chain on step));
      }

  -- and where there is none, or no read is left, the run is over
  pub goes_no_further : (reads_on turn.next ≡ true → 18446744073709551615 ≤ reads) → Ran more_in (Chain first) (turn_in turn counts text out) true
  goes_no_further over = ran_written more_in going.steps (λ on. omega (arith, over on))
