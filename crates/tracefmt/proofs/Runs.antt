-- How far a run is between two steps, one step further, and what it comes to.
use mathlib.Core.Path.{◌≡◌}
use mathlib.Core.Bool.{true}
use mathlib.Core.List.{List}
use Prim.Native.Nat.{ℕ, ◌+◌, ◌-◌, ◌≤◌, ◌<◌}
use native.Mathlib.Omega.{arith}
use lib.ListN.{length, take}
use Rattle.input.specs.AtHand.{brought}
use Rattle.input.specs.Runs.{Ran}
use Rattle.input.proofs.Runs.{Steps, steps_further, ran_written}
use Rattle.tracefmt.specs.declared.Turn.{Turn}
use Rattle.input.specs.Next.{reads_on}
use Rattle.tracefmt.specs.Turns.{State, first_turn, Stepped, Chain, one_more, more_in}
use Rattle.tracefmt.specs.InnerContracts.{Carried}

-- behind so many reads
pub record Going (first : State) (text out : List ℕ) (turn : Turn) (reads : ℕ) : Type 0 where
  pub carried : Carried turn text out
  pub steps : Steps (Chain first) (record { turn = turn; text = text; buffer = out }) (18446744073709551615 - reads)

pub carried_first : {text out : List ℕ} → length text ≡ 65536 → length out ≡ 65536 → Carried first_turn text out
unfolding first_turn
carried_first text_long out_long =
    record { text_long = text_long; out_long = out_long; kept_few = omega arith; end_few = omega arith }

module _ {first : State} {text out : List ℕ} {turn : Turn} {reads : ℕ} (going : Going first text out turn reads) where
  -- while there is more to read, a step goes on from there
  pub goes_further : {text' out' : List ℕ} {turn' : Turn} → reads < 18446744073709551615 → reads_on turn.next ≡ true → Carried turn' text' out'
      → Stepped (record { turn = turn; text = text; buffer = out }) (record { turn = turn'; text = text'; buffer = out' }) → Going first text' out' turn' (reads + 1)
  goes_further {out' = out'} {turn' = turn'} few on carried step =
      let left : 18446744073709551615 - reads - 1 ≡ 18446744073709551615 - (reads + 1) = omega arith in
      record {
        carried = carried;
        steps = rw (← left)
            (steps_further (brought step.input turn.kept step.text) (take turn'.end out') going.steps (omega arith)
            (λ n parts out chain. one_more chain on step));
      }

  -- and where there is none, or no read is left, the run is over
  pub goes_no_further : (reads_on turn.next ≡ true → 18446744073709551615 ≤ reads) → Ran more_in (Chain first) (record { turn = turn; text = text; buffer = out }) true
  goes_no_further over = ran_written more_in going.steps (λ on. omega (arith, over on))
