-- An event on a reached state: it is accepted, and names the picked rows.
use mathlib.Core.Path.{◌≡◌, refl, ◌∙◌}
use mathlib.Core.List.{List}
use Prim.Native.Nat.{ℕ, ◌≤◌}
use borrow.Author.Tests.{le-leb}
use lib.ListN.{length, take, drop}
use lib.Seq.{take_at}
use Rattle.device.specs.declared.Settings.{Settings}
use Rattle.device.specs.Refusal.{first_failed, refuse}
use Rattle.summary.specs.Steps.{picked}
use Rattle.summary.proofs.Entries.Picks.{length_picks_le}
use Rattle.state.specs.State.{State, summary_of}
use Rattle.tracker.specs.Calls.{kept_unless, refresh_tests, refresh_to, refresh_on}
use Rattle.limit.specs.Reachable.{Reached}
use Rattle.limit.proofs.Reachable.{refresh_refused_with}

module _ {s : Settings} {st : State} (r : Reached s st) where
  pub event_accepted : (picks : List ℕ) → s.volume ≤ length picks → first_failed (refresh_tests s st picks) ≡ 0
  unfolding refuse
  event_accepted picks h = refresh_refused_with r picks ∙ rw (le-leb s.volume (length picks) h)

-- what an accepted event is, whatever the list held
pub record Event (s : Settings) (st : State) (picks : List ℕ) : Type 0 where
  pub free : (refresh_on s st picks).refusal ≡ 0
  pub counted : (refresh_on s st picks).count ≡ length (picked s.volume (summary_of st))
  pub named : take (refresh_on s st picks).count (refresh_on s st picks).picks ≡ picked s.volume (summary_of st)

module _ {s : Settings} {st : State} (r : Reached s st) where
  pub event_is : (picks : List ℕ) → s.volume ≤ length picks → Event s st picks
  unfolding refresh_to kept_unless
  event_is picks h =
      let none = event_accepted r picks h in
      let named = picked s.volume (summary_of st) in
      record {
        free = none;
        counted = rw none;
        named = rw none (take_at named (drop (length named) picks) (length named) refl);
      }

-- at most V rows are named
pub names_few : (s : Settings) (st : State) → length (picked s.volume (summary_of st)) ≤ s.volume
unfolding picked
names_few s st = length_picks_le s.volume (summary_of st).entries
