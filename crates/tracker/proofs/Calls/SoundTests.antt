-- The tests of calls on a state that holds a sound summary of accepted settings: they refuse with 9, 15, 14 and 22, or 10, and never with 8 or 21.
use mathlib.Core.Path.{◌≡◌}
use mathlib.Core.Bool.{true, not}
use mathlib.Core.List.{List}
use Prim.Native.Nat.{ℕ, ◌+◌, ◌≤◌, ◌<◌}
use lib.Dec.{leb, ltb}
use lib.ListN.{length}
use Rattle.device.specs.declared.Settings.{Settings}
use Rattle.device.specs.Refusal.{first_failed, unless, refuse}
use Rattle.device.specs.Acceptance.{settings_tests}
use Rattle.device.specs.Remap.{remap_allowed}
use Rattle.device.specs.Hold.{hold_allowed}
use Rattle.device.proofs.Tests.{or_later}
use Rattle.device.proofs.Acceptance.{settings_then}
use Rattle.summary.specs.Steps.{Summary}
use Rattle.summary.specs.Rules.{Ceiling, Sound}
use Rattle.state.specs.State.{state_of, valid, most_count, tables_long}
use Rattle.state.proofs.StateOf.{tables_long_state_of, valid_state_of}
use Rattle.tracker.specs.Calls.{activation_tests_to, activation_tests, refresh_tests_to, refresh_tests}

-- a summary that a valid state can hold
pub record Held (s : Settings) (e a : ℕ) (sum : Summary) : Type 0 where
  pub sound : Sound s.rows s.counters sum
  pub early : e < s.window
  pub within : a ≤ s.interval
  pub ceiling : Ceiling most_count sum.entries
  pub spillover_le : sum.spillover ≤ most_count

module _ (s : Settings) (e a : ℕ) (sum : Summary) (ok : first_failed (settings_tests s) ≡ 0) (h : Held s e a sum) where
  long : tables_long s (state_of s e a sum).rows (state_of s e a sum).counts ≡ true
  long = tables_long_state_of s e a sum h.sound.fits

  held_valid : valid s (state_of s e a sum) ≡ true
  held_valid = valid_state_of s e a sum h.sound h.early h.within h.ceiling h.spillover_le

  pub activation_refusals : (remap : List ℕ) (row hold : ℕ) → first_failed (activation_tests s remap (state_of s e a sum) row hold) ≡ refuse (not (ltb row s.rows)) 9 (refuse (not (hold_allowed hold)) 15 (refuse (not (remap_allowed remap)) 14 (refuse (not (leb (a + hold) s.interval)) 22 0)))
  unfolding activation_tests_to first_failed unless or_later refuse state_of
  activation_refusals remap row hold = rw (settings_then s, ok, long, held_valid)

  pub refresh_refusals : (picks : List ℕ) → first_failed (refresh_tests s (state_of s e a sum) picks) ≡ refuse (not (leb s.volume (length picks))) 10 0
  unfolding refresh_tests_to first_failed unless or_later refuse
  refresh_refusals picks = rw (settings_then s, ok, long, held_valid)
