-- The tests of each call, in their order: which refusal comes first.
use mathlib.Core.Path.{◌≡◌}
use mathlib.Core.Bool.{not}
use mathlib.Core.List.{List, [], ◌∷◌, ◌++◌}
use Prim.Native.Nat.{ℕ, ◌+◌}
use lib.Dec.{ltb, leb}
use lib.ListN.{length}
use Rattle.device.specs.declared.Settings.{Settings}
use Rattle.device.specs.Refusal.{Test, unless, refuse, first_failed}
use Rattle.device.specs.Acceptance.{settings_tests}
use Rattle.device.specs.Remap.{remap_allowed}
use Rattle.device.specs.Hold.{hold_allowed}
use Rattle.device.proofs.Tests.{or_later, later_test}
use Rattle.device.proofs.Acceptance.{settings_then}
use Rattle.state.specs.State.{State, valid, tables_long}
use Rattle.tracker.specs.Calls.{set_up_tests_to, set_up_tests, activation_tests_to, activation_tests, refresh_tests_to, refresh_tests}
use Rattle.tracker.specs.InnerContracts.{tables_tests}

-- what stands behind the tests of settings and tables
behind_tables : (s : Settings) (rows counts : List ℕ) (later : List Test) → first_failed (settings_tests s ++ unless (tables_long s rows counts) 8 ∷ later) ≡ or_later (first_failed (tables_tests s rows counts)) (first_failed later)
unfolding tables_tests first_failed unless
behind_tables s rows counts later =
    rw (settings_then s (unless (tables_long s rows counts) 8 ∷ later), settings_then s (unless (tables_long s rows counts) 8 ∷ []))
    (later_test (first_failed (settings_tests s)) (tables_long s rows counts) 7 (first_failed later))

pub tables_tested : (s : Settings) (rows counts : List ℕ) → first_failed (tables_tests s rows counts) ≡ or_later (first_failed (settings_tests s)) (refuse (not (tables_long s rows counts)) 8 0)
unfolding tables_tests first_failed unless
tables_tested s rows counts = settings_then s (unless (tables_long s rows counts) 8 ∷ [])

pub set_up_tested : (s : Settings) (remap rows counts : List ℕ) → first_failed (set_up_tests s remap rows counts) ≡ or_later (first_failed (tables_tests s rows counts)) (refuse (not (remap_allowed remap)) 14 0)
unfolding set_up_tests_to first_failed unless
set_up_tested s remap rows counts = behind_tables s rows counts (unless (remap_allowed remap) 14 ∷ [])

pub activation_tested : (s : Settings) (remap : List ℕ) (st : State) (row hold : ℕ) → first_failed (activation_tests s remap st row hold) ≡ or_later (first_failed (tables_tests s st.rows st.counts)) (refuse (not (ltb row s.rows)) 9 (refuse (not (hold_allowed hold)) 15 (refuse (not (remap_allowed remap)) 14 (refuse (not (valid s st)) 21 (refuse (not (leb (st.position.activations + hold) s.interval)) 22 0)))))
unfolding activation_tests_to first_failed unless
activation_tested s remap st row hold =
    behind_tables s st.rows st.counts
    (unless (ltb row s.rows) 9 ∷ unless (hold_allowed hold) 15 ∷ unless (remap_allowed remap) 14 ∷ unless (valid s st) 21 ∷ unless (leb (st.position.activations + hold) s.interval) 22 ∷ [])

pub refresh_tested : (s : Settings) (st : State) (picks : List ℕ) → first_failed (refresh_tests s st picks) ≡ or_later (first_failed (tables_tests s st.rows st.counts)) (refuse (not (leb s.volume (length picks))) 10 (refuse (not (valid s st)) 21 0))
unfolding refresh_tests_to first_failed unless
refresh_tested s st picks =
    behind_tables s st.rows st.counts (unless (leb s.volume (length picks)) 10 ∷ unless (valid s st) 21 ∷ [])
