-- The claims of specs/Claims.antt, each under its own name.
use mathlib.Core.Path.{◌≡◌}
use Prim.Native.Nat.{ℕ, ◌+◌, ◌<◌}
use native.Mathlib.Numerals.{add-one}
use lib.Dec.{leb, ltb}
use Rattle.device.specs.declared.Settings.{Settings}
use Rattle.device.specs.Acceptance.{within}
use Rattle.device.specs.Hold.{hold_allowed, repeated}
use Rattle.device.specs.Refusal.{unless, refuse, first_failed, tested}
use Rattle.device.specs.Claims.{Alike}
use Rattle.device.proofs.Acceptance.{settings_then, settings_alike, above_then}
use Rattle.tracker.specs.Calls.{set_up_tests_to, activation_tests_to, refresh_tests_to, kept_unless, set_up_to, activation_to, refresh_to}
use Rattle.tracker.specs.Claims.{SameCalls, RefusedCalls, CallsStay, activation_once, OneUnit, UnitsAdd, CountsRise}
use Rattle.tracker.proofs.Calls.Holds.{units_in_two, counts_within}

same_calls : (most : ℕ) (s : Settings) → Alike most s → SameCalls most s
unfolding set_up_tests_to activation_tests_to refresh_tests_to set_up_to activation_to refresh_to
same_calls most s alike =
    record {
      same_set_up = λ remap rows counts. rw (settings_alike most s alike);
      same_activation = λ remap st row hold. rw (settings_alike most s alike);
      same_refresh = λ st picks. rw (settings_alike most s alike);
    }

refused_calls : (most : ℕ) (s : Settings) → most < s.rows → RefusedCalls most s
unfolding set_up_tests_to activation_tests_to refresh_tests_to set_up_to activation_to refresh_to kept_unless tested
refused_calls most s h =
    record {
      refused_set_up = λ remap rows counts. rw (above_then most s h);
      refused_activation = λ remap st row hold. rw (above_then most s h);
      refused_refresh = λ st picks. rw (above_then most s h);
    }

pub calls_stay : CallsStay
unfolding CallsStay
calls_stay most s = (same_calls most s, refused_calls most s)

-- the test of 22 for one unit
one_more : (a most : ℕ) → leb (a + 1) most ≡ ltb a most
one_more a most = rw (add-one a)

pub one_unit : OneUnit
unfolding OneUnit activation_once activation_tests_to activation_to first_failed unless refuse repeated hold_allowed within
one_unit s remap st row = rw (one_more st.position.activations s.interval, settings_then s, settings_then s)

pub units_add : UnitsAdd
unfolding UnitsAdd
units_add s remap st row h k both ok ok' = units_in_two s remap st row h k both ok ok'

pub counts_rise : CountsRise
unfolding CountsRise
counts_rise s remap st row hold ok = counts_within s remap st row hold ok
