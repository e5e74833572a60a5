-- What is claimed of the calls, besides their contracts. proofs/Claims.antt proves each under the same name.
use Rattle.std.specs.Prelude.{ℕ, ◌+◌, ◌*◌, ◌≤◌, ◌<◌, ◌≡◌, true, false, List, [], ◌∷◌, ◌++◌, ltb, eqb}
use Rattle.device.specs.declared.Settings.{Settings}
use Rattle.device.specs.Refusal.{unless, first_failed, refused}
use Rattle.device.specs.Acceptance.{settings_tests}
use Rattle.device.specs.Remap.{remap_allowed, physical}
use Rattle.device.specs.Hold.{hold_allowed}
use Rattle.device.specs.Claims.{Alike}
use Rattle.summary.specs.Steps.{activation}
use Rattle.summary.specs.Rules.{Room}
use Rattle.state.specs.State.{State, summary_of, state_of, valid, most_count, tables_long}
use Rattle.tracker.specs.Calls.{victims_in, kept_unless, ActivationCall, set_up_to, activation_to, refresh_to, set_up, activation_on, refresh_on}

-- every call answers and leaves what it would where N may be up to another most
pub record SameCalls (most : ℕ) (s : Settings) : Type 0 where
  pub same_set_up : (remap rows counts : List ℕ) → set_up_to most s remap rows counts ≡ set_up s remap rows counts
  pub same_activation : (remap : List ℕ) (st : State) (row hold : ℕ) → activation_to most s remap st row hold ≡ activation_on s remap st row hold
  pub same_refresh : (st : State) (picks : List ℕ) → refresh_to most s st picks ≡ refresh_on s st picks

-- every call is refused with 1, and leaves what it was lent
pub record RefusedCalls (most : ℕ) (s : Settings) : Type 0 where
  pub refused_set_up : (remap rows counts : List ℕ) → set_up_to most s remap rows counts ≡ record { answer = refused 1; rows = rows; counts = counts }
  pub refused_activation : (remap : List ℕ) (st : State) (row hold : ℕ) → activation_to most s remap st row hold ≡ record { accepts = false; refusal = 1; state = st }
  pub refused_refresh : (st : State) (picks : List ℕ) → refresh_to most s st picks ≡ record { accepts = false; refusal = 1; count = 0; state = st; picks = picks }

-- the calls where N may be up to another most: as they are on settings whose N is judged alike, so on all 'that were valid' (`SettingsStay`), and
-- refused where N is above it
unfoldable pub CallsStay : Type 0
CallsStay = (most : ℕ) (s : Settings) → (Alike most s → SameCalls most s) × (most < s.rows → RefusedCalls most s)

-- document 01's activation, which brings no hold: 22 at 'a = T', and 'a rises by 1'
unfoldable pub activation_once : Settings → List ℕ → State → ℕ → ActivationCall
activation_once s remap st row =
    let k =
    first_failed
    (settings_tests s ++
    unless (tables_long s st.rows st.counts) 8 ∷
    unless (ltb row s.rows) 9 ∷
    unless (remap_allowed remap) 14 ∷
    unless (valid s st) 21 ∷
    unless (ltb st.position.activations s.interval) 22 ∷ [])
    in
    record {
      accepts = eqb k 0;
      refusal = k;
      state =
          kept_unless k st
          (state_of s st.position.events (st.position.activations + 1)
          (activation s.counters (victims_in s) (physical remap row) (summary_of st)));
    }

-- an activation with a hold of 1 is that one, refused or not
unfoldable pub OneUnit : Type 0
OneUnit = (s : Settings) (remap : List ℕ) (st : State) (row : ℕ) → activation_on s remap st row 1 ≡ activation_once s remap st row

-- 'what that many activations of the row in succession would do': a hold of h + k units answers and leaves what one of h and then one of k do, where both are
-- accepted
unfoldable pub UnitsAdd : Type 0
UnitsAdd =
    (s : Settings) (remap : List ℕ) (st : State) (row h k : ℕ) → hold_allowed (h + k) ≡ true →
    (activation_on s remap st row h).accepts ≡ true →
    (activation_on s remap (activation_on s remap st row h).state row k).accepts ≡ true →
    activation_on s remap st row (h + k) ≡ activation_on s remap (activation_on s remap st row h).state row k

-- '21 is tested once, before the first unit': before it no count and no spillover is above 2,000,000,000; the highest of them rises by at most B for each unit, so
-- by at most 64 in a call
unfoldable pub CountsRise : Type 0
CountsRise =
    (s : Settings) (remap : List ℕ) (st : State) (row hold : ℕ) → (activation_on s remap st row hold).accepts ≡ true →
    Room most_count (summary_of st) ×
    ((most : ℕ) → Room most (summary_of st) → Room (most + s.blast_diameter * hold) (summary_of (activation_on s remap st row hold).state)) ×
    (s.blast_diameter * hold ≤ 64)
