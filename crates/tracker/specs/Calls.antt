-- The calls on raw state: the refusals in document 01's order, and what each call leaves, refused or not.
use Rattle.std.specs.Prelude.{ℕ, zero, suc, ◌+◌, ◌-◌, ◌*◌, min, Bool, cond, List, [], ◌∷◌, ◌++◌, leb, ltb, eqb, length, drop}
use Rattle.device.specs.declared.Settings.{Settings}
use Rattle.device.specs.Refusal.{Test, unless, first_failed, Outcome, accepted, tested}
use Rattle.device.specs.Acceptance.{most_rows, settings_tests_to}
use Rattle.device.specs.Remap.{remap_allowed, physical}
use Rattle.device.specs.Hold.{hold_allowed, repeated}
use Rattle.device.specs.Victims.{rows_between, victims}
use Rattle.summary.specs.Steps.{empty, picked, activation, event}
use Rattle.state.specs.declared.Position.{Position}
use Rattle.state.specs.State.{State, summary_of, state_of, valid, tables_long}

-- the rows that a row disturbs
unfoldable pub victims_in : Settings → ℕ → List ℕ
victims_in s row = victims s.rows s.blast_diameter row

-- 'the regular block is rows e × P to e × P + P − 1, cut at N'
unfoldable pub block_rows : Settings → ℕ → List ℕ
block_rows s e = rows_between (e * s.block) (min (e * s.block + s.block) s.rows)

-- 'if e = n − 1'
unfoldable pub ends_window : Settings → ℕ → Bool
ends_window s e = eqb e (s.window - 1)

-- the events in the window after one more: 'e becomes 0 .. else e rises by 1'
unfoldable pub next_event : Settings → ℕ → ℕ
next_event s e = cond (ends_window s e) 0 (e + 1)

-- the tests of each call, in their order, where N may be up to the most; 'setting up and each activation bring a fold', and each activation a hold: 15, 'a hold outside 1 to 16', 'right
-- after 9', and 22 'when the units would carry a past T'
unfoldable pub set_up_tests_to : ℕ → Settings → List ℕ → List ℕ → List ℕ → List Test
set_up_tests_to most s remap rows counts =
    settings_tests_to most s ++
    unless (tables_long s rows counts) 8 ∷
    unless (remap_allowed remap) 14 ∷ []

unfoldable pub activation_tests_to : ℕ → Settings → List ℕ → State → ℕ → ℕ → List Test
activation_tests_to most s remap st row hold =
    settings_tests_to most s ++
    unless (tables_long s st.rows st.counts) 8 ∷
    unless (ltb row s.rows) 9 ∷
    unless (hold_allowed hold) 15 ∷
    unless (remap_allowed remap) 14 ∷
    unless (valid s st) 21 ∷
    unless (leb (st.position.activations + hold) s.interval) 22 ∷ []

unfoldable pub refresh_tests_to : ℕ → Settings → State → List ℕ → List Test
refresh_tests_to most s st picks =
    settings_tests_to most s ++
    unless (tables_long s st.rows st.counts) 8 ∷
    unless (leb s.volume (length picks)) 10 ∷
    unless (valid s st) 21 ∷ []

-- what came where a call is refused, else what it makes
unfoldable pub kept_unless : {A : Type 0} → ℕ → A → A → A
kept_unless zero came made = made
kept_unless (suc k) came made = came

-- 'setting up writes 0 everywhere'; refused, 'the lent tables keep what they held'
pub record SetUpCall : Type 0 where
  pub answer : Outcome Position
  pub rows : List ℕ
  pub counts : List ℕ

unfoldable pub set_up_to : ℕ → Settings → List ℕ → List ℕ → List ℕ → SetUpCall
set_up_to most s remap rows counts =
    let k = first_failed (set_up_tests_to most s remap rows counts) in
    let begun = state_of s 0 0 empty in
    record {
      answer = tested k (accepted begun.position);
      rows = kept_unless k rows begun.rows;
      counts = kept_unless k counts begun.counts;
    }

-- an activation: whether it is accepted, the refusal (0 where it is) and the state that it leaves
pub record ActivationCall : Type 0 where
  pub accepts : Bool
  pub refusal : ℕ
  pub state : State

-- 'what that many activations of the row in succession would do', and it 'uses that many of T'
unfoldable pub activation_to : ℕ → Settings → List ℕ → State → ℕ → ℕ → ActivationCall
activation_to most s remap st row hold =
    let k = first_failed (activation_tests_to most s remap st row hold) in
    record {
      accepts = eqb k 0;
      refusal = k;
      state =
          kept_unless k st
          (state_of s st.position.events (st.position.activations + hold)
          (repeated hold (activation s.counters (victims_in s) (physical remap row)) (summary_of st)));
    }

-- an event: whether it is accepted, the refusal, the number picked, the state and the list that it leaves
pub record RefreshCall : Type 0 where
  pub accepts : Bool
  pub refusal : ℕ
  pub count : ℕ
  pub state : State
  pub picks : List ℕ

unfoldable pub refresh_to : ℕ → Settings → State → List ℕ → RefreshCall
refresh_to most s st picks =
    let k = first_failed (refresh_tests_to most s st picks) in
    let e = st.position.events in
    let named = picked s.volume (summary_of st) in
    record {
      accepts = eqb k 0;
      refusal = k;
      count = kept_unless k 0 (length named);
      state =
          kept_unless k st
          (state_of s (next_event s e) 0
          (event s.counters (victims_in s) s.volume (block_rows s e) (ends_window s e) (summary_of st)));
      picks = kept_unless k picks (named ++ drop (length named) picks);
    }

-- the tests and the calls with N up to `most_rows`
abbrev pub set_up_tests : Settings → List ℕ → List ℕ → List ℕ → List Test
set_up_tests s remap rows counts = set_up_tests_to most_rows s remap rows counts

abbrev pub activation_tests : Settings → List ℕ → State → ℕ → ℕ → List Test
activation_tests s remap st row hold = activation_tests_to most_rows s remap st row hold

abbrev pub refresh_tests : Settings → State → List ℕ → List Test
refresh_tests s st picks = refresh_tests_to most_rows s st picks

abbrev pub set_up : Settings → List ℕ → List ℕ → List ℕ → SetUpCall
set_up s remap rows counts = set_up_to most_rows s remap rows counts

abbrev pub activation_on : Settings → List ℕ → State → ℕ → ℕ → ActivationCall
activation_on s remap st row hold = activation_to most_rows s remap st row hold

abbrev pub refresh_on : Settings → State → List ℕ → RefreshCall
refresh_on s st picks = refresh_to most_rows s st picks
