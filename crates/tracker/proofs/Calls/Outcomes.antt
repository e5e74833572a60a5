-- Each call by its cases: what `set_up`, `activation_on` and `refresh_on` are where a test refuses, and where none does.
use mathlib.Core.Path.{◌≡◌, refl, sym}
use mathlib.Core.Bool.{true, false}
use mathlib.Core.List.{List}
use Prim.Native.Nat.{ℕ, zero, suc, ◌+◌}
use native.Mathlib.Nat.{sub-zero}
use borrow.Author.Tests.{ne_eqb}
use lib.Dec.{eqb}
use lib.ListN.{length, replicate}
use Rattle.device.specs.declared.Settings.{Settings}
use Rattle.device.specs.declared.refusal.Refusal.{Refusal}
use Rattle.device.specs.Refusal.{first_failed, number, refused, accepted as accepted_with, tested}
use Rattle.device.proofs.Tests.{number_not_0}
use Rattle.device.specs.Remap.{physical}
use Rattle.device.specs.Hold.{repeated}
use Rattle.summary.specs.Entries.{rows_of, counts_of}
use Rattle.summary.specs.Steps.{empty, activation, picked, event}
use Rattle.summary.specs.Tables.{table}
use Rattle.summary.specs.InnerContracts.{Holds, PickedFrom}
use Rattle.state.specs.State.{State, summary_of, state_of, given}
use Rattle.state.proofs.StateOf.{state_of_holds}
use Rattle.tracker.specs.Calls.{set_up_tests, activation_tests, refresh_tests, kept_unless, set_up_to, set_up, activation_to, activation_on, refresh_to, refresh_on, victims_in, block_rows, ends_window, next_event}
use Rattle.tracker.proofs.Calls.Ready.{set_up_ready, refresh_ready}

-- each call refused, by the number that its tests came to, and so by a refusal's; and accepted
pub set_up_refused_by_number : (s : Settings) (remap rows counts : List ℕ) (k : ℕ) → k ≡ first_failed (set_up_tests s remap rows counts) → (k ≡ 0 → ⊥) → record { answer = refused k; rows = rows; counts = counts } ≡ set_up s remap rows counts
unfolding set_up_to kept_unless tested
set_up_refused_by_number s remap rows counts zero e h = absurd (h refl)
set_up_refused_by_number s remap rows counts (suc k) e h = rw (← e)

pub set_up_refused : (s : Settings) (remap rows counts : List ℕ) (r : Refusal) → number r ≡ first_failed (set_up_tests s remap rows counts) → record { answer = refused (number r); rows = rows; counts = counts } ≡ set_up s remap rows counts
set_up_refused s remap rows counts r e = set_up_refused_by_number s remap rows counts (number r) e (number_not_0 r)

pub set_up_done : (s : Settings) (remap rows counts : List ℕ) {rows' counts' : List ℕ} → first_failed (set_up_tests s remap rows counts) ≡ 0 → rows' ≡ replicate (length rows) 0 → counts' ≡ replicate (length counts) 0 → record { answer = accepted_with (record { events = 0; activations = 0; tracked = 0; spillover = 0 }); rows = rows'; counts = counts' } ≡ set_up s remap rows counts
unfolding set_up_to kept_unless tested state_of empty table rows_of counts_of
set_up_done s remap rows counts e er ec =
    let o = (set_up_ready s remap rows counts e).0 in
    rw (e, er, ec, o.rows_long, o.counts_long, sub-zero s.counters)

pub activation_refused_by_number : (s : Settings) (remap : List ℕ) (st : State) (row hold k : ℕ) → k ≡ first_failed (activation_tests s remap st row hold) → (k ≡ 0 → ⊥) → record { accepts = false; refusal = k; state = st } ≡ activation_on s remap st row hold
unfolding activation_to kept_unless
activation_refused_by_number s remap st row hold zero e h = absurd (h refl)
activation_refused_by_number s remap st row hold (suc k) e h = rw (← e, ne_eqb (suc k) 0 h)

pub activation_refused : (s : Settings) (remap : List ℕ) (st : State) (row hold : ℕ) (r : Refusal) → number r ≡ first_failed (activation_tests s remap st row hold) → record { accepts = false; refusal = number r; state = st } ≡ activation_on s remap st row hold
activation_refused s remap st row hold r e = activation_refused_by_number s remap st row hold (number r) e (number_not_0 r)

pub activation_done : (s : Settings) (remap : List ℕ) (st : State) (row hold : ℕ) {st' : State} → first_failed (activation_tests s remap st row hold) ≡ 0 → st' ≡ (activation_on s remap st row hold).state → record { accepts = true; refusal = 0; state = st' } ≡ activation_on s remap st row hold
unfolding activation_to
activation_done s remap st row hold e same = λ i. record { accepts = eqb (sym e i) 0; refusal = sym e i; state = same i }

pub activation_leaves : (s : Settings) (remap : List ℕ) (st : State) (row hold : ℕ) → first_failed (activation_tests s remap st row hold) ≡ 0 → (activation_on s remap st row hold).state ≡ state_of s st.position.events (st.position.activations + hold) (repeated hold (activation s.counters (victims_in s) (physical remap row)) (summary_of st))
unfolding activation_to kept_unless
activation_leaves s remap st row hold e = rw e

pub refresh_refused_by_number : (s : Settings) (st : State) (picks : List ℕ) (k : ℕ) → k ≡ first_failed (refresh_tests s st picks) → (k ≡ 0 → ⊥) → record { accepts = false; refusal = k; count = 0; state = st; picks = picks } ≡ refresh_on s st picks
unfolding refresh_to kept_unless
refresh_refused_by_number s st picks zero e h = absurd (h refl)
refresh_refused_by_number s st picks (suc k) e h = rw (← e, ne_eqb (suc k) 0 h)

pub refresh_refused : (s : Settings) (st : State) (picks : List ℕ) (r : Refusal) → number r ≡ first_failed (refresh_tests s st picks) → record { accepts = false; refusal = number r; count = 0; state = st; picks = picks } ≡ refresh_on s st picks
refresh_refused s st picks r e = refresh_refused_by_number s st picks (number r) e (number_not_0 r)

-- an accepted event, from what was picked and what the tables hold
pub refresh_done : (s : Settings) (st : State) (list₀ : List ℕ) {rows counts list : List ℕ} {count e k spill : ℕ} → first_failed (refresh_tests s st list₀) ≡ 0 → PickedFrom s.volume (summary_of st) list₀ list count → Holds (length st.rows) 4294967296 (event (length st.rows) (victims_in s) s.volume (block_rows s st.position.events) (ends_window s st.position.events) (summary_of st)) rows counts k spill → e ≡ next_event s st.position.events → record { accepts = true; refusal = 0; count = count; state = given rows counts (record { events = e; activations = 0; tracked = k; spillover = spill }); picks = list } ≡ refresh_on s st list₀
unfolding refresh_to kept_unless picked
refresh_done s st list₀ none x h ee =
    let r = refresh_ready s st list₀ none in
    let made = state_of_holds s (next_event s st.position.events) 0 (rw r.0.fitting.rows_long at h) in
    rw (none, ee, made, x.counted, x.named)
