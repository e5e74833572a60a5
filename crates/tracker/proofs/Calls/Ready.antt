-- What a call has in hand that no test refuses: accepted settings, tables as long as they should be, a valid state.
use mathlib.Core.Path.{◌≡◌, sym, ◌∙◌}
use mathlib.Core.Bool.{Bool, true, not}
use mathlib.Core.Logic.{⊎_elim}
use mathlib.Core.List.{List}
use Prim.Native.Nat.{ℕ, ◌+◌, ◌≤◌, ◌<◌}
use native.Mathlib.Omega.{arith}
use borrow.Author.Tests.{ltb-true, leb-true}
use lib.Dec.{ltb, leb}
use lib.ListN.{length}
use Rattle.std.proofs.Common.{Fits, w32}
use Rattle.device.specs.declared.Settings.{Settings}
use Rattle.device.specs.Refusal.{refuse, first_failed}
use Rattle.device.specs.Acceptance.{settings_tests}
use Rattle.device.specs.Remap.{remap_allowed}
use Rattle.device.specs.Hold.{hold_allowed}
use Rattle.device.proofs.Acceptance.{Between, Accepted, accepted_settings}
use Rattle.device.proofs.Hold.{hold_between}
use Rattle.device.proofs.Tests.{or_later_zero, or_later_none, refuse_passed}
use Rattle.summary.specs.Entries.{Entry}
use Rattle.summary.specs.Rules.{Ordered, ordered_none, ordered_more}
use Rattle.summary.specs.InnerContracts.{Holds, Held}
use Rattle.summary.proofs.InnerContracts.Holds.{held_again}
use Rattle.state.specs.declared.Position.{Position}
use Rattle.state.specs.State.{State, summary_of, valid, tables_long}
use Rattle.state.proofs.Valid.{tables_long_fit, Facts, valid_facts}
use Rattle.tracker.specs.Calls.{set_up_tests, activation_tests, refresh_tests}
use Rattle.tracker.specs.InnerContracts.{tables_tests}
use Rattle.tracker.proofs.Calls.Tests.{tables_tested, set_up_tested, activation_tested, refresh_tested}

-- no refusal of settings and tables
pub record Open (s : Settings) (rows counts : List ℕ) : Type 0 where
  pub settled : first_failed (settings_tests s) ≡ 0
  pub long : tables_long s rows counts ≡ true
  pub rows_long : length rows ≡ s.counters
  pub counts_long : length counts ≡ s.counters

pub open_tables : (s : Settings) (rows counts : List ℕ) → first_failed (tables_tests s rows counts) ≡ 0 → Open s rows counts
open_tables s rows counts e =
    let parts = or_later_none (first_failed (settings_tests s)) (refuse (not (tables_long s rows counts)) 8 0) (sym (tables_tested s rows counts) ∙ e) in
    let long = (refuse_passed (tables_long s rows counts) 7 0 parts.1).0 in
    let fit = tables_long_fit s rows counts long in
    record { settled = parts.0; long = long; rows_long = fit.0; counts_long = fit.1 }

pub tables_fit : (s : Settings) (rows counts : List ℕ) → 0 ≡ first_failed (tables_tests s rows counts) → (length rows ≡ s.counters) × (length counts ≡ s.counters)
tables_fit s rows counts e =
    let o = open_tables s rows counts (sym e) in
    (o.rows_long, o.counts_long)

-- no refusal of setting up
pub set_up_ready : (s : Settings) (remap rows counts : List ℕ) → first_failed (set_up_tests s remap rows counts) ≡ 0 → Open s rows counts × (remap_allowed remap ≡ true)
set_up_ready s remap rows counts e =
    let parts = or_later_none (first_failed (tables_tests s rows counts)) (refuse (not (remap_allowed remap)) 14 0) (sym (set_up_tested s remap rows counts) ∙ e) in
    (open_tables s rows counts parts.0, (refuse_passed (remap_allowed remap) 13 0 parts.1).0)

-- no refusal of an activation, or of an event
pub record Ready (s : Settings) (st : State) : Type 0 where
  pub fitting : Open s st.rows st.counts
  pub settings : Accepted s
  pub facts : Facts s st

ready : (s : Settings) (st : State) → first_failed (tables_tests s st.rows st.counts) ≡ 0 → valid s st ≡ true → Ready s st
ready s st e v =
    let o = open_tables s st.rows st.counts e in
    record { fitting = o; settings = accepted_settings s o.settled; facts = valid_facts s st o.long v }

-- the units of an accepted hold and those before it fit 32 bits
pub units_fit : (s : Settings) (rows counts : List ℕ) (p : Position) (hold : ℕ) {held sound : Bool} → 0 ≡ first_failed (tables_tests s rows counts) → held ≡ hold_allowed hold → 0 ≡ refuse (not held) 15 0 → sound ≡ valid s (record { rows = rows; counts = counts; position = p }) → 0 ≡ refuse (not sound) 21 0 → Fits w32 (p.activations + hold)
units_fit s rows counts p hold none is_held held is_sound sound =
    let held : hold_allowed hold ≡ true = sym is_held ∙ (refuse_passed _ 14 0 (sym held)).0 in
    let r = ready s (record { rows = rows; counts = counts; position = p }) (sym none) (sym is_sound ∙ (refuse_passed _ 20 0 (sym sound)).0) in
    omega (arith, r.facts.within, r.settings.others.interval.most, (hold_between hold held).most)

-- each test of an activation passed
pub record Passed (s : Settings) (remap : List ℕ) (st : State) (row hold : ℕ) : Type 0 where
  pub tables : first_failed (tables_tests s st.rows st.counts) ≡ 0
  pub inside : ltb row s.rows ≡ true
  pub held : hold_allowed hold ≡ true
  pub allowed : remap_allowed remap ≡ true
  pub sound : valid s st ≡ true
  pub spare : leb (st.position.activations + hold) s.interval ≡ true

pub activation_passed : (s : Settings) (remap : List ℕ) (st : State) (row hold : ℕ) → first_failed (activation_tests s remap st row hold) ≡ 0 → Passed s remap st row hold
activation_passed s remap st row hold e =
    let parts = or_later_none (first_failed (tables_tests s st.rows st.counts)) _ (sym (activation_tested s remap st row hold) ∙ e) in
    let last = refuse (not (leb (st.position.activations + hold) s.interval)) 22 0 in
    let behind = refuse (not (remap_allowed remap)) 14 (refuse (not (valid s st)) 21 last) in
    let nine = refuse_passed (ltb row s.rows) 8 (refuse (not (hold_allowed hold)) 15 behind) parts.1 in
    let held = refuse_passed (hold_allowed hold) 14 behind nine.1 in
    let allowed = refuse_passed (remap_allowed remap) 13 (refuse (not (valid s st)) 21 last) held.1 in
    let state = refuse_passed (valid s st) 20 last allowed.1 in
    let spare = refuse_passed (leb (st.position.activations + hold) s.interval) 21 0 state.1 in
    record { tables = parts.0; inside = nine.0; held = held.0; allowed = allowed.0; sound = state.0; spare = spare.0 }

pub passed_activation : (s : Settings) (remap : List ℕ) (st : State) (row hold : ℕ) → Passed s remap st row hold → first_failed (activation_tests s remap st row hold) ≡ 0
unfolding refuse
passed_activation s remap st row hold p =
    rw (activation_tested s remap st row hold, or_later_zero _ _ p.tables, p.inside, p.held, p.allowed, p.sound, p.spare)

-- what they say of the state, the row, the hold, the remap, and of room in the interval
pub record ReadyActivation (s : Settings) (remap : List ℕ) (st : State) (row hold : ℕ) : Type 0 where
  pub state : Ready s st
  pub inside : row < s.rows
  pub units : Between 1 16 hold
  pub allowed : remap_allowed remap ≡ true
  pub spare : st.position.activations + hold ≤ s.interval

pub activation_ready : (s : Settings) (remap : List ℕ) (st : State) (row hold : ℕ) → first_failed (activation_tests s remap st row hold) ≡ 0 → ReadyActivation s remap st row hold
activation_ready s remap st row hold e =
    let p = activation_passed s remap st row hold e in
    record {
      state = ready s st p.tables p.sound;
      inside = ltb-true row s.rows p.inside;
      units = hold_between hold p.held;
      allowed = p.allowed;
      spare = leb-true (st.position.activations + hold) s.interval p.spare;
    }

pub refresh_ready : (s : Settings) (st : State) (picks : List ℕ) → first_failed (refresh_tests s st picks) ≡ 0 → Ready s st × (s.volume ≤ length picks)
refresh_ready s st picks e =
    let parts = or_later_none (first_failed (tables_tests s st.rows st.counts)) _ (sym (refresh_tested s st picks) ∙ e) in
    let ten = refuse_passed (leb s.volume (length picks)) 9 (refuse (not (valid s st)) 21 0) parts.1 in
    let state = refuse_passed (valid s st) 20 0 ten.1 in
    (ready s st parts.0 state.0, leb-true s.volume (length picks) ten.0)

-- rows below the bank's end are 32-bit numbers
ordered_wider : {high high' low : ℕ} {es : List Entry} → Ordered high low es → high ≤ high' → Ordered high' low es
ordered_wider ordered_none h = ordered_none
ordered_wider (ordered_more low x o l b) h = ordered_more low x (ordered_wider o h) l (omega arith)

pub ready_held : {s : Settings} {st : State} → Ready s st → Held st.rows st.counts st.position.tracked st.position.spillover
ready_held {s} {st} r =
    let h = r.facts.holds in
    let wide : Holds s.counters 4294967296 (summary_of st) st.rows st.counts st.position.tracked st.position.spillover =
    record {
      rows_laid = h.rows_laid;
      counts_laid = h.counts_laid;
      tracked_is = h.tracked_is;
      spillover_is = h.spillover_is;
      sound = record {
        floor = h.sound.floor;
        positive = h.sound.positive;
        ordered = ordered_wider h.sound.ordered (omega (arith, r.settings.others.rows.most));
        fits = h.sound.fits;
      };
    } in
    held_again wide

pub diameter_four : {s : Settings} → Accepted s → s.blast_diameter ≤ 4
diameter_four ok = ⊎_elim (λ e. omega (arith, e)) (λ e. omega (arith, e)) ok.others.diameter
