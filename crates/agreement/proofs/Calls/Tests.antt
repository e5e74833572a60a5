-- The tests of both calls, in their order: which refusal comes first, and what a call has in hand that none refuses.
use mathlib.Core.Path.{◌≡◌, sym, ◌∙◌}
use mathlib.Core.Bool.{true, not, ◌&&◌}
use mathlib.Core.List.{List, [], ◌∷◌, ◌++◌, append_assoc}
use Prim.Native.Nat.{ℕ, ◌≤◌}
use native.Mathlib.Omega.{arith}
use lib.ListN.{length}
use Rattle.laws.proofs.Cases.{and_both}
use Rattle.device.specs.declared.Settings.{Settings}
use Rattle.device.specs.Refusal.{Test, unless, refuse, first_failed}
use Rattle.device.specs.Acceptance.{settings_tests}
use Rattle.device.specs.Remap.{remap_allowed}
use Rattle.device.proofs.Tests.{or_later, or_later_assoc, or_later_zero, or_later_none, later_test, refuse_passed}
use Rattle.device.proofs.Acceptance.{settings_then}
use Rattle.summary.specs.InnerContracts.{Holds}
use Rattle.summary.specs.Tables.{read}
use Rattle.summary.proofs.InnerContracts.Holds.{long_rows, long_counts}
use Rattle.state.specs.declared.Position.{Position}
use Rattle.state.specs.State.{State, given, summary_of, valid, tables_long}
use Rattle.state.proofs.Valid.{Facts, valid_facts}
use Rattle.agreement.specs.Calls.{agreement_tests_to, agreement_tests, estimates_tests_to, estimates_tests}
use Rattle.agreement.specs.InnerContracts.{both_tables_tests, TracksBelow}

module _ (s : Settings) (rows counts : List ℕ) (s' : Settings) (rows' counts' : List ℕ) where
  behind_settings : (later : List Test) → first_failed (settings_tests s ++ settings_tests s' ++ later) ≡ or_later (first_failed (settings_tests s)) (or_later (first_failed (settings_tests s')) (first_failed later))
  behind_settings later = rw (append_assoc (settings_tests s) (settings_tests s') later, settings_then s (settings_tests s' ++ later), settings_then s' later)

  pub both_tables_tested : first_failed (both_tables_tests s rows counts s' rows' counts') ≡ or_later (first_failed (settings_tests s)) (or_later (first_failed (settings_tests s')) (refuse (not (tables_long s rows counts && tables_long s' rows' counts')) 8 0))
  unfolding both_tables_tests first_failed unless
  both_tables_tested = behind_settings (unless (tables_long s rows counts && tables_long s' rows' counts') 8 ∷ [])

  -- what stands behind the tests of both settings and of the tables
  behind_tables : (later : List Test) → first_failed (settings_tests s ++ settings_tests s' ++ unless (tables_long s rows counts && tables_long s' rows' counts') 8 ∷ later) ≡ or_later (first_failed (both_tables_tests s rows counts s' rows' counts')) (first_failed later)
  unfolding first_failed unless
  behind_tables later =
      rw (
        behind_settings (unless (tables_long s rows counts && tables_long s' rows' counts') 8 ∷ later),
        both_tables_tested,
        later_test (first_failed (settings_tests s')) (tables_long s rows counts && tables_long s' rows' counts') 7 (first_failed later),
        or_later_assoc (first_failed (settings_tests s)) (or_later (first_failed (settings_tests s')) (refuse (not (tables_long s rows counts && tables_long s' rows' counts')) 8 0)) (first_failed later),
      )

module _ (s : Settings) (st : State) (s' : Settings) (st' : State) where
  pub estimates_tested : first_failed (estimates_tests s st s' st') ≡ or_later (first_failed (both_tables_tests s st.rows st.counts s' st'.rows st'.counts)) (refuse (not (valid s st && valid s' st')) 21 0)
  unfolding estimates_tests_to first_failed unless
  estimates_tested = behind_tables s st.rows st.counts s' st'.rows st'.counts (unless (valid s st && valid s' st') 21 ∷ [])

  pub agreement_tested : (remap remap' : List ℕ) → first_failed (agreement_tests s remap st s' remap' st') ≡ or_later (first_failed (both_tables_tests s st.rows st.counts s' st'.rows st'.counts)) (refuse (not (remap_allowed remap && remap_allowed remap')) 14 (refuse (not (valid s st && valid s' st')) 21 0))
  unfolding agreement_tests_to first_failed unless
  agreement_tested remap remap' =
      behind_tables s st.rows st.counts s' st'.rows st'.counts
      (unless (remap_allowed remap && remap_allowed remap') 14 ∷ unless (valid s st && valid s' st') 21 ∷ [])

  -- the tests that both calls have passed
  pub record Passed : Type 0 where
    pub tables : first_failed (both_tables_tests s st.rows st.counts s' st'.rows st'.counts) ≡ 0
    pub sound : (valid s st && valid s' st') ≡ true

  pub estimates_passed : first_failed (estimates_tests s st s' st') ≡ 0 → Passed
  estimates_passed e =
      let parts = or_later_none (first_failed (both_tables_tests s st.rows st.counts s' st'.rows st'.counts)) _ (sym estimates_tested ∙ e) in
      record { tables = parts.0; sound = (refuse_passed (valid s st && valid s' st') 20 0 parts.1).0 }

  pub agreement_passed : (remap remap' : List ℕ) → first_failed (agreement_tests s remap st s' remap' st') ≡ 0 → Passed
  agreement_passed remap remap' e =
      let parts = or_later_none (first_failed (both_tables_tests s st.rows st.counts s' st'.rows st'.counts)) _ (sym (agreement_tested remap remap') ∙ e) in
      let state = refuse_passed (remap_allowed remap && remap_allowed remap') 13 (refuse (not (valid s st && valid s' st')) 21 0) parts.1 in
      record { tables = parts.0; sound = (refuse_passed (valid s st && valid s' st') 20 0 state.1).0 }

  pub passed_estimates : Passed → first_failed (estimates_tests s st s' st') ≡ 0
  unfolding refuse
  passed_estimates p = rw (estimates_tested, or_later_zero _ _ p.tables, p.sound)

-- both tables of both sides are long
pub tables_passed : (s : Settings) (rows counts : List ℕ) (s' : Settings) (rows' counts' : List ℕ) → 0 ≡ first_failed (both_tables_tests s rows counts s' rows' counts') → (tables_long s rows counts ≡ true) × (tables_long s' rows' counts' ≡ true)
tables_passed s rows counts s' rows' counts' e =
    let long = tables_long s rows counts && tables_long s' rows' counts' in
    let one = or_later_none (first_failed (settings_tests s)) _ (sym (e ∙ both_tables_tested s rows counts s' rows' counts')) in
    let two = or_later_none (first_failed (settings_tests s')) (refuse (not long) 8 0) one.1 in
    and_both _ _ (refuse_passed long 7 0 two.1).0

-- both states are valid
pub record Compared (s : Settings) (st : State) (s' : Settings) (st' : State) : Type 0 where
  pub first : Facts s st
  pub second : Facts s' st'

pub compared : (s : Settings) (st : State) (s' : Settings) (st' : State) → Passed s st s' st' → Compared s st s' st'
compared s st s' st' p =
    let longs = tables_passed s st.rows st.counts s' st'.rows st'.counts (sym p.tables) in
    let valids = and_both (valid s st) (valid s' st') p.sound in
    record { first = valid_facts s st longs.0 valids.0; second = valid_facts s' st' longs.1 valids.1 }

-- tables of a valid state, with their own length for the number of places
pub holds_own_length : {s : Settings} {st : State} → Facts s st → Holds (length st.rows) s.rows (read st.rows st.counts st.position.tracked st.position.spillover) st.rows st.counts st.position.tracked st.position.spillover
unfolding summary_of
holds_own_length f = rw (long_rows f.holds) f.holds

-- the tracked rows have places in both tables
pub tracked_rows : {s : Settings} {st : State} → Facts s st → st.position.tracked ≤ length st.rows
tracked_rows f = omega (arith, f.holds.tracked_is, f.holds.sound.fits, long_rows f.holds)

pub tracked_counts : {s : Settings} {st : State} → Facts s st → st.position.tracked ≤ length st.counts
tracked_counts f = omega (arith, f.holds.tracked_is, f.holds.sound.fits, long_counts f.holds)

abbrev InBounds : State → Type 0
InBounds st = (st.position.tracked ≤ length st.rows) × (st.position.tracked ≤ length st.counts)

in_bounds : {s : Settings} {st : State} → Facts s st → InBounds st
in_bounds f = (tracked_rows f, tracked_counts f)

-- so they have where no test refuses
pub agreement_in_bounds : (s : Settings) (remap : List ℕ) (st : State) (s' : Settings) (remap' : List ℕ) (st' : State) → 0 ≡ first_failed (agreement_tests s remap st s' remap' st') → InBounds st × InBounds st'
agreement_in_bounds s remap st s' remap' st' e =
    let both = compared s st s' st' (agreement_passed s st s' st' remap remap' (sym e)) in
    (in_bounds both.first, in_bounds both.second)

pub estimates_in_bounds : (s : Settings) (st : State) (s' : Settings) (st' : State) → 0 ≡ first_failed (estimates_tests s st s' st') → InBounds st × InBounds st'
estimates_in_bounds s st s' st' e =
    let both = compared s st s' st' (estimates_passed s st s' st' (sym e)) in
    (in_bounds both.first, in_bounds both.second)

-- and tables of banks of as many rows track rows below their end
pub estimates_tracks : (s : Settings) (rows counts : List ℕ) (p : Position) (s' : Settings) (rows' counts' : List ℕ) (p' : Position) → 0 ≡ first_failed (estimates_tests s (given rows counts p) s' (given rows' counts' p')) → s.rows ≡ s'.rows → (TracksBelow s.rows rows counts (record { tracked = p.tracked; spillover = p.spillover })) × (TracksBelow s.rows rows' counts' (record { tracked = p'.tracked; spillover = p'.spillover }))
unfolding given
estimates_tracks s rows counts p s' rows' counts' p' e same =
    let st = given rows counts p in
    let st' = given rows' counts' p' in
    let both = compared s st s' st' (estimates_passed s st s' st' (sym e)) in
    (holds_own_length both.first, rw same (holds_own_length both.second))
