-- Agreement of two trackers, and document 01's of two summaries: the refusals in their order, and the answer.
use Rattle.std.specs.Prelude.{ℕ, zero, suc, Bool, true, ◌&&◌, List, [], ◌∷◌, ◌++◌, eqb, take}
use Rattle.laws.specs.Same.{same}
use Rattle.device.specs.declared.Settings.{Settings}
use Rattle.device.specs.Refusal.{Test, unless, first_failed, Outcome, accepted, tested}
use Rattle.device.specs.Acceptance.{most_rows, settings_tests_to}
use Rattle.device.specs.Remap.{remap_allowed}
use Rattle.summary.specs.Steps.{Summary, estimate}
use Rattle.state.specs.declared.Position.{Position}
use Rattle.state.specs.State.{State, summary_of, valid, tables_long}

-- 'equal settings': all seven
unfoldable pub same_settings : Settings → Settings → Bool
same_settings s s' =
    eqb s.rows s'.rows &&
    eqb s.blast_diameter s'.blast_diameter &&
    eqb s.volume s'.volume &&
    eqb s.counters s'.counters &&
    eqb s.interval s'.interval &&
    eqb s.window s'.window &&
    eqb s.block s'.block

-- equal 'position': events, activations, tracked, spillover
unfoldable pub same_position : Position → Position → Bool
same_position p p' =
    eqb p.events p'.events &&
    eqb p.activations p'.activations &&
    eqb p.tracked p'.tracked &&
    eqb p.spillover p'.spillover

-- 'the same tracked rows with the same counts': as many at the front of each table as the position says
unfoldable pub same_tracked : State → State → Bool
same_tracked st st' =
    same (take st.position.tracked st.rows) (take st'.position.tracked st'.rows) &&
    same (take st.position.tracked st.counts) (take st'.position.tracked st'.counts)

-- the tests in their order, where N may be up to the most: the first's settings, the second's, then 8, '14 .. between 8 and 21', and 21, each 'if either' earns it
unfoldable pub agreement_tests_to : ℕ → Settings → List ℕ → State → Settings → List ℕ → State → List Test
agreement_tests_to most s remap st s' remap' st' =
    settings_tests_to most s ++
    settings_tests_to most s' ++
    unless (tables_long s st.rows st.counts && tables_long s' st'.rows st'.counts) 8 ∷
    unless (remap_allowed remap && remap_allowed remap') 14 ∷
    unless (valid s st && valid s' st') 21 ∷ []

-- 'agreement shall now hold exactly at equal settings, fold and position and the same tracked rows with the same counts'
unfoldable pub agreement_to : ℕ → Settings → List ℕ → State → Settings → List ℕ → State → Outcome Bool
agreement_to most s remap st s' remap' st' =
    tested (first_failed (agreement_tests_to most s remap st s' remap' st'))
    (accepted (same_settings s s' && same remap remap' && same_position st.position st'.position && same_tracked st st'))

-- document 01's tests: no remap is brought, and 14 is not given
unfoldable pub estimates_tests_to : ℕ → Settings → State → Settings → State → List Test
estimates_tests_to most s st s' st' =
    settings_tests_to most s ++
    settings_tests_to most s' ++
    unless (tables_long s st.rows st.counts && tables_long s' st'.rows st'.counts) 8 ∷
    unless (valid s st && valid s' st') 21 ∷ []

-- rows 0 to high, without high, all have the same estimate
unfoldable pub same_estimates : ℕ → Summary → Summary → Bool
same_estimates zero a b = true
same_estimates (suc row) a b = eqb (estimate a row) (estimate b row) && same_estimates row a b

-- 'the older yes': 'N is the same and every row has the same estimate in both'
unfoldable pub estimates_to : ℕ → Settings → State → Settings → State → Outcome Bool
estimates_to most s st s' st' =
    tested (first_failed (estimates_tests_to most s st s' st'))
    (accepted (eqb s.rows s'.rows && same_estimates s.rows (summary_of st) (summary_of st')))

-- the tests and the calls with N up to `most_rows`
abbrev pub agreement_tests : Settings → List ℕ → State → Settings → List ℕ → State → List Test
agreement_tests s remap st s' remap' st' = agreement_tests_to most_rows s remap st s' remap' st'

abbrev pub estimates_tests : Settings → State → Settings → State → List Test
estimates_tests s st s' st' = estimates_tests_to most_rows s st s' st'

abbrev pub agreement_of : Settings → List ℕ → State → Settings → List ℕ → State → Outcome Bool
agreement_of s remap st s' remap' st' = agreement_to most_rows s remap st s' remap' st'

abbrev pub estimates_of : Settings → State → Settings → State → Outcome Bool
estimates_of s st s' st' = estimates_to most_rows s st s' st'
