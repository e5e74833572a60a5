-- What a yes says: settings, remap and state are the same. The tables are, since what stands behind the tracked rows is 0.
use mathlib.Core.Path.{◌≡◌, refl, sym, ◌∙◌}
use mathlib.Core.Bool.{Bool, true}
use mathlib.Core.List.{List}
use Prim.Native.Nat.{ℕ, zero, suc}
use Rattle.laws.specs.Same.{same}
use Rattle.laws.proofs.Cases.{and_both, zero_one}
use Rattle.laws.proofs.Same.{same_alike, alike_same}
use Rattle.device.specs.declared.Settings.{Settings}
use Rattle.device.specs.Refusal.{first_failed, accepted, tested}
use Rattle.summary.specs.Entries.{rows_of, counts_of}
use Rattle.summary.specs.Tables.{table}
use Rattle.state.specs.State.{State, summary_of}
use Rattle.state.proofs.Valid.{Facts}
use Rattle.agreement.specs.Calls.{same_settings, same_position, same_tracked, agreement_tests, agreement_to, agreement_of}
use Rattle.agreement.proofs.Calls.Tests.{compared, agreement_passed}
use Rattle.agreement.proofs.Alike.{same_settings_alike, alike_same_settings, same_position_alike, alike_same_position, same_tracked_alike, alike_same_tracked}

-- an answer behind tests that is accepted: none refused, and it is that answer
accepted_passed : (k : ℕ) (a b : Bool) → tested k (accepted a) ≡ accepted b → (k ≡ 0) × (a ≡ b)
unfolding tested
accepted_passed zero a b e = (refl, cc)
accepted_passed (suc k) a b e = zero_one (cc)

-- valid states of the same settings are the same where position and entries are
state_alike : {s s' : Settings} {st st' : State} → Facts s st → Facts s' st' → s ≡ s' → st.position ≡ st'.position → (summary_of st).entries ≡ (summary_of st').entries → st ≡ st'
state_alike {s} {s'} {st} {st'} f f' settings position entries =
    let rows : st.rows ≡ st'.rows = f.holds.rows_laid ∙ (λ i. table (settings i).counters (rows_of (entries i))) ∙ sym f'.holds.rows_laid in
    let counts : st.counts ≡ st'.counts = f.holds.counts_laid ∙ (λ i. table (settings i).counters (counts_of (entries i))) ∙ sym f'.holds.counts_laid in
    λ i. record { rows = rows i; counts = counts i; position = position i }

module _ (s : Settings) (remap : List ℕ) (st : State) (s' : Settings) (remap' : List ℕ) (st' : State) where
  -- all that a yes says
  pub record Equal : Type 0 where
    pub passed : first_failed (agreement_tests s remap st s' remap' st') ≡ 0
    pub settings : s ≡ s'
    pub remaps : remap ≡ remap'
    pub states : st ≡ st'

  pub agreed_equal : agreement_of s remap st s' remap' st' ≡ accepted true → Equal
  unfolding agreement_to
  agreed_equal e =
      let answer = accepted_passed (first_failed (agreement_tests s remap st s' remap' st')) _ true e in
      let p3 = and_both _ (same_tracked st st') answer.1 in
      let p2 = and_both _ (same_position st.position st'.position) p3.0 in
      let p1 = and_both (same_settings s s') (same remap remap') p2.0 in
      let both = compared s st s' st' (agreement_passed s st s' st' remap remap' answer.0) in
      let settings = same_settings_alike s s' p1.0 in
      let position = same_position_alike st.position st'.position p2.1 in
      record {
        passed = answer.0;
        settings = settings;
        remaps = same_alike remap remap' p1.1;
        states = state_alike both.first both.second settings position (same_tracked_alike st st' position p3.1);
      }

  -- and where all that is so, and no test refuses, the answer is yes
  pub equal_agreed : Equal → agreement_of s remap st s' remap' st' ≡ accepted true
  unfolding agreement_to tested
  equal_agreed k =
      let settings : same_settings s s' ≡ true = rw (← k.settings) (alike_same_settings s) in
      let remaps : same remap remap' ≡ true = rw (← k.remaps) (alike_same remap) in
      let position : same_position st.position st'.position ≡ true = rw (← k.states) (alike_same_position st.position) in
      let tracked : same_tracked st st' ≡ true = rw (← k.states) (alike_same_tracked st) in
      rw (k.passed, settings, remaps, position, tracked)

  pub alike_equal : first_failed (agreement_tests s remap st s' remap' st') ≡ 0 → s ≡ s' → remap ≡ remap' → st.position ≡ st'.position → (summary_of st).entries ≡ (summary_of st').entries → Equal
  alike_equal ok settings remaps position entries =
      let both = compared s st s' st' (agreement_passed s st s' st' remap remap' ok) in
      record { passed = ok; settings = settings; remaps = remaps; states = state_alike both.first both.second settings position entries }
