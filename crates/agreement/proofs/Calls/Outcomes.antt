-- Each call by its cases: what `agreement_of` and `estimates_of` are where a test refuses, and where none does.
use mathlib.Core.Path.{◌≡◌, sym}
use mathlib.Core.Bool.{Bool, false, ◌&&◌}
use mathlib.Core.List.{List}
use Prim.Native.Nat.{ℕ}
use borrow.Author.Tests.{ne_eqb, eq-eqb}
use Rattle.laws.specs.Same.{same}
use Rattle.device.specs.declared.Settings.{Settings}
use Rattle.device.specs.declared.refusal.Refusal.{Refusal}
use Rattle.device.specs.Refusal.{first_failed, number, refused, accepted, tested}
use Rattle.device.proofs.Tests.{tested_failed, number_not_0}
use Rattle.state.specs.State.{State, summary_of}
use Rattle.agreement.specs.Calls.{same_settings, same_position, same_tracked, agreement_tests, agreement_to, agreement_of, estimates_tests, estimates_to, estimates_of, same_estimates}

module _ (s : Settings) (st : State) (s' : Settings) (st' : State) where
  pub estimates_refused_by_number : (k : ℕ) → k ≡ first_failed (estimates_tests s st s' st') → (k ≡ 0 → ⊥) → refused k ≡ estimates_of s st s' st'
  unfolding estimates_to
  estimates_refused_by_number k e h = rw (← e) (sym (tested_failed k _ h))

  pub estimates_refused : (r : Refusal) → number r ≡ first_failed (estimates_tests s st s' st') → refused (number r) ≡ estimates_of s st s' st'
  estimates_refused r e = estimates_refused_by_number (number r) e (number_not_0 r)

  pub estimates_differ : 0 ≡ first_failed (estimates_tests s st s' st') → (s.rows ≡ s'.rows → ⊥) → accepted false ≡ estimates_of s st s' st'
  unfolding estimates_to tested
  estimates_differ e h = rw (← e, ne_eqb s.rows s'.rows h)

  pub estimates_alike : {b : Bool} → 0 ≡ first_failed (estimates_tests s st s' st') → s.rows ≡ s'.rows → b ≡ same_estimates s.rows (summary_of st) (summary_of st') → accepted b ≡ estimates_of s st s' st'
  unfolding estimates_to tested
  estimates_alike e h same = rw (← e, eq-eqb s.rows s'.rows h, same)

module _ (s : Settings) (remap : List ℕ) (st : State) (s' : Settings) (remap' : List ℕ) (st' : State) where
  pub agreement_refused_by_number : (k : ℕ) → k ≡ first_failed (agreement_tests s remap st s' remap' st') → (k ≡ 0 → ⊥) → refused k ≡ agreement_of s remap st s' remap' st'
  unfolding agreement_to
  agreement_refused_by_number k e h = rw (← e) (sym (tested_failed k _ h))

  pub agreement_refused : (r : Refusal) → number r ≡ first_failed (agreement_tests s remap st s' remap' st') → refused (number r) ≡ agreement_of s remap st s' remap' st'
  agreement_refused r e = agreement_refused_by_number (number r) e (number_not_0 r)

  pub agreement_answered : {b : Bool} → 0 ≡ first_failed (agreement_tests s remap st s' remap' st') → b ≡ (same_settings s s' && same remap remap' && same_position st.position st'.position && same_tracked st st') → accepted b ≡ agreement_of s remap st s' remap' st'
  unfolding agreement_to tested
  agreement_answered e same = rw (← e, same)
