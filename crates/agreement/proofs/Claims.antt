-- The claims of specs/Claims.antt, each under its own name.
use mathlib.Core.Path.{refl, sym, ◌∙◌}
use mathlib.Core.List.{append_assoc}
use Prim.Native.Nat.{zero-le}
use Rattle.device.specs.Refusal.{tested}
use Rattle.device.specs.Acceptance.{settings_tests_to}
use Rattle.device.proofs.Acceptance.{settings_alike, above_then}
use Rattle.summary.specs.Steps.{estimate}
use Rattle.state.specs.State.{summary_of}
use Rattle.agreement.specs.Calls.{agreement_tests_to, agreement_to, agreement_of, estimates_of, estimates_tests_to, same_estimates, estimates_to}
use Rattle.agreement.specs.Later.{answers, memory_behind}
use Rattle.agreement.specs.Claims.{AgreeExactly, SameMemory, ForEverAfter, LooksAlike, ThirdAlike, ForEverAfterOfAnswers, Finer, OlderNotEnough, AgreementsStay}
use Rattle.agreement.proofs.Calls.Tests.{agreement_passed, passed_estimates}
use Rattle.agreement.proofs.Calls.Outcomes.{estimates_alike}
use Rattle.agreement.proofs.Calls.SameEstimates.{same_estimates_alike}
use Rattle.agreement.proofs.Equal.{agreed_equal, alike_equal, equal_agreed}
use Rattle.agreement.proofs.Later.{answered_alike}
use Rattle.agreement.proofs.Example.{told_by_computing}

pub agree_exactly : AgreeExactly
unfolding AgreeExactly
agree_exactly s remap st s' remap' st' ok = (
  λ agreed.
      let k = agreed_equal s remap st s' remap' st' agreed in
      (k.settings, k.remaps, (λ i. (k.states i).position), (λ i. (summary_of (k.states i)).entries)),
  λ settings remaps position entries. equal_agreed s remap st s' remap' st' (alike_equal s remap st s' remap' st' ok settings remaps position entries),
)

pub same_memory : SameMemory
unfolding SameMemory
same_memory s remap st s' remap' st' agreed = (agreed_equal s remap st s' remap' st' agreed).states

pub for_ever_after : ForEverAfter
unfolding ForEverAfter
for_ever_after s remap st s' remap' st' agreed calls =
    let k = agreed_equal s remap st s' remap' st' agreed in
    ((λ i. answers (k.settings i) (k.remaps i) (k.states i) calls), (λ i. memory_behind (k.settings i) (k.remaps i) (k.states i) calls))

pub looks_alike : LooksAlike
unfolding LooksAlike
looks_alike A looks s remap st s' remap' st' agreed calls =
    let k = agreed_equal s remap st s' remap' st' agreed in
    λ i. looks (k.settings i) (k.remaps i) (memory_behind (k.settings i) (k.remaps i) (k.states i) calls)

pub third_alike : ThirdAlike
unfolding ThirdAlike LooksAlike
third_alike s remap st s' remap' st' agreed third its_remap its_memory calls = (
  looks_alike _ (λ s remap st. agreement_of s remap st third its_remap its_memory) s remap st s' remap' st' agreed calls,
  looks_alike _ (λ s remap st. estimates_of s st third its_memory) s remap st s' remap' st' agreed calls,
)

pub for_ever_after_of_answers : ForEverAfterOfAnswers
unfolding ForEverAfterOfAnswers ForEverAfter
for_ever_after_of_answers s remap st s' remap' st' r meets agreed calls came came' a a' =
    answered_alike a a' (for_ever_after s remap st s' remap' st' (sym meets ∙ agreed) calls).0

pub finer : Finer
unfolding Finer same_estimates
finer s remap st s' remap' st' agreed =
    let k = agreed_equal s remap st s' remap' st' agreed in
    let passed = passed_estimates s st s' st' (agreement_passed s st s' st' remap remap' k.passed) in
    let each = same_estimates_alike (summary_of st) (summary_of st') 0 s.rows zero-le refl (λ row l h i. estimate (summary_of (k.states i)) row) in
    sym (estimates_alike s st s' st' (sym passed) (λ i. (k.settings i).rows) (sym each))

pub older_not_enough : OlderNotEnough
older_not_enough = told_by_computing

pub agreements_stay : AgreementsStay
unfolding AgreementsStay agreement_tests_to estimates_tests_to agreement_to estimates_to tested
agreements_stay most s remap st s' remap' st' = (
  λ alike alike'. (rw (settings_alike most s alike, settings_alike most s' alike'), rw (settings_alike most s alike, settings_alike most s' alike')),
  λ above. (
    rw (append_assoc (settings_tests_to most s) (settings_tests_to most s'), above_then most s above),
    rw (append_assoc (settings_tests_to most s) (settings_tests_to most s'), above_then most s above),
  ),
)
