-- A sequence of answers that meet their contracts gives what the definitions answer, so two are the same where the definitions' answers are.
use mathlib.Core.Path.{◌≡◌, refl, sym, ◌∙◌, ap}
use mathlib.Core.List.{List, ◌∷◌}
use Prim.Native.Nat.{ℕ}
use Rattle.device.specs.declared.Settings.{Settings}
use Rattle.state.specs.State.{State}
use Rattle.tracker.specs.Answers.{set_up_call, activation_call, refresh_call}
use Rattle.agreement.specs.Later.{Call, Answer, set_up_answer, activation_answer, refresh_answer, answer_to, memory_after, answers}
use Rattle.agreement.specs.Answered.{Came, Answered, no_call, set_up_answered, activation_answered, refresh_answered}
use Rattle.agreement.proofs.Told.{told, told_each, told_each_back}

answered_answers : {s : Settings} {remap : List ℕ} {st : State} {calls : List Call} {came : List Came} → Answered s remap st calls came → told_each came ≡ answers s remap st calls
unfolding told_each told answers answer_to memory_after set_up_call activation_call refresh_call
answered_answers no_call = refl
answered_answers (set_up_answered b r rows counts meets a) = rw (← meets) (ap (λ (later : List Answer). set_up_answer (set_up_call r rows counts) ∷ later) (answered_answers a))
answered_answers (activation_answered b row hold r rows counts meets a) = rw (← meets) (ap (λ (later : List Answer). activation_answer (activation_call r rows counts) ∷ later) (answered_answers a))
answered_answers (refresh_answered b list₀ r rows counts list meets a) = rw (← meets) (ap (λ (later : List Answer). refresh_answer (refresh_call r rows counts list) ∷ later) (answered_answers a))

pub answered_alike : {s s' : Settings} {remap remap' : List ℕ} {st st' : State} {calls : List Call} {came came' : List Came} → Answered s remap st calls came → Answered s' remap' st' calls came' → answers s remap st calls ≡ answers s' remap' st' calls → came ≡ came'
answered_alike {came} {came'} a a' e = told_each_back came came' (answered_answers a ∙ e ∙ sym (answered_answers a'))
