-- What is claimed of agreement, besides the calls' contracts. proofs/Claims.antt proves each under the same name.
use Rattle.std.specs.Prelude.{ℕ, ◌<◌, ◌≡◌, Bool, true, false, List, [], ◌∷◌, Result}
use Rattle.device.specs.declared.Settings.{Settings}
use Rattle.device.specs.declared.refusal.Refusal.{Refusal}
use Rattle.device.specs.Refusal.{first_failed, accepted, refused, outcome}
use Rattle.device.specs.Remap.{own_remap}
use Rattle.device.specs.Claims.{Alike}
use Rattle.state.specs.State.{State, summary_of}
use Rattle.agreement.specs.Calls.{agreement_tests, agreement_to, estimates_to, agreement_of, estimates_of}
use Rattle.agreement.specs.Later.{Call, answers, memory_behind}
use Rattle.agreement.specs.Answered.{Came, Answered}
use Rattle.agreement.specs.Example.{one_counter, once_activated, event_after}

-- 'exactly at equal settings, fold and position and the same tracked rows with the same counts', on what no test refuses
unfoldable pub AgreeExactly : Type 0
AgreeExactly =
    (s : Settings) (remap : List ℕ) (st : State) (s' : Settings) (remap' : List ℕ) (st' : State) →
    first_failed (agreement_tests s remap st s' remap' st') ≡ 0 →
    (agreement_of s remap st s' remap' st' ≡ accepted true →
    (s ≡ s') × (remap ≡ remap') × (st.position ≡ st'.position) × ((summary_of st).entries ≡ (summary_of st').entries)) ×
    (s ≡ s' → remap ≡ remap' → st.position ≡ st'.position → (summary_of st).entries ≡ (summary_of st').entries →
    agreement_of s remap st s' remap' st' ≡ accepted true)

-- then all lent memory is the same, places behind the tracked rows too
unfoldable pub SameMemory : Type 0
SameMemory =
    (s : Settings) (remap : List ℕ) (st : State) (s' : Settings) (remap' : List ℕ) (st' : State) →
    agreement_of s remap st s' remap' st' ≡ accepted true → st ≡ st'

-- 'trackers that agree in this sense give equal answers to the same calls for ever after, each call being given the memory that the one before left'; and
-- the memory behind the calls is the same
unfoldable pub ForEverAfter : Type 0
ForEverAfter =
    (s : Settings) (remap : List ℕ) (st : State) (s' : Settings) (remap' : List ℕ) (st' : State) →
    agreement_of s remap st s' remap' st' ≡ accepted true →
    (calls : List Call) →
    (answers s remap st calls ≡ answers s' remap' st' calls) × (memory_behind s remap st calls ≡ memory_behind s' remap' st' calls)

-- 'the same calls' that only look at a tracker answer alike too, behind any calls: whatever is worked out from settings, remap and memory, as either
-- agreement with a third tracker, a row's figure, the bound or the least counter count
unfoldable pub LooksAlike : Type 1
LooksAlike =
    (A : Type 0) (looks : Settings → List ℕ → State → A) →
    (s : Settings) (remap : List ℕ) (st : State) (s' : Settings) (remap' : List ℕ) (st' : State) →
    agreement_of s remap st s' remap' st' ≡ accepted true →
    (calls : List Call) → looks s remap (memory_behind s remap st calls) ≡ looks s' remap' (memory_behind s' remap' st' calls)

-- so `agree` and `estimates_agree` with a third tracker answer the same of both: yes, no, or refused with the same number
unfoldable pub ThirdAlike : Type 0
ThirdAlike =
    (s : Settings) (remap : List ℕ) (st : State) (s' : Settings) (remap' : List ℕ) (st' : State) →
    agreement_of s remap st s' remap' st' ≡ accepted true →
    (third : Settings) (its_remap : List ℕ) (its_memory : State) (calls : List Call) →
    let here = memory_behind s remap st calls in
    let there = memory_behind s' remap' st' calls in
    (agreement_of s remap here third its_remap its_memory ≡ agreement_of s' remap' there third its_remap its_memory) ×
    (estimates_of s here third its_memory ≡ estimates_of s' there third its_memory)

-- the same of the library: where `agree` answered yes, any answers to the same calls that meet their contracts are equal, with all that they left
unfoldable pub ForEverAfterOfAnswers : Type 0
ForEverAfterOfAnswers =
    (s : Settings) (remap : List ℕ) (st : State) (s' : Settings) (remap' : List ℕ) (st' : State) (r : Result Bool Refusal) →
    outcome r ≡ agreement_of s remap st s' remap' st' → outcome r ≡ accepted true →
    (calls : List Call) (came came' : List Came) → Answered s remap st calls came → Answered s' remap' st' calls came' → came ≡ came'

-- trackers that agree have the same estimates: 'the older yes'
unfoldable pub Finer : Type 0
Finer =
    (s : Settings) (remap : List ℕ) (st : State) (s' : Settings) (remap' : List ℕ) (st' : State) →
    agreement_of s remap st s' remap' st' ≡ accepted true → estimates_of s st s' st' ≡ accepted true

-- but not the other way round: 'two summaries agreed on every estimate and then named different rows', at the same position. After row 5, row 4 is named;
-- after row 9, row 8
unfoldable pub OlderNotEnough : Type 0
OlderNotEnough =
    ((once_activated 5).position ≡ (once_activated 9).position) ×
    (estimates_of one_counter (once_activated 5) one_counter (once_activated 9) ≡ accepted true) ×
    (agreement_of one_counter own_remap (once_activated 5) one_counter own_remap (once_activated 9) ≡ accepted false) ×
    ((event_after 5).accepts ≡ true) × ((event_after 5).count ≡ 1) × ((event_after 5).picks ≡ 4 ∷ []) ×
    ((event_after 9).accepts ≡ true) × ((event_after 9).count ≡ 1) × ((event_after 9).picks ≡ 8 ∷ [])

-- where N may be up to another most: as they are on settings whose N is judged alike, and refused where the first's N is above it
unfoldable pub AgreementsStay : Type 0
AgreementsStay =
    (most : ℕ) (s : Settings) (remap : List ℕ) (st : State) (s' : Settings) (remap' : List ℕ) (st' : State) →
    (Alike most s → Alike most s' →
    (agreement_to most s remap st s' remap' st' ≡ agreement_of s remap st s' remap' st') × (estimates_to most s st s' st' ≡ estimates_of s st s' st')) ×
    (most < s.rows → (agreement_to most s remap st s' remap' st' ≡ refused 1) × (estimates_to most s st s' st' ≡ refused 1))
