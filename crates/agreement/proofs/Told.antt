-- An answer to a call, with what it left, as the definitions give it; and that it can be read back from that.
use mathlib.Core.Path.{◌≡◌, refl, sym, ap, ◌∙◌}
use mathlib.Core.Bool.{cond}
use mathlib.Core.List.{List, [], ◌∷◌}
use Prim.Native.Nat.{ℕ}
use lib.Dec.{eqb}
use Rattle.std.specs.Prelude.{Result, Ok, Err}
use Rattle.device.specs.declared.refusal.Refusal.{Refusal}
use Rattle.device.specs.declared.refusal.Refusal.TheVariants.{Rows, BlastDiameter, Volume, Counters, Interval, Window, Block, Tables, Row, Picks, Line, NoCount, Room, Remap, Hold, State, IntervalFull}
use Rattle.device.specs.Refusal.{number, outcome}
use Rattle.state.specs.declared.Position.{Position}
use Rattle.laws.proofs.Cases.{zero_one}
use Rattle.state.specs.State.{given}
use Rattle.tracker.specs.declared.Refused.{Refused}
use Rattle.tracker.specs.declared.Refreshed.{Refreshed}
use Rattle.tracker.specs.Answers.{set_up_call, activation_call, activation_accepts, activation_refusal, activation_position, refresh_call, refresh_accepts, refresh_refusal, refresh_count, refresh_position}
use Rattle.agreement.specs.Later.{Answer, set_up_answer, activation_answer, refresh_answer}
use Rattle.agreement.specs.Answered.{Came, set_up_came, activation_came, refresh_came}

unfoldable pub told : Came → Answer
told (set_up_came r rows counts) = set_up_answer (set_up_call r rows counts)
told (activation_came r rows counts) = activation_answer (activation_call r rows counts)
told (refresh_came r rows counts list) = refresh_answer (refresh_call r rows counts list)

unfoldable pub told_each : List Came → List Answer
told_each [] = []
told_each (c ∷ cs) = told c ∷ told_each cs

-- a refusal is known by its number
numbered : ℕ → Refusal
numbered k =
    cond (eqb k 1) Rows
    (cond (eqb k 2) BlastDiameter
    (cond (eqb k 3) Volume
    (cond (eqb k 4) Counters
    (cond (eqb k 5) Interval
    (cond (eqb k 6) Window
    (cond (eqb k 7) Block
    (cond (eqb k 8) Tables
    (cond (eqb k 9) Row
    (cond (eqb k 10) Picks
    (cond (eqb k 11) Line
    (cond (eqb k 12) NoCount
    (cond (eqb k 13) Room
    (cond (eqb k 14) Remap
    (cond (eqb k 15) Hold
    (cond (eqb k 21) State IntervalFull)))))))))))))))

numbered_number : (r : Refusal) → numbered (number r) ≡ r
unfolding numbered
numbered_number Rows = refl
numbered_number BlastDiameter = refl
numbered_number Volume = refl
numbered_number Counters = refl
numbered_number Interval = refl
numbered_number Window = refl
numbered_number Block = refl
numbered_number Tables = refl
numbered_number Row = refl
numbered_number Picks = refl
numbered_number Line = refl
numbered_number NoCount = refl
numbered_number Room = refl
numbered_number Remap = refl
numbered_number Hold = refl
numbered_number State = refl
numbered_number IntervalFull = refl

number_back : (r r' : Refusal) → number r ≡ number r' → r ≡ r'
number_back r r' e = sym (numbered_number r) ∙ ap numbered e ∙ numbered_number r'

-- answers are told apart
set_up_back : (r r' : Result Position Refusal) → outcome r ≡ outcome r' → r ≡ r'
unfolding outcome
set_up_back (Ok p) (Ok p') e = cc
set_up_back (Ok p) (Err k') e = zero_one (cc)
set_up_back (Err k) (Ok p') e = zero_one (cc)
set_up_back (Err k) (Err k') e = let same : number k ≡ number k' = cc in cc (number_back k k' same)

activation_back : (r r' : Result Position Refused) → activation_accepts r ≡ activation_accepts r' → activation_refusal r ≡ activation_refusal r' → activation_position r ≡ activation_position r' → r ≡ r'
unfolding activation_accepts activation_refusal activation_position
activation_back (Ok p) (Ok p') a k e = cc
activation_back (Ok p) (Err r') a k e = zero_one (cc)
activation_back (Err r) (Ok p') a k e = zero_one (cc)
activation_back (Err r) (Err r') a k e = λ i. Err (record { refusal = number_back r.refusal r'.refusal k i; position = e i })

refresh_back : (r r' : Result Refreshed Refused) → refresh_accepts r ≡ refresh_accepts r' → refresh_refusal r ≡ refresh_refusal r' → refresh_count r ≡ refresh_count r' → refresh_position r ≡ refresh_position r' → r ≡ r'
unfolding refresh_accepts refresh_refusal refresh_count refresh_position
refresh_back (Ok r) (Ok r') a k c e = λ i. Ok (record { count = c i; position = e i })
refresh_back (Ok r) (Err r') a k c e = zero_one (cc)
refresh_back (Err r) (Ok r') a k c e = zero_one (cc)
refresh_back (Err r) (Err r') a k c e = λ i. Err (record { refusal = number_back r.refusal r'.refusal k i; position = e i })

told_back : (c c' : Came) → told c ≡ told c' → c ≡ c'
unfolding told set_up_call activation_call refresh_call given
told_back (set_up_came r rows counts) (set_up_came r' rows' counts') e =
    let q : set_up_call r rows counts ≡ set_up_call r' rows' counts' = cc in
    let back = set_up_back r r' (λ i. (q i).answer) in
    λ i. set_up_came (back i) (q i).rows (q i).counts
told_back (activation_came r rows counts) (activation_came r' rows' counts') e =
    let q : activation_call r rows counts ≡ activation_call r' rows' counts' = cc in
    let back = activation_back r r' (λ i. (q i).accepts) (λ i. (q i).refusal) (λ i. (q i).state.position) in
    λ i. activation_came (back i) (q i).state.rows (q i).state.counts
told_back (refresh_came r rows counts list) (refresh_came r' rows' counts' list') e =
    let q : refresh_call r rows counts list ≡ refresh_call r' rows' counts' list' = cc in
    let back = refresh_back r r' (λ i. (q i).accepts) (λ i. (q i).refusal) (λ i. (q i).count) (λ i. (q i).state.position) in
    λ i. refresh_came (back i) (q i).state.rows (q i).state.counts (q i).picks
told_back (set_up_came r rows counts) (activation_came r' rows' counts') e = zero_one (cc)
told_back (set_up_came r rows counts) (refresh_came r' rows' counts' list') e = zero_one (cc)
told_back (activation_came r rows counts) (set_up_came r' rows' counts') e = zero_one (cc)
told_back (activation_came r rows counts) (refresh_came r' rows' counts' list') e = zero_one (cc)
told_back (refresh_came r rows counts list) (set_up_came r' rows' counts') e = zero_one (cc)
told_back (refresh_came r rows counts list) (activation_came r' rows' counts') e = zero_one (cc)

pub told_each_back : (came came' : List Came) → told_each came ≡ told_each came' → came ≡ came'
unfolding told_each
told_each_back [] [] e = refl
told_each_back [] (c' ∷ came') e = zero_one (cc)
told_each_back (c ∷ came) [] e = zero_one (cc)
told_each_back (c ∷ came) (c' ∷ came') e =
    let first : told c ≡ told c' = cc in
    let rest : told_each came ≡ told_each came' = cc in
    cc (told_back c c' first, told_each_back came came' rest)
