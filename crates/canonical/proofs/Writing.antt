-- The writer: answers without a fault are readable, those before the first faulty one have none, and when the spelling is written.
use mathlib.Core.Path.{◌≡◌, refl, sym, ap}
use mathlib.Core.Bool.{true}
use mathlib.Core.Logic.{⊎_elim}
use mathlib.Core.List.Memᴰ
use mathlib.Core.List.{List, [], ◌∷◌, ◌++◌}
use mathlib.Core.Option.{Option, none, some}
use Prim.Native.Nat.{ℕ, zero, suc, ◌≤◌, ◌<◌}
use native.Mathlib.Omega.{arith}
use borrow.Author.Tests.{ltb-true, leb-true, le-leb, eqb-true, eqb-false, eq-eqb}
use lib.Dec.{eqb, leb, ltb}
use lib.ListN.{length, take}
use Rattle.device.specs.declared.Settings.{Settings}
use Rattle.device.specs.Refusal.{Outcome, accepted, refused, unless, refuse, first_failed}
use Rattle.device.specs.Acceptance.{most_rows}
use Rattle.device.proofs.Acceptance.{Between, Accepted, accepted_settings, settings_alike}
use Rattle.device.proofs.Tests.{refuse_passed}
use Rattle.device.proofs.Remap.{entry_below}
use Rattle.device.proofs.Hold.{hold_between}
use Rattle.laws.proofs.Cases.{split, clash, zero_one}
use Rattle.trace.specs.declared.Sixteen.{Sixteen}
use Rattle.trace.specs.declared.Record.{Record}
use Rattle.trace.specs.declared.Record.TheVariants.{Set, Remap, Activate, Refresh, Blank}
use Rattle.device.specs.Remap.{remap_allowed}
use Rattle.device.specs.Hold.{hold_allowed}
use Rattle.columns.specs.Numbers.{written}
use Rattle.trace.specs.Records.{sixteen_of}
use Rattle.canonical.specs.Spelling.{settings_numbers, spelling, is_blank, unblank}
use Rattle.canonical.specs.Writing.{standing_behind, standing_after, activation_fault, fault_to, fault, first_fault_to, first_fault, before_fault_to, before_fault, room_fault, writing_fault_to, writing_by, writing_to, writing}
use Rattle.trace.specs.Claims.{AllAlike}
use Rattle.columns.proofs.Output.{take_written}
use Rattle.columns.proofs.Numbers.ReadBack.{Narrow, no_number, one_more, narrow_by}
use Rattle.canonical.proofs.Spelling.Readable.{Readable, Readables, no_answer, one_answer_more, of_settings, of_remap, of_activation, of_refresh, of_blank}

pub record FaultyFrom (standing : Option ℕ) (os : List (Outcome Record)) : Type 0 where
  pub answer : Outcome Record
  pub others : List (Outcome Record)
  pub behind : os ≡ before_fault standing os ++ (answer ∷ others)
  pub faulty : fault (standing_after standing (before_fault standing os)) answer ≡ first_fault standing os

-- the first answer has no fault, nor has any behind it
first_fault_none : (standing : Option ℕ) (o : Outcome Record) (os : List (Outcome Record)) → first_fault standing (o ∷ os) ≡ 0
    → (fault standing o ≡ 0) × (first_fault (standing_behind standing o) os ≡ 0)
unfolding first_fault_to
first_fault_none standing o os e =
    split (eqb (fault standing o) 0)
    (λ q. (eqb-true (fault standing o) 0 q, rw q at e))
    (λ q. absurd (eqb-false (fault standing o) 0 q (rw q at e)))

pub first_fault_before : (standing : Option ℕ) (os : List (Outcome Record)) → first_fault standing (before_fault standing os) ≡ 0
unfolding first_fault_to before_fault_to
first_fault_before standing [] = refl
first_fault_before standing (o ∷ os) =
    split (eqb (fault standing o) 0) (λ q. rw (q, q) (first_fault_before (standing_behind standing o) os)) (λ q. rw q)

-- a faulty one stands right behind those before it
pub first_faulty : (standing : Option ℕ) (os : List (Outcome Record)) → (first_fault standing os ≡ 0 → ⊥) → FaultyFrom standing os
unfolding first_fault_to before_fault_to standing_after
first_faulty standing [] h = absurd (h refl)
first_faulty standing (o ∷ os) h =
    split (eqb (fault standing o) 0)
    (λ q.
    let later = first_faulty (standing_behind standing o) os (λ e. h (rw q e)) in
    record {
      answer = later.answer;
      others = later.others;
      behind = rw q (ap (λ (ps : List (Outcome Record)). o ∷ ps) later.behind);
      faulty = rw q later.faulty;
    })
    (λ q. record { answer = o; others = os; behind = rw q; faulty = rw q })

pub before_fault_all : (standing : Option ℕ) (os : List (Outcome Record)) → first_fault standing os ≡ 0 → before_fault standing os ≡ os
unfolding before_fault_to
before_fault_all standing [] e = refl
before_fault_all standing (o ∷ os) e =
    let first = first_fault_none standing o os e in
    rw (eq-eqb _ _ first.0, before_fault_all (standing_behind standing o) os first.1)

-- the rows of standing settings, if any stand, are at most those of a bank
data Standing : Option ℕ → Type 0 where
  no_settings : Standing none
  some_settings : {rows : ℕ} → rows ≤ most_rows → Standing (some rows)

between_lt : {low high x : ℕ} → Between low high x → high < 1000000 → x < 1000000
between_lt h k = omega arith

narrow_accepted : (s : Settings) → Accepted s → Narrow (settings_numbers s)
unfolding settings_numbers
narrow_accepted s h =
    let diameter : s.blast_diameter < 1000000 = ⊎_elim (λ e. omega arith) (λ e. omega arith) h.others.diameter in
    one_more (between_lt h.others.rows (omega arith))
    (one_more diameter
    (one_more (between_lt h.others.volume (omega arith))
    (one_more (between_lt h.counters (omega arith))
    (one_more (between_lt h.others.interval (omega arith))
    (one_more (between_lt h.others.window (omega arith))
    (one_more (between_lt h.others.block (omega arith)) no_number))))))

narrow_allowed : (t : Sixteen) → remap_allowed (sixteen_of t) ≡ true → Narrow (sixteen_of t)
unfolding sixteen_of
narrow_allowed t ok = narrow_by (sixteen_of t) (λ i h. omega (arith, entry_below (sixteen_of t) ok i h))

activation_faultless : {standing : Option ℕ} (row hold : ℕ) → Standing standing → activation_fault standing row hold ≡ 0 → Readable (accepted (Activate row hold))
unfolding activation_fault first_failed unless
activation_faultless row hold no_settings e = absurd (omega arith)
activation_faultless row hold (some_settings {rows} h) e =
    let inside = refuse_passed (ltb row rows) 8 _ e in
    let units = hold_between hold (refuse_passed (hold_allowed hold) 14 0 inside.1).0 in
    of_activation {row = row} (omega (arith, ltb-true row rows inside.0)) (between_lt units (omega arith))

answer_faultless : {standing : Option ℕ} (o : Outcome Record) → Standing standing → fault standing o ≡ 0 → Readable o × Standing (standing_behind standing o)
unfolding fault_to standing_behind first_failed unless
answer_faultless (accepted (Set s)) h e =
    let all = accepted_settings s e in
    (of_settings (narrow_accepted s all), some_settings all.others.rows.most)
answer_faultless (accepted (Remap t)) h e = (of_remap (narrow_allowed t (refuse_passed (remap_allowed (sixteen_of t)) 13 0 e).0), h)
answer_faultless (accepted (Activate row hold)) h e = (activation_faultless row hold h e, h)
answer_faultless (accepted Refresh) h e = (of_refresh, h)
answer_faultless (accepted Blank) h e = (of_blank, h)
answer_faultless (refused k) h e = absurd (omega arith)

readable_behind : {standing : Option ℕ} (os : List (Outcome Record)) → Standing standing → first_fault standing os ≡ 0 → Readables os
readable_behind {standing = standing} [] h e = no_answer
readable_behind {standing = standing} (o ∷ os) h e =
    let first = first_fault_none standing o os e in
    let answer = answer_faultless o h first.0 in
    one_answer_more answer.0 (readable_behind {standing = standing_behind standing o} os answer.1 first.1)

pub faultless_readable : (os : List (Outcome Record)) → first_fault none os ≡ 0 → Readables os
faultless_readable os e = readable_behind os no_settings e

room_fault_none : (k needed room : ℕ) → room_fault k needed room ≡ 0 → (k ≡ 0) × (needed ≤ room)
unfolding room_fault first_failed unless refuse
room_fault_none zero needed room e = (refl, leb-true needed room (refuse_passed (leb needed room) 12 0 e).0)
room_fault_none (suc k) needed room e = absurd (omega arith)

pub writing_whole : (os : List (Outcome Record)) (text : List ℕ) → first_fault none os ≡ 0 → length (spelling os) ≤ length text
    → writing os text ≡ record { answer = accepted (length (spelling os)); text = written text 0 (spelling os) }
unfolding writing_to writing_fault_to room_fault writing_by first_failed unless refuse
writing_whole os text e h = rw (e, le-leb _ _ h)

pub writing_fits : (os : List (Outcome Record)) (text : List ℕ) → first_fault none os ≡ 0 → length (spelling os) ≤ length text
    → ((writing os text).answer ≡ accepted (length (spelling os))) × (take (length (spelling os)) (writing os text).text ≡ spelling os)
writing_fits os text e h = rw (writing_whole os text e h) (refl, take_written text (spelling os))

accepted_by : (k n : ℕ) (bytes text : List ℕ) → (writing_by k bytes text).answer ≡ accepted n → (k ≡ 0) × (n ≡ length bytes)
unfolding writing_by
accepted_by zero n bytes text e = (refl, cc)
accepted_by (suc k) n bytes text e = zero_one (cc)

pub writing_accepted : (os : List (Outcome Record)) (text : List ℕ) (n : ℕ) → (writing os text).answer ≡ accepted n
    → (first_fault none os ≡ 0) × (length (spelling os) ≤ length text) × (n ≡ length (spelling os))
unfolding writing_to writing_fault_to
writing_accepted os text n e =
    let passed = accepted_by _ n (spelling os) text e in
    let fits = room_fault_none (first_fault none os) (length (spelling os)) (length text) passed.0 in
    (fits.0, fits.1, passed.1)

-- blank answers have no fault and leave what stands
blank_faultless : (standing : Option ℕ) (o : Outcome Record) → is_blank o ≡ true → (fault standing o ≡ 0) × (standing_behind standing o ≡ standing)
unfolding is_blank fault_to standing_behind
blank_faultless standing (accepted (Set s)) h = clash (sym h)
blank_faultless standing (accepted (Remap t)) h = clash (sym h)
blank_faultless standing (accepted (Activate row hold)) h = clash (sym h)
blank_faultless standing (accepted Refresh) h = clash (sym h)
blank_faultless standing (accepted Blank) h = (refl, refl)
blank_faultless standing (refused k) h = clash (sym h)

pub first_fault_unblank : (standing : Option ℕ) (os : List (Outcome Record)) → first_fault standing (unblank os) ≡ first_fault standing os
unfolding first_fault_to unblank
first_fault_unblank standing [] = refl
first_fault_unblank standing (o ∷ os) =
    split (is_blank o)
    (λ b.
    let none = blank_faultless standing o b in
    rw (b, eq-eqb _ _ none.0, none.1) (first_fault_unblank standing os))
    (λ b. rw (b, first_fault_unblank (standing_behind standing o) os))

-- settings that are judged alike where N may be up to another most, there and here
fault_alike : (most : ℕ) (standing : Option ℕ) (o : Outcome Record) (os : List (Outcome Record)) → AllAlike most (o ∷ os) → fault_to most standing o ≡ fault standing o
unfolding fault_to
fault_alike most standing (accepted (Set s)) os all = ap first_failed (settings_alike most s (all s (Memᴰ.head refl)))
fault_alike most standing (accepted (Remap t)) os all = refl
fault_alike most standing (accepted (Activate row hold)) os all = refl
fault_alike most standing (accepted Refresh) os all = refl
fault_alike most standing (accepted Blank) os all = refl
fault_alike most standing (refused k) os all = refl

pub first_fault_alike : (most : ℕ) (standing : Option ℕ) (os : List (Outcome Record)) → AllAlike most os → first_fault_to most standing os ≡ first_fault standing os
unfolding first_fault_to
first_fault_alike most standing [] all = refl
first_fault_alike most standing (o ∷ os) all =
    rw (fault_alike most standing o os all, first_fault_alike most (standing_behind standing o) os (λ s m. all s (Memᴰ.tail m)))

pub before_fault_alike : (most : ℕ) (standing : Option ℕ) (os : List (Outcome Record)) → AllAlike most os → before_fault_to most standing os ≡ before_fault standing os
unfolding before_fault_to
before_fault_alike most standing [] all = refl
before_fault_alike most standing (o ∷ os) all =
    rw (fault_alike most standing o os all, before_fault_alike most (standing_behind standing o) os (λ s m. all s (Memᴰ.tail m)))

pub writing_alike : (most : ℕ) (os : List (Outcome Record)) (text : List ℕ) → AllAlike most os → writing_to most os text ≡ writing os text
unfolding writing_to writing_fault_to
writing_alike most os text all = rw (first_fault_alike most none os all)
