-- What the first pass has found behind the first answers, and what it comes to.
use mathlib.Core.Path.{◌≡◌, refl, sym, ◌∙◌}
use mathlib.Core.Bool.{not}
use mathlib.Core.List.{List, ◌∷◌}
use mathlib.Core.Option.{Option, none}
use Prim.Native.Nat.{ℕ, zero, suc, ◌+◌, ◌≤◌, ◌<◌, min}
use native.Mathlib.Numerals.{add-one}
use native.Mathlib.Omega.{arith}
use borrow.Author.Tests.{leb-true, leb-false, le-leb, lt-leb, ne_eqb}
use lib.Dec.{leb}
use lib.ListN.{length, get_or, drop, length-append}
use Rattle.std.specs.Prelude.{Option as Maybe, None}
use Rattle.std.proofs.Math.Seq.{drop-cons}
use Rattle.std.proofs.lemmas.List.{drop_all}
use Rattle.laws.proofs.Cases.{split}
use Rattle.device.specs.declared.refusal.Refusal.{Refusal}
use Rattle.device.specs.Acceptance.{most_rows}
use Rattle.device.specs.Refusal.{Outcome, accepted, refused, number, unless, refuse, first_failed}
use Rattle.device.proofs.Tests.{number_not_0, refuse_passed}
use Rattle.trace.specs.declared.Record.{Record}
use Rattle.trace.specs.declared.Read.{Read}
use Rattle.trace.specs.Reading.{said}
use Rattle.columns.specs.Numbers.{written}
use Rattle.canonical.specs.Spelling.{answer_spelling, spelling}
use Rattle.canonical.specs.Writing.{fault, standing_behind, first_fault_to, first_fault, room_fault, writing_fault_to, writing_by, writing_to, writing}
use Rattle.spelling.specs.Answers.{standing_of, stood}
use Rattle.spelling.proofs.StandingLaws.{standing_stood}
use Rattle.writer.specs.Answers.{outcome_of, outcomes_of}

-- the bytes of an answer's spelling, and those of the answers behind the first k, of whose sum the code keeps what a 64-bit number holds
abbrev width : Read → ℕ
width y = length (answer_spelling (said y).outcome)

abbrev width_behind : ℕ → List Read → ℕ
width_behind k ys = length (spelling (outcomes_of (drop k ys)))

abbrev kept : ℕ → ℕ
kept n = min n 18446744073709551615

-- none of the first k answers is faulty: the first faulty one is the first of the others', and their bytes are added up
pub record Surveyed (ys : List Read) (k : ℕ) (rows : Maybe ℕ) (bytes : ℕ) : Type 0 where
  pub faults : first_fault (standing_of rows) (outcomes_of (drop k ys)) ≡ first_fault none (outcomes_of ys)
  pub sums : kept (bytes + width_behind k ys) ≡ kept (width_behind 0 ys)

pub surveyed_none : (ys : List Read) → Surveyed ys 0 None 0
unfolding standing_of
surveyed_none ys = record { faults = refl; sums = omega arith }

-- the first of a list of answers is faulty, or it is not
first_here : (standing : Option ℕ) (o : Outcome Record) (os : List (Outcome Record)) (r : Refusal) → number r ≡ fault standing o → number r ≡ first_fault standing (o ∷ os)
unfolding first_fault_to
first_here standing o os r e = rw (← e, ne_eqb (number r) 0 (number_not_0 r))

first_behind : (standing : Option ℕ) (o : Outcome Record) (os : List (Outcome Record)) → 0 ≡ fault standing o → first_fault standing (o ∷ os) ≡ first_fault (standing_behind standing o) os
unfolding first_fault_to
first_behind standing o os e = rw (← e)

-- the answers behind the first k, by the first of them
outcomes_behind : (ys : List Read) (k : ℕ) (d : Read) → k < length ys → outcomes_of (drop k ys) ≡ ((said (get_or ys k d)).outcome ∷ outcomes_of (drop (k + 1) ys))
unfolding outcomes_of outcome_of
outcomes_behind ys k d h = rw (add-one, drop-cons ys k d)

pub surveyed_next : {ys : List Read} {k : ℕ} {rows rows' : Maybe ℕ} {bytes bytes' more : ℕ} (d : Read) → Surveyed ys k rows bytes → k < length ys
    → 0 ≡ fault (standing_of rows) (said (get_or ys k d)).outcome → rows' ≡ stood rows (said (get_or ys k d)).outcome
    → more ≡ width (get_or ys k d) → bytes' ≡ kept (bytes + more) → Surveyed ys (k + 1) rows' bytes'
unfolding spelling
surveyed_next {ys} {k} {rows} {rows'} {bytes} {bytes'} d s h f b m w =
    let o = (said (get_or ys k d)).outcome in
    let behind = outcomes_of (drop (k + 1) ys) in
    let all : width_behind k ys ≡ length (answer_spelling o) + length (spelling behind) = rw (outcomes_behind ys k d h) (length-append (answer_spelling o) (spelling behind)) in
    record {
      faults = rw (b, standing_stood rows o) (sym (first_behind (standing_of rows) o behind f)) ∙ rw (outcomes_behind ys k d h) at s.faults;
      sums = omega (arith, m, w, all, s.sums);
    }

-- what the tests of all answers come to: at a faulty one, and behind the last
room_fault_first : (k n room : ℕ) → (k ≡ 0 → ⊥) → k ≡ room_fault k n room
unfolding room_fault
room_fault_first zero n room h = absurd (h refl)
room_fault_first (suc k) n room h = refl

pub surveyed_fault : {ys : List Read} {k : ℕ} {rows : Maybe ℕ} {bytes : ℕ} (d : Read) (r : Refusal) (room : ℕ) → Surveyed ys k rows bytes → k < length ys
    → number r ≡ fault (standing_of rows) (said (get_or ys k d)).outcome → number r ≡ writing_fault_to most_rows (outcomes_of ys) room
unfolding writing_fault_to
surveyed_fault {ys} {k} {rows} d r room s h f =
    let here = first_here (standing_of rows) _ (outcomes_of (drop (k + 1) ys)) r f in
    let first : number r ≡ first_fault none (outcomes_of ys) = here ∙ rw (outcomes_behind ys k d h) at s.faults in
    rw (← first) (room_fault_first (number r) _ room (number_not_0 r))

leb_same : (a b room : ℕ) → room < 18446744073709551615 → kept a ≡ kept b → leb a room ≡ leb b room
leb_same a b room h e =
    split (leb b room)
    (λ t. let within = leb-true b room t in rw t (le-leb a room (omega arith)))
    (λ t. let above = leb-false b room t in rw t (lt-leb a room (omega arith)))

pub surveyed_all : {ys : List Read} {k : ℕ} {rows : Maybe ℕ} {bytes : ℕ} {room : ℕ} → Surveyed ys k rows bytes → length ys ≤ k → room < 18446744073709551615
    → refuse (not (leb bytes room)) 13 0 ≡ writing_fault_to most_rows (outcomes_of ys) room
unfolding writing_fault_to first_fault_to spelling outcomes_of room_fault first_failed unless
surveyed_all {ys} {k} {bytes = bytes} {room} s h few =
    let none_left = drop_all k ys h in
    let faultless = rw none_left at s.faults in
    let sums = rw none_left at s.sums in
    rw (← faultless, leb_same bytes (width_behind 0 ys) room few (omega (arith, sums)))

-- what is written and answered, by what the tests came to
fits_by : (k n room : ℕ) → 0 ≡ room_fault k n room → n ≤ room
unfolding room_fault first_failed unless
fits_by zero n room e = leb-true n room (refuse_passed (leb n room) 12 0 (sym e)).0
fits_by (suc k) n room e = absurd (omega arith)

pub fits : (os : List (Outcome Record)) (room : ℕ) → 0 ≡ writing_fault_to most_rows os room → length (spelling os) ≤ room
unfolding writing_fault_to
fits os room e = fits_by (first_fault none os) _ room e

refused_by : (k : ℕ) (bytes text : List ℕ) → (k ≡ 0 → ⊥) → record { answer = refused k; text = text } ≡ writing_by k bytes text
unfolding writing_by
refused_by zero bytes text h = absurd (h refl)
refused_by (suc k) bytes text h = refl

pub writing_refused : (os : List (Outcome Record)) (text : List ℕ) (r : Refusal) → number r ≡ writing_fault_to most_rows os (length text)
    → record { answer = refused (number r); text = text } ≡ writing os text
unfolding writing_to
writing_refused os text r e = rw (← e) (refused_by (number r) (spelling os) text (number_not_0 r))

pub writing_done : (os : List (Outcome Record)) (text : List ℕ) → 0 ≡ writing_fault_to most_rows os (length text)
    → record { answer = accepted (length (spelling os)); text = written text 0 (spelling os) } ≡ writing os text
unfolding writing_to writing_by
writing_done os text e = rw (← e)
