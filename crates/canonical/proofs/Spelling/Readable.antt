-- What a reader can give, refused lines aside: records whose numbers have at most 6 digits.
use mathlib.Core.Path.{◌≡◌, refl, sym, subst}
use mathlib.Core.Bool.{true}
use mathlib.Core.List.{List, [], ◌∷◌, map}
use mathlib.Core.Option.{some, Option, none, bind-eq-some_iff}
use Prim.Native.Nat.{ℕ, zero, suc, ◌+◌, ◌-◌, ◌*◌, ◌≤◌, ◌<◌}
use native.Mathlib.Omega.{arith}
use borrow.Author.Tests.{leb-true}
use lib.Dec.{eqb, leb}
use lib.ListN.{length, get_or, take, drop, length-take}
use Rattle.device.specs.declared.Settings.{Settings}
use Rattle.device.specs.Refusal.{Outcome, accepted}
use Rattle.laws.proofs.Cases.{split, clash, missing, and_both, cond_test, cond_some}
use Rattle.trace.specs.declared.Sixteen.{Sixteen}
use Rattle.trace.specs.declared.Record.{Record}
use Rattle.trace.specs.declared.Record.TheVariants.{Set, Remap, Activate, Refresh, Blank}
use Rattle.trace.specs.Lines.{line, ended}
use Rattle.columns.specs.Numbers.{is_digit, digits, number, field, fields}
use Rattle.trace.specs.Reading.{or_refused, reading, reading_by}
use Rattle.trace.specs.Records.{as_settings, as_sixteen, as_activation, sixteen_of, numbered, settings, remap, activation, held_activation, refresh, record_of}
use Rattle.canonical.specs.Spelling.{settings_numbers, unrefused}
use Rattle.trace.specs.Texts.{lines, read, outcomes}
use Rattle.columns.proofs.Numbers.Digits.{Room, room_zero, room_digit, room_lt}
use Rattle.trace.proofs.Records.{numbers_of, places, by_letter}
use Rattle.columns.proofs.Numbers.ReadBack.{Narrow, no_number, one_more}

is_digit_le : (b : ℕ) → is_digit b ≡ true → b - 48 ≤ 9
unfolding is_digit
is_digit_le b e = omega (arith, leb-true b 57 (and_both (leb 48 b) (leb b 57) e).1)

digits_lt : (m n : ℕ) (bytes : List ℕ) → Room n (length bytes) → digits n bytes ≡ some m → m < 1000000
unfolding digits
digits_lt m n [] room e =
    let same : n ≡ m = cc in
    rw same at (room_lt n 0 room)
digits_lt m n (b ∷ bytes) room e =
    let rest = digits (n * 10 + (b - 48)) bytes in
    let more = room_digit n (b - 48) (length bytes) room (is_digit_le b (cond_test (is_digit b) rest m e)) in
    digits_lt m (n * 10 + (b - 48)) bytes more (cond_some (is_digit b) rest m e)

number_lt : (m : ℕ) (bytes : List ℕ) → length bytes ≤ 6 → number bytes ≡ some m → m < 1000000
unfolding number
number_lt m [] h e = missing e
number_lt m (b ∷ bytes) h e =
    split (eqb b 32)
    (λ q. number_lt m bytes (omega arith) (rw q at e))
    (λ q. digits_lt m 0 (b ∷ bytes) (room_zero (suc (length bytes)) h) (rw q at e))

field_lt : (m : ℕ) (bytes : List ℕ) → field 0 bytes ≡ some m → m < 1000000
unfolding field
field_lt m bytes e = number_lt m (take 6 bytes) (rw length-take (omega arith)) e

fields_narrow : (k : ℕ) (bytes ns : List ℕ) → fields k bytes ≡ some ns → Narrow ns
unfolding fields
fields_narrow zero bytes ns e =
    let same : [] ≡ ns = cc in
    rw same at no_number
fields_narrow (suc k) bytes ns e =
    let first = (bind-eq-some_iff (field 0 bytes) _).0 e in
    let others = (bind-eq-some_iff (fields k (drop 6 bytes)) _).0 first.2 in
    let same : first.0 ∷ others.0 ≡ ns = cc in
    subst Narrow same (one_more (field_lt first.0 bytes first.1) (fields_narrow k (drop 6 bytes) others.0 others.1))

narrow_at : {ns : List ℕ} → Narrow ns → (i : ℕ) → get_or ns i 0 < 1000000
narrow_at no_number i = omega arith
narrow_at (one_more h narrow) zero = h
narrow_at (one_more h narrow) (suc i) = narrow_at narrow i

narrow_places : {ns : List ℕ} → Narrow ns → (k i : ℕ) → Narrow (places k i ns)
unfolding places
narrow_places h zero i = no_number
narrow_places h (suc k) i = one_more (narrow_at h i) (narrow_places h k (suc i))

narrow_settings : {ns : List ℕ} → Narrow ns → Narrow (settings_numbers (as_settings ns))
unfolding settings_numbers as_settings places
narrow_settings h = narrow_places h 7 0

narrow_sixteen : {ns : List ℕ} → Narrow ns → Narrow (sixteen_of (as_sixteen ns))
unfolding sixteen_of as_sixteen places
narrow_sixteen h = narrow_places h 16 0

-- an answer with a record whose numbers 6 columns hold
pub data Readable : Outcome Record → Type 0 where
  of_settings : {s : Settings} → Narrow (settings_numbers s) → Readable (accepted (Set s))
  of_remap : {t : Sixteen} → Narrow (sixteen_of t) → Readable (accepted (Remap t))
  of_activation : {row hold : ℕ} → row < 1000000 → hold < 1000000 → Readable (accepted (Activate row hold))
  of_refresh : Readable (accepted Refresh)
  of_blank : Readable (accepted Blank)

pub data Readables : List (Outcome Record) → Type 0 where
  no_answer : Readables []
  one_answer_more : {o : Outcome Record} {os : List (Outcome Record)} → Readable o → Readables os → Readables (o ∷ os)

numbered_readable : (count : ℕ) (says : List ℕ → Record) → ((numbers : List ℕ) → Narrow numbers → Readable (accepted (says numbers)))
    → (bytes : List ℕ) (r : Record) → numbered count says bytes ≡ some r → Readable (accepted r)
numbered_readable count says readable bytes r e =
    let numbers = numbers_of count says bytes r e in
    subst (λ (r : Record). Readable (accepted r)) numbers.2 (readable numbers.0 (fields_narrow count bytes numbers.0 numbers.1))

settings_readable : (bytes : List ℕ) (r : Record) → settings bytes ≡ some r → Readable (accepted r)
unfolding settings
settings_readable = numbered_readable 7 (λ numbers. Set (as_settings numbers)) (λ numbers h. of_settings (narrow_settings h))

remap_readable : (bytes : List ℕ) (r : Record) → remap bytes ≡ some r → Readable (accepted r)
unfolding remap
remap_readable = numbered_readable 16 (λ numbers. Remap (as_sixteen numbers)) (λ numbers h. of_remap (narrow_sixteen h))

activation_readable : (bytes : List ℕ) (r : Record) → activation bytes ≡ some r → Readable (accepted r)
unfolding activation
activation_readable bytes r e =
    let row = (bind-eq-some_iff (field 0 bytes) _).0 (cond_some (eqb (length bytes) 6) _ r e) in
    let same : Activate row.0 1 ≡ r = cc in
    subst (λ (r : Record). Readable (accepted r)) same (of_activation (field_lt row.0 bytes row.1) (omega arith))

held_activation_readable : (bytes : List ℕ) (r : Record) → held_activation bytes ≡ some r → Readable (accepted r)
unfolding held_activation as_activation
held_activation_readable = numbered_readable 2 as_activation (λ numbers h. of_activation (narrow_at h 0) (narrow_at h 1))

refresh_readable : (bytes : List ℕ) (r : Record) → refresh bytes ≡ some r → Readable (accepted r)
unfolding refresh
refresh_readable [] r e =
    let same : Refresh ≡ r = cc in
    subst (λ (r : Record). Readable (accepted r)) same of_refresh
refresh_readable (b ∷ bytes) r e = missing e

record_readable : (bytes : List ℕ) (r : Record) → record_of bytes ≡ some r → Readable (accepted r)
record_readable =
    by_letter (λ bytes r. Readable (accepted r)) of_blank
    (λ b. settings_readable)
    (λ b. activation_readable)
    (λ b. refresh_readable)
    (λ b. remap_readable)
    (λ b. held_activation_readable)

answer_readable : (o : Option Record) (os : List (Outcome Record)) → ((r : Record) → o ≡ some r → Readable (accepted r))
    → unrefused (or_refused o ∷ os) ≡ true → Readable (or_refused o) × (unrefused os ≡ true)
unfolding or_refused unrefused
answer_readable none os h e = clash (sym e)
answer_readable (some r) os h e = (h r refl, e)

-- a line that is not refused
read_readable : (l : List ℕ) (os : List (Outcome Record)) → unrefused (read l ∷ os) ≡ true → Readable (read l) × (unrefused os ≡ true)
unfolding read reading reading_by
read_readable l os =
    answer_readable _ os (λ r e. record_readable (line l) r (cond_some (ended l) (record_of (line l)) r e))

lines_readable : (ls : List (List ℕ)) → unrefused (map read ls) ≡ true → Readables (map read ls)
lines_readable [] e = no_answer
lines_readable (l ∷ ls) e =
    let first = read_readable l (map read ls) e in
    one_answer_more first.0 (lines_readable ls first.1)

pub outcomes_readable : (text : List ℕ) → unrefused (outcomes text) ≡ true → Readables (outcomes text)
unfolding outcomes
outcomes_readable text = lines_readable (lines text)
