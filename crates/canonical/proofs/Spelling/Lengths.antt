-- How long spellings are: that of each kind of record, and never longer than the line that was read.
use mathlib.Core.Path.{◌≡◌, refl, sym, subst}
use mathlib.Core.Bool.{true, cond}
use mathlib.Core.List.{List, [], ◌∷◌}
use mathlib.Core.Option.{none, some, bind-eq-some_iff}
use Prim.Native.Nat.{ℕ, suc, ◌+◌, ◌*◌, ◌≤◌}
use native.Mathlib.Omega.{arith}
use lib.Dec.{eqb}
use lib.ListN.{length, get_or, drop, length-append}
use Rattle.device.specs.declared.Settings.{Settings}
use Rattle.laws.proofs.Cases.{split, clash, missing, either, cond_some}
use Rattle.trace.specs.declared.Sixteen.{Sixteen}
use Rattle.trace.specs.declared.Record.{Record}
use Rattle.trace.specs.declared.Record.TheVariants.{Set, Remap, Activate, Refresh}
use Rattle.trace.specs.Bytes.{letter_A, letter_F, letter_H, letter_R, letter_S}
use Rattle.trace.specs.Lines.{line, ended, extent}
use Rattle.columns.specs.Numbers.{field}
use Rattle.trace.specs.Reading.{or_refused, reading, reading_by}
use Rattle.trace.specs.Records.{as_settings, as_sixteen, as_activation, sixteen_of, numbered, settings, remap, activation, held_activation, refresh, record_of}
use Rattle.columns.specs.Output.{number_columns}
use Rattle.canonical.specs.Spelling.{settings_numbers, spelled_line, activation_spelling, record_spelling, answer_spelling}
use Rattle.columns.proofs.Output.{length_number_columns}
use Rattle.trace.proofs.Records.{numbers_of, numbered_form, activation_form, by_letter}

pub length_settings_line : (s : Settings) → length (spelled_line letter_S (settings_numbers s)) ≡ 44
unfolding spelled_line settings_numbers
length_settings_line s = rw length-append (omega (arith, length_number_columns (settings_numbers s)))

pub length_remap_line : (t : Sixteen) → length (spelled_line letter_F (sixteen_of t)) ≡ 98
unfolding spelled_line sixteen_of
length_remap_line t = rw length-append (omega (arith, length_number_columns (sixteen_of t)))

length_one_unit_line : (row : ℕ) → length (spelled_line letter_A (row ∷ [])) ≡ 8
unfolding spelled_line
length_one_unit_line row = rw length-append (omega (arith, length_number_columns (row ∷ [])))

length_held_line : (row hold : ℕ) → length (spelled_line letter_H (row ∷ hold ∷ [])) ≡ 14
unfolding spelled_line
length_held_line row hold = rw length-append (omega (arith, length_number_columns (row ∷ hold ∷ [])))

pub length_activation_line : (row hold : ℕ) → length (activation_spelling row hold) ≡ cond (eqb hold 1) 8 14
unfolding activation_spelling
length_activation_line row hold =
    split (eqb hold 1) (λ one. rw one (length_one_unit_line row)) (λ more. rw more (length_held_line row hold))

length_activation_le : (row hold : ℕ) → length (activation_spelling row hold) ≤ 14
length_activation_le row hold =
    split (eqb hold 1)
    (λ one. omega (arith, rw one at (length_activation_line row hold)))
    (λ more. omega (arith, rw more at (length_activation_line row hold)))

pub length_event_line : length (spelled_line letter_R []) ≡ 2
unfolding spelled_line number_columns
length_event_line = refl

abbrev NoLonger : List ℕ → Record → Type 0
NoLonger bytes r = length (record_spelling r) ≤ suc (suc (length bytes))

-- each kind of record behind its letter, and byte 10
numbered_no_longer : (count : ℕ) (says : List ℕ → Record) → ((numbers : List ℕ) → length (record_spelling (says numbers)) ≤ 6 * count + 2)
    → (bytes : List ℕ) (r : Record) → numbered count says bytes ≡ some r → NoLonger bytes r
numbered_no_longer count says long bytes r e =
    let numbers = numbers_of count says bytes r e in
    subst (NoLonger bytes) numbers.2 (omega (arith, (numbered_form count says).same_length bytes r e, long numbers.0))

settings_no_longer : (bytes : List ℕ) (r : Record) → settings bytes ≡ some r → NoLonger bytes r
unfolding settings record_spelling
settings_no_longer = numbered_no_longer 7 (λ numbers. Set (as_settings numbers)) (λ numbers. omega (arith, length_settings_line (as_settings numbers)))

remap_no_longer : (bytes : List ℕ) (r : Record) → remap bytes ≡ some r → NoLonger bytes r
unfolding remap record_spelling
remap_no_longer = numbered_no_longer 16 (λ numbers. Remap (as_sixteen numbers)) (λ numbers. omega (arith, length_remap_line (as_sixteen numbers)))

activation_no_longer : (bytes : List ℕ) (r : Record) → activation bytes ≡ some r → NoLonger bytes r
unfolding activation record_spelling
activation_no_longer bytes r e =
    let row = (bind-eq-some_iff (field 0 bytes) _).0 (cond_some (eqb (length bytes) 6) _ r e) in
    let same : Activate row.0 1 ≡ r = cc in
    subst (NoLonger bytes) same (omega (arith, activation_form.same_length bytes r e, length_activation_line row.0 1))

held_activation_no_longer : (bytes : List ℕ) (r : Record) → held_activation bytes ≡ some r → NoLonger bytes r
unfolding held_activation as_activation record_spelling
held_activation_no_longer = numbered_no_longer 2 as_activation (λ numbers. length_activation_le (get_or numbers 0 0) (get_or numbers 1 0))

refresh_no_longer : (bytes : List ℕ) (r : Record) → refresh bytes ≡ some r → NoLonger bytes r
unfolding refresh record_spelling
refresh_no_longer [] r e =
    let same : Refresh ≡ r = cc in
    subst (NoLonger []) same (omega (arith, length_event_line))
refresh_no_longer (b ∷ bytes) r e = missing e

record_no_longer : (bytes : List ℕ) (r : Record) → record_of bytes ≡ some r → length (record_spelling r) ≤ suc (length bytes)
unfolding record_spelling
record_no_longer =
    by_letter (λ bytes r. length (record_spelling r) ≤ suc (length bytes)) (omega arith)
    (λ b. settings_no_longer)
    (λ b. activation_no_longer)
    (λ b. refresh_no_longer)
    (λ b. remap_no_longer)
    (λ b. held_activation_no_longer)

extent_line : (text : List ℕ) → ended text ≡ true → extent text ≡ suc (length (line text))
unfolding extent ended line
extent_line [] h = clash (sym h)
extent_line (b ∷ text) h =
    split (eqb b 10) (λ e. rw e) (λ e. rw e (omega (arith, extent_line text (rw e at h))))

answer_no_longer : (text : List ℕ) → length (answer_spelling (or_refused (cond (ended text) (record_of (line text)) none))) ≤ extent text
unfolding answer_spelling or_refused
answer_no_longer text =
    split (ended text)
    (λ e.
    either (record_of (line text))
    (λ z. rw (e, z) (omega arith))
    (λ r z. rw (e, z) (omega (arith, extent_line text e, record_no_longer (line text) r z))))
    (λ e. rw e (omega arith))

-- the spelling of a line that was read fits where the line stood
pub spelling_no_longer : (text : List ℕ) (at : ℕ) → at + length (answer_spelling (reading text at).outcome) ≤ (reading text at).place
unfolding reading reading_by
spelling_no_longer text at = omega (arith, answer_no_longer (drop at text))
