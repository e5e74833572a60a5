-- Spelled lines: the reader gives their records, whatever text follows.
use mathlib.Core.Path.{◌≡◌, refl, ◌∙◌}
use mathlib.Core.Bool.{false}
use mathlib.Core.List.{List, [], ◌∷◌, ◌++◌, append_assoc, append-nil}
use mathlib.Core.Option.{some, bind}
use Prim.Native.Nat.{ℕ, ◌<◌}
use native.Mathlib.Omega.{arith}
use borrow.Author.Tests.{eqb-true, eq-eqb}
use lib.Dec.{eqb}
use lib.ListN.{length, length-append}
use lib.Seq.{drop-append-add}
use Rattle.device.specs.declared.Settings.{Settings}
use Rattle.device.specs.Refusal.{accepted}
use Rattle.laws.proofs.Cases.{split}
use Rattle.trace.specs.declared.Sixteen.{Sixteen}
use Rattle.trace.specs.declared.Record.{Record}
use Rattle.trace.specs.declared.Record.TheVariants.{Set, Remap, Activate, Refresh}
use Rattle.trace.specs.Bytes.{letter_A, letter_F, letter_H, letter_R, letter_S}
use Rattle.trace.specs.Lines.{ended}
use Rattle.columns.specs.Numbers.{fields}
use Rattle.trace.specs.Reading.{or_refused, reading, reading_by}
use Rattle.trace.specs.Records.{as_settings, as_sixteen, as_activation, sixteen_of, numbered, settings, remap, activation, held_activation, refresh, record_of}
use Rattle.columns.specs.Output.{number_columns}
use Rattle.canonical.specs.Spelling.{settings_numbers, spelled_line, activation_spelling, record_spelling}
use Rattle.trace.specs.Texts.{read, outcomes}
use Rattle.trace.proofs.Lines.{line_append_end, ended_append_end, extent_append_end}
use Rattle.columns.proofs.Output.{length_number_columns}
use Rattle.trace.proofs.Records.{settings_form, remap_form, activation_form, held_activation_form}
use Rattle.columns.proofs.Numbers.ReadBack.{Narrow, no_number, one_more, field_printed, fields_columns}
use Rattle.trace.proofs.Texts.FirstLine.{outcomes_front}

-- bytes without byte 10 that say a record, then byte 10
outcomes_record : (bytes rest : List ℕ) (r : Record) → record_of bytes ≡ some r → ended bytes ≡ false
    → outcomes (bytes ++ (10 ∷ rest)) ≡ accepted r ∷ outcomes rest
unfolding read reading reading_by or_refused
outcomes_record bytes rest r e h =
    let some_byte : 0 < length (bytes ++ (10 ∷ rest)) = rw length-append (omega arith) in
    outcomes_front (bytes ++ (10 ∷ rest)) some_byte ∙
    rw (ended_append_end rest bytes, line_append_end rest bytes h, e, extent_append_end rest bytes h, drop-append-add)

-- a letter and the columns behind it
outcomes_letter : (letter : ℕ) (ns rest : List ℕ) (r : Record) → record_of (letter ∷ number_columns ns) ≡ some r → ended (letter ∷ number_columns ns) ≡ false
    → outcomes (spelled_line letter ns ++ rest) ≡ accepted r ∷ outcomes rest
unfolding spelled_line
outcomes_letter letter ns rest r e h = rw (append_assoc (number_columns ns) (10 ∷ []) rest) (outcomes_record (letter ∷ number_columns ns) rest r e h)

numbered_spelled : (says : List ℕ → Record) {numbers : List ℕ} → Narrow numbers → numbered (length numbers) says (number_columns numbers) ≡ some (says numbers)
unfolding numbered bind
numbered_spelled says {numbers} h =
    let whole : fields (length numbers) (number_columns numbers) ≡ some numbers = rw append-nil at (fields_columns h []) in
    rw (eq-eqb _ _ (length_number_columns numbers), whole)

settings_spelled : (s : Settings) → Narrow (settings_numbers s) → settings (number_columns (settings_numbers s)) ≡ some (Set s)
unfolding settings as_settings settings_numbers
settings_spelled s h = numbered_spelled (λ numbers. Set (as_settings numbers)) h

remap_spelled : (t : Sixteen) → Narrow (sixteen_of t) → remap (number_columns (sixteen_of t)) ≡ some (Remap t)
unfolding remap as_sixteen sixteen_of
remap_spelled t h = numbered_spelled (λ numbers. Remap (as_sixteen numbers)) h

activation_spelled : (row : ℕ) → row < 1000000 → activation (number_columns (row ∷ [])) ≡ some (Activate row 1)
unfolding activation bind number_columns
activation_spelled row h = rw (eq-eqb _ _ (length_number_columns (row ∷ [])), field_printed row [] h)

held_activation_spelled : (row hold : ℕ) → row < 1000000 → hold < 1000000 → held_activation (number_columns (row ∷ hold ∷ [])) ≡ some (Activate row hold)
unfolding held_activation as_activation
held_activation_spelled row hold h k = numbered_spelled as_activation (one_more h (one_more k no_number))

pub outcomes_settings : (s : Settings) (rest : List ℕ) → Narrow (settings_numbers s) → outcomes (record_spelling (Set s) ++ rest) ≡ accepted (Set s) ∷ outcomes rest
unfolding record_spelling record_of ended
outcomes_settings s rest h =
    let says = settings_spelled s h in
    outcomes_letter letter_S (settings_numbers s) rest (Set s) says (settings_form.unended (number_columns (settings_numbers s)) (Set s) says)

pub outcomes_remap : (t : Sixteen) (rest : List ℕ) → Narrow (sixteen_of t) → outcomes (record_spelling (Remap t) ++ rest) ≡ accepted (Remap t) ∷ outcomes rest
unfolding record_spelling record_of ended
outcomes_remap t rest h =
    let says = remap_spelled t h in
    outcomes_letter letter_F (sixteen_of t) rest (Remap t) says (remap_form.unended (number_columns (sixteen_of t)) (Remap t) says)

outcomes_one_unit : (row : ℕ) (rest : List ℕ) → row < 1000000 → outcomes (spelled_line letter_A (row ∷ []) ++ rest) ≡ accepted (Activate row 1) ∷ outcomes rest
unfolding record_of ended
outcomes_one_unit row rest h =
    let says = activation_spelled row h in
    outcomes_letter letter_A (row ∷ []) rest (Activate row 1) says (activation_form.unended (number_columns (row ∷ [])) (Activate row 1) says)

outcomes_held : (row hold : ℕ) (rest : List ℕ) → row < 1000000 → hold < 1000000 → outcomes (spelled_line letter_H (row ∷ hold ∷ []) ++ rest) ≡ accepted (Activate row hold) ∷ outcomes rest
unfolding record_of ended
outcomes_held row hold rest h k =
    let says = held_activation_spelled row hold h k in
    outcomes_letter letter_H (row ∷ hold ∷ []) rest (Activate row hold) says (held_activation_form.unended (number_columns (row ∷ hold ∷ [])) (Activate row hold) says)

pub outcomes_activation : (row hold : ℕ) (rest : List ℕ) → row < 1000000 → hold < 1000000 → outcomes (record_spelling (Activate row hold) ++ rest) ≡ accepted (Activate row hold) ∷ outcomes rest
unfolding record_spelling activation_spelling
outcomes_activation row hold rest h k =
    split (eqb hold 1)
    (λ one. rw (one, eqb-true hold 1 one) (outcomes_one_unit row rest h))
    (λ more. rw more (outcomes_held row hold rest h k))

pub outcomes_refresh : (rest : List ℕ) → outcomes (record_spelling Refresh ++ rest) ≡ accepted Refresh ∷ outcomes rest
unfolding record_spelling record_of ended refresh number_columns
outcomes_refresh rest = outcomes_letter letter_R [] rest Refresh refl refl
