-- Records behind their letters: each has one width and no byte 10, what the first bytes of a text say, records by their letter, and the widest line.
use mathlib.Core.Path.{◌≡◌, refl, ap, subst}
use mathlib.Core.Bool.{false}
use mathlib.Core.List.{List, [], ◌∷◌}
use mathlib.Core.Option.{some, Option, bind, bind-eq-some_iff}
use Prim.Native.Nat.{ℕ, zero, suc, ◌+◌, ◌*◌, ◌≤◌}
use native.Mathlib.Omega.{arith}
use borrow.Author.Tests.{eqb-true, eq-eqb}
use lib.Dec.{eqb}
use lib.ListN.{length, get_or, take}
use lib.Seq.{length-take-le, get_or-take}
use Rattle.laws.proofs.Cases.{split, missing, cond_test, cond_some}
use Rattle.trace.specs.declared.Record.{Record}
use Rattle.trace.specs.declared.Record.TheVariants.{Set, Remap, Activate, Blank}
use Rattle.trace.specs.Bytes.{letter_A, letter_F, letter_H, letter_R, letter_S}
use Rattle.trace.specs.Lines.{ended}
use Rattle.columns.specs.Numbers.{field, fields}
use Rattle.trace.specs.Records.{as_settings, as_sixteen, as_activation, numbered, settings, remap, activation, held_activation, refresh, record_of}
use Rattle.trace.proofs.Lines.{ended_drop_length}
use Rattle.columns.proofs.Numbers.Fields.{field_take, fields_take}
use Rattle.trace.proofs.Unended.{ended_field, ended_fields}

-- every record of this form has so many bytes, none of them byte 10
pub record Form (says : List ℕ → Option Record) (width : ℕ) : Type 0 where
  pub same_length : (bytes : List ℕ) (r : Record) → says bytes ≡ some r → length bytes ≡ width
  pub unended : (bytes : List ℕ) (r : Record) → says bytes ≡ some r → ended bytes ≡ false

length_refresh : (bytes : List ℕ) (r : Record) → refresh bytes ≡ some r → length bytes ≡ 0
unfolding refresh
length_refresh [] r h = refl
length_refresh (b ∷ bytes) r h = missing h

ended_refresh : (bytes : List ℕ) (r : Record) → refresh bytes ≡ some r → ended bytes ≡ false
unfolding refresh ended
ended_refresh [] r h = refl
ended_refresh (b ∷ bytes) r h = missing h

pub refresh_form : Form refresh 0
refresh_form = record { same_length = length_refresh; unended = ended_refresh }

length_activation : (bytes : List ℕ) (r : Record) → activation bytes ≡ some r → length bytes ≡ 6
unfolding activation
length_activation bytes r h = eqb-true (length bytes) 6 (cond_test (eqb (length bytes) 6) _ r h)

ended_activation : (bytes : List ℕ) (r : Record) → activation bytes ≡ some r → ended bytes ≡ false
unfolding activation
ended_activation bytes r h =
    let row = (bind-eq-some_iff (field 0 bytes) _).0 (cond_some (eqb (length bytes) 6) _ r h) in
    ended_field 0 row.0 bytes row.1 (ended_drop_length 6 bytes (length_activation bytes r h))

pub activation_form : Form activation 6
activation_form = record { same_length = length_activation; unended = ended_activation }

module _ (count : ℕ) (says : List ℕ → Record) where
  length_numbered : (bytes : List ℕ) (r : Record) → numbered count says bytes ≡ some r → length bytes ≡ 6 * count
  unfolding numbered
  length_numbered bytes r h = eqb-true (length bytes) (6 * count) (cond_test (eqb (length bytes) (6 * count)) _ r h)

  -- the numbers of such a record
  pub numbers_of : (bytes : List ℕ) (r : Record) → numbered count says bytes ≡ some r → (numbers : List ℕ) × (fields count bytes ≡ some numbers) × (says numbers ≡ r)
  unfolding numbered
  numbers_of bytes r h =
      let found = (bind-eq-some_iff (fields count bytes) _).0 (cond_some (eqb (length bytes) (6 * count)) _ r h) in
      (found.0, found.1, cc)

  ended_numbered : (bytes : List ℕ) (r : Record) → numbered count says bytes ≡ some r → ended bytes ≡ false
  ended_numbered bytes r h =
      let numbers = numbers_of bytes r h in
      ended_fields count bytes numbers.0 (length_numbered bytes r h) numbers.1

  pub numbered_form : Form (numbered count says) (6 * count)
  numbered_form = record { same_length = length_numbered; unended = ended_numbered }

pub settings_form : Form settings 42
unfolding settings
settings_form = numbered_form 7 (λ numbers. Set (as_settings numbers))

pub remap_form : Form remap 96
unfolding remap
remap_form = numbered_form 16 (λ numbers. Remap (as_sixteen numbers))

pub held_activation_form : Form held_activation 12
unfolding held_activation
held_activation_form = numbered_form 2 as_activation

-- what the first bytes of a text say
pub activation_take : (text : List ℕ) → 6 ≤ length text → activation (take 6 text) ≡ bind (field 0 text) λ row. some (Activate row 1)
unfolding activation
activation_take text h = rw (eq-eqb _ _ (length-take-le 6 text h), field_take 0 6 text (omega arith))

pub numbered_take : (count : ℕ) (says : List ℕ → Record) (text : List ℕ) → 6 * count ≤ length text → numbered count says (take (6 * count) text) ≡ bind (fields count text) λ ns. some (says ns)
unfolding numbered
numbered_take count says text h = rw (eq-eqb _ _ (length-take-le (6 * count) text h), fields_take count text)

-- so many numbers of a list from a place on
unfoldable pub places : ℕ → ℕ → List ℕ → List ℕ
places zero i ns = []
places (suc k) i ns = get_or ns i 0 ∷ places k (suc i) ns

places_take : (w k i : ℕ) (ns : List ℕ) → i + k ≤ w → places k i (take w ns) ≡ places k i ns
unfolding places
places_take w zero i ns h = refl
places_take w (suc k) i ns h = rw (get_or-take w ns i 0 (omega arith), places_take w k (suc i) ns (omega arith))

-- settings made of an array are those of its first seven numbers, and a remap's numbers its first sixteen
pub as_settings_take : (values : List ℕ) → as_settings (take 7 values) ≡ as_settings values
unfolding as_settings places
as_settings_take values = ap as_settings (places_take 7 7 0 values (omega arith))

pub as_sixteen_take : (values : List ℕ) → as_sixteen (take 16 values) ≡ as_sixteen values
unfolding as_sixteen places
as_sixteen_take values = ap as_sixteen (places_take 16 16 0 values (omega arith))

-- what holds of a blank line, and of each form's records behind a letter, holds of every record that bytes say
pub by_letter : (P : List ℕ → Record → Type 0) → P [] Blank
    → ((b : ℕ) (bytes : List ℕ) (r : Record) → settings bytes ≡ some r → P (b ∷ bytes) r)
    → ((b : ℕ) (bytes : List ℕ) (r : Record) → activation bytes ≡ some r → P (b ∷ bytes) r)
    → ((b : ℕ) (bytes : List ℕ) (r : Record) → refresh bytes ≡ some r → P (b ∷ bytes) r)
    → ((b : ℕ) (bytes : List ℕ) (r : Record) → remap bytes ≡ some r → P (b ∷ bytes) r)
    → ((b : ℕ) (bytes : List ℕ) (r : Record) → held_activation bytes ≡ some r → P (b ∷ bytes) r)
    → (bytes : List ℕ) (r : Record) → record_of bytes ≡ some r → P bytes r
unfolding record_of
by_letter P blank sets ones events remaps holds [] r e =
    let same : Blank ≡ r = cc in
    subst (P []) same blank
by_letter P blank sets ones events remaps holds (b ∷ bytes) r e =
    split (eqb b letter_S)
    (λ s. sets b bytes r (rw s at e))
    (λ s.
    split (eqb b letter_A)
    (λ a. ones b bytes r (rw (s, a) at e))
    (λ a.
    split (eqb b letter_R)
    (λ f. events b bytes r (rw (s, a, f) at e))
    (λ f.
    split (eqb b letter_F)
    (λ m. remaps b bytes r (rw (s, a, f, m) at e))
    (λ m.
    split (eqb b letter_H)
    (λ o. holds b bytes r (rw (s, a, f, m, o) at e))
    (λ o. missing (rw (s, a, f, m, o) at e))))))

length_letter_le : {says : List ℕ → Option Record} {w : ℕ} → Form says w → w ≤ 96
    → (b : ℕ) (bytes : List ℕ) (r : Record) → says bytes ≡ some r → length (b ∷ bytes) ≤ 97
length_letter_le form h b bytes r e = omega (arith, form.same_length bytes r e)

-- the widest record has 97 bytes before its byte 10
pub length_record_le : (bytes : List ℕ) (r : Record) → record_of bytes ≡ some r → length bytes ≤ 97
length_record_le =
    by_letter (λ bytes r. length bytes ≤ 97) (omega arith)
    (length_letter_le settings_form (omega arith))
    (length_letter_le activation_form (omega arith))
    (length_letter_le refresh_form (omega arith))
    (length_letter_le remap_form (omega arith))
    (length_letter_le held_activation_form (omega arith))
