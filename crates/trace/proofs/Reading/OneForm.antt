-- The reading of a line whose records all have one width: the place of its byte 10 decides. And of lines of numbers, by what their fields hold.
use mathlib.Core.Path.{◌≡◌, refl, sym, ap, ◌∙◌}
use mathlib.Core.Bool.{true, false, cond}
use mathlib.Core.List.{List, ◌∷◌}
use mathlib.Core.Option.{none, some, Option, bind}
use Prim.Native.Nat.{ℕ, suc, ◌+◌, ◌*◌, ◌≤◌, ◌<◌}
use native.Mathlib.Omega.{arith}
use lib.ListN.{length, get_or, take, drop, length-append}
use lib.Seq.{length-take-le, get_or_at, take_at}
use Rattle.laws.proofs.Cases.{split, clash, missing, either, cond_test, cond_some}
use Rattle.device.specs.Refusal.{accepted, refused}
use Rattle.trace.specs.declared.Record.{Record}
use Rattle.trace.specs.declared.Record.TheVariants.{Activate, Refresh}
use Rattle.trace.specs.InnerContracts.{ends_after, line_fields}
use Rattle.columns.specs.Numbers.{field, fields}
use Rattle.trace.specs.Records.{numbered, activation, refresh}
use Rattle.trace.specs.Lines.{line, ended, extent}
use Rattle.trace.specs.Reading.{or_refused, reading_by}
use Rattle.trace.proofs.InnerContracts.{ends_after_within, ends_after_lt, ends_after_true, ends_after_rest}
use Rattle.trace.proofs.Lines.{line_append_end, ended_append_end, extent_append_end, line_end_rest}
use Rattle.trace.proofs.Records.{Form, refresh_form, activation_form, activation_take, numbered_form, numbered_take}

module _ {says : List ℕ → Option Record} {w : ℕ} (form : Form says w) (text : List ℕ) (at : ℕ) where
  pub reading_by_accepted : (r : Record) → ends_after w text ≡ true → says (take w text) ≡ some r
      → reading_by says text at ≡ record { outcome = accepted r; place = at + (w + 1) }
  unfolding reading_by or_refused
  reading_by_accepted r h e =
      let rest = drop (suc w) text in
      let whole = ends_after_rest w text h in
      let plain = form.unended (take w text) r e in
      let is_line : line text ≡ take w text = ap line whole ∙ line_append_end rest (take w text) plain in
      let is_ended : ended text ≡ true = ap ended whole ∙ ended_append_end rest (take w text) in
      let inside = ends_after_lt w text h in
      let long = length-take-le w text (omega arith) in
      let is_extent : extent text ≡ w + 1 = ap extent whole ∙ extent_append_end rest (take w text) plain ∙ ap (λ (n : ℕ). n + 1) long in
      rw (is_ended, is_line, e, is_extent)

  -- no record where the byte 10 stands elsewhere, or where the bytes before it say none
  says_none : ((r : Record) → ends_after w text ≡ true → says (take w text) ≡ some r → ⊥) → cond (ended text) (says (line text)) none ≡ none
  says_none never =
      split (ended text)
      (λ e.
      either (says (line text))
      (λ z. rw (e, z))
      (λ r s.
      let whole = line_end_rest text e in
      let long = form.same_length (line text) r s in
      let rest = drop (extent text) text in
      let byte : get_or text w 0 ≡ 10 = ap (λ (t : List ℕ). get_or t w 0) whole ∙ get_or_at (line text) 10 rest 0 w long in
      let is_line : take w text ≡ line text = ap (λ (t : List ℕ). take w t) whole ∙ take_at (line text) (10 ∷ rest) w long in
      let inside : w < length text = omega (arith, ap length whole, length-append (line text) (10 ∷ rest)) in
      absurd (never r (ends_after_true w text inside byte) (rw is_line s))))
      (λ e. rw e)

  reading_by_refused : cond (ended text) (says (line text)) none ≡ none → reading_by says text at ≡ record { outcome = refused 11; place = at + extent text }
  unfolding reading_by or_refused
  reading_by_refused z = rw z

  pub reading_by_other_width : ends_after w text ≡ false → reading_by says text at ≡ record { outcome = refused 11; place = at + extent text }
  reading_by_other_width h = reading_by_refused (says_none (λ r e s. clash (sym e ∙ h)))

  pub reading_by_other_bytes : says (take w text) ≡ none → reading_by says text at ≡ record { outcome = refused 11; place = at + extent text }
  reading_by_other_bytes h = reading_by_refused (says_none (λ r e s. missing (sym h ∙ s)))

-- a line of so many fields, by what they were found to hold
module _ (count : ℕ) (says : List ℕ → Record) (text : List ℕ) (at : ℕ) where
  pub reading_numbers : (numbers : List ℕ) → some numbers ≡ line_fields count text
      → reading_by (numbered count says) text at ≡ record { outcome = accepted (says numbers); place = at + (6 * count + 1) }
  unfolding line_fields bind
  reading_numbers numbers e =
      let ends = cond_test (ends_after (6 * count) text) (fields count text) numbers (sym e) in
      let holds = cond_some (ends_after (6 * count) text) (fields count text) numbers (sym e) in
      let inside = ends_after_lt (6 * count) text ends in
      reading_by_accepted (numbered_form count says) text at (says numbers) ends
      (numbered_take count says text (omega arith) ∙ rw holds)

  pub reading_no_numbers : none ≡ line_fields count text → reading_by (numbered count says) text at ≡ record { outcome = refused 11; place = at + extent text }
  unfolding line_fields bind
  reading_no_numbers e =
      split (ends_after (6 * count) text)
      (λ ends.
      let inside = ends_after_lt (6 * count) text ends in
      reading_by_other_bytes (numbered_form count says) text at
      (numbered_take count says text (omega arith) ∙ rw (sym (rw ends at e))))
      (λ elsewhere. reading_by_other_width (numbered_form count says) text at elsewhere)

pub ruleset by_fields = (reading_numbers, reading_no_numbers)

-- a refresh event's line
pub refresh_read : (text : List ℕ) (at : ℕ) → ends_after 0 text ≡ true → reading_by refresh text at ≡ record { outcome = accepted Refresh; place = at + 1 }
unfolding refresh
refresh_read text at h = reading_by_accepted refresh_form text at Refresh h refl

pub refresh_refused : (text : List ℕ) (at : ℕ) → ends_after 0 text ≡ false → reading_by refresh text at ≡ record { outcome = refused 11; place = at + extent text }
refresh_refused text at h = reading_by_other_width refresh_form text at h

pub ruleset refreshes = (refresh_read, refresh_refused)

-- an activation's line, by its byte 10 and its field
module _ (text : List ℕ) (at : ℕ) where
  pub activation_refused : ends_after 6 (drop at text) ≡ false → reading_by activation (drop at text) at ≡ record { outcome = refused 11; place = at + extent (drop at text) }
  activation_refused h = reading_by_other_width activation_form (drop at text) at h

  module _ (h : ends_after 6 (drop at text) ≡ true) where
    within : 6 ≤ length (drop at text)
    within = omega (arith, ends_after_lt 6 (drop at text) h)

    pub activation_read : (row : ℕ) → some row ≡ field at text → reading_by activation (drop at text) at ≡ record { outcome = accepted (Activate row 1); place = at + 7 }
    unfolding bind field
    activation_read row e = reading_by_accepted activation_form (drop at text) at (Activate row 1) h (activation_take (drop at text) within ∙ rw (sym e))

    pub activation_without_number : none ≡ field at text → reading_by activation (drop at text) at ≡ record { outcome = refused 11; place = at + extent (drop at text) }
    unfolding bind field
    activation_without_number e = reading_by_other_bytes activation_form (drop at text) at (activation_take (drop at text) within ∙ rw (sym e))

pub ruleset activations = (ends_after_within, activation_refused, activation_read, activation_without_number)
