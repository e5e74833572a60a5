-- The reading of a line by its first byte.
use mathlib.Core.Path.{◌≡◌, refl, sym, ◌∙◌}
use mathlib.Core.Bool.{true, false, cond, Bool}
use mathlib.Core.List.{List, ◌∷◌}
use mathlib.Core.Option.{none, Option}
use Prim.Native.Nat.{ℕ, suc, ◌+◌, ◌≤◌, ◌<◌}
use native.Mathlib.Nat.{add-zero}
use native.Mathlib.Numerals.{add-one}
use native.Mathlib.Omega.{arith}
use borrow.Author.Tests.{eq-eqb, ne_eqb}
use lib.ListN.{length, get_or, drop, drop_of_length-le}
use lib.Seq.{drop-cons}
use Rattle.device.specs.Refusal.{accepted, refused}
use Rattle.trace.specs.declared.Record.{Record}
use Rattle.trace.specs.declared.Record.TheVariants.{Blank}
use Rattle.trace.specs.Bytes.{letter_A, letter_F, letter_H, letter_R, letter_S}
use Rattle.trace.specs.Lines.{line, ended, extent}
use Rattle.trace.specs.Reading.{or_refused, reading_by, reading}
use Rattle.trace.specs.Records.{settings, remap, activation, held_activation, refresh, record_of}

-- no byte is left
pub reading_behind_end : (text : List ℕ) (place : ℕ) → length text ≤ place → reading text place ≡ record { outcome = refused 11; place = place }
unfolding reading reading_by or_refused ended extent
reading_behind_end text place h = rw (drop_of_length-le text {i = place} h, add-zero)

cond_none : (b : Bool) → cond {A = Option Record} b none none ≡ none
cond_none true = refl
cond_none false = refl

module _ (text : List ℕ) (place : ℕ) (h : place < length text) where
  pub reading_blank : get_or text place 0 ≡ 10 → reading text place ≡ record { outcome = accepted Blank; place = place + 1 }
  unfolding reading reading_by or_refused line ended extent record_of
  reading_blank e = rw (drop-cons text place 0 h, eq-eqb _ _ e)

  module _ (long : get_or text place 0 ≡ 10 → ⊥) where
    -- what the byte's lines say, read from behind it on
    reading_letter_by : (says : List ℕ → Option Record) → ((bytes : List ℕ) → record_of (get_or text place 0 ∷ bytes) ≡ says bytes)
        → reading text place ≡ reading_by says (drop (place + 1) text) (place + 1)
    unfolding reading reading_by line ended extent
    reading_letter_by says same =
        let next : (n : ℕ) → place + suc n ≡ place + 1 + n = λ n. omega arith in
        rw (drop-cons text place 0 h, ne_eqb _ _ long, same (line (drop (suc place) text)), next, add-one place)

  module _ (b : ℕ) (is : get_or text place 0 ≡ b) where
    reading_letter : (b ≡ 10 → ⊥) → (says : List ℕ → Option Record) → ((bytes : List ℕ) → record_of (b ∷ bytes) ≡ says bytes)
        → reading text place ≡ reading_by says (drop (place + 1) text) (place + 1)
    reading_letter long says same = reading_letter_by (λ e. long (sym is ∙ e)) says (λ bytes. rw is (same bytes))

  pub reading_activation : get_or text place 0 ≡ letter_A → reading text place ≡ reading_by activation (drop (place + 1) text) (place + 1)
  unfolding record_of
  reading_activation e = reading_letter letter_A e (λ w. omega arith) activation (λ bytes. refl)

  pub reading_refresh : get_or text place 0 ≡ letter_R → reading text place ≡ reading_by refresh (drop (place + 1) text) (place + 1)
  unfolding record_of
  reading_refresh e = reading_letter letter_R e (λ w. omega arith) refresh (λ bytes. refl)

  pub reading_settings : get_or text place 0 ≡ letter_S → reading text place ≡ reading_by settings (drop (place + 1) text) (place + 1)
  unfolding record_of
  reading_settings e = reading_letter letter_S e (λ w. omega arith) settings (λ bytes. refl)

  pub reading_remap : get_or text place 0 ≡ letter_F → reading text place ≡ reading_by remap (drop (place + 1) text) (place + 1)
  unfolding record_of
  reading_remap e = reading_letter letter_F e (λ w. omega arith) remap (λ bytes. refl)

  pub reading_held : get_or text place 0 ≡ letter_H → reading text place ≡ reading_by held_activation (drop (place + 1) text) (place + 1)
  unfolding record_of
  reading_held e = reading_letter letter_H e (λ w. omega arith) held_activation (λ bytes. refl)

  pub reading_other : (get_or text place 0 ≡ letter_A → ⊥) → (get_or text place 0 ≡ letter_R → ⊥) → (get_or text place 0 ≡ letter_H → ⊥) → (get_or text place 0 ≡ letter_S → ⊥) → (get_or text place 0 ≡ letter_F → ⊥) → (get_or text place 0 ≡ 10 → ⊥)
      → reading text place ≡ record { outcome = refused 11; place = place + 1 + extent (drop (place + 1) text) }
  unfolding record_of reading_by or_refused
  reading_other a r o s f long =
      let says_none = reading_letter_by long (λ bytes. none) (λ bytes. rw (ne_eqb _ _ s, ne_eqb _ _ a, ne_eqb _ _ r, ne_eqb _ _ f, ne_eqb _ _ o)) in
      rw (says_none, cond_none (ended (drop (place + 1) text)))

pub ruleset letters = (reading_behind_end, reading_blank, reading_activation, reading_refresh, reading_held, reading_settings, reading_remap, reading_other)
