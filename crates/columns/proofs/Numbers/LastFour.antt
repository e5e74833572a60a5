-- A field, and one whose last four columns are digits: the two in front of them say what it holds.
use mathlib.Core.Path.{◌≡◌, sym, ◌∙◌}
use mathlib.Core.Bool.{true, false}
use mathlib.Core.List.{List}
use mathlib.Core.Option.{none, some}
use Prim.Native.Nat.{ℕ, ◌+◌, ◌-◌, ◌*◌, ◌≤◌, ◌<◌}
use native.Mathlib.Omega.{arith}
use lib.ListN.{length, get_or, take, drop, length-drop}
use lib.Seq.{length-take-le}
use Rattle.std.proofs.lemmas.List.{take_rest}
use Rattle.std.specs.Char.{is_ascii_digit}
use Rattle.columns.specs.Numbers.{is_digit, digits, number, field}
use Rattle.columns.proofs.Numbers.Digits.{number_of_rest, number_of_digit, number_of_other, room_zero, digits_lt}

module _ (text : List ℕ) (from : ℕ) (fits : from + 6 ≤ length text) where
  abbrev pub columns : List ℕ
  columns = take (from + 6 - from) (drop from text)

  six : from + 6 - from ≡ 6
  six = omega arith

  wide : length columns ≡ 6
  wide = rw six (length-take-le 6 (drop from text) (omega (arith, length-drop from text)))

  pub is_field : number columns ≡ field from text
  unfolding field
  is_field = rw six

  -- where the last four columns are digits
  module _ (low : ℕ) (last : some low ≡ digits 0 (take (length columns - 2) (drop 2 columns))) where
    four : digits 0 (drop 2 columns) ≡ some low
    four = sym (rw take_rest at last)

    pub low_lt : low < 1000000
    low_lt = digits_lt low 0 (drop 2 columns) (room_zero _ (omega (arith, wide, length-drop 2 columns))) four

    module _ (blank : get_or columns 0 0 ≡ 32) where
      pub holds_four : get_or columns 1 0 ≡ 32 → some low ≡ field from text
      holds_four second = sym (number_of_rest low columns (omega (arith, wide)) blank second four) ∙ is_field

      pub holds_five : is_ascii_digit (get_or columns 1 0) ≡ true → some ((get_or columns 1 0 - 48) * 10000 + low) ≡ field from text
      unfolding is_digit
      holds_five second =
          let width : length (drop 2 columns) ≡ 4 = omega (arith, wide, length-drop 2 columns) in
          sym (rw width at (number_of_digit low columns (omega (arith, wide)) blank second four)) ∙ is_field

      pub holds_none : (get_or columns 1 0 ≡ 32 → ⊥) → is_ascii_digit (get_or columns 1 0) ≡ false → none ≡ field from text
      unfolding is_digit
      holds_none not_blank second = sym (number_of_other columns (omega (arith, wide)) blank not_blank second) ∙ is_field

pub ruleset last_four = (is_field, low_lt, holds_four, holds_five, holds_none)
