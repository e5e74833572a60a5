-- What a word shows of the places from one on (`Shows`): behind a shift, before its lowest bit, and where it is 0. What the words of marks show.
use mathlib.Core.Path.{◌≡◌, ap, sym, ◌∙◌}
use mathlib.Core.List.{List}
use Prim.Native.Nat.{ℕ, ◌+◌, ◌-◌, ◌*◌, ◌/◌, ◌%◌, ◌^◌, ◌≤◌, ◌<◌}
use native.Mathlib.Omega.{arith}
use lib.Pow.{shr-shr, shr_lt, shr_le}
use lib.Count.{count_trailing_zeros}
use lib.ListN.{get_or}
use Rattle.laws.proofs.Cases.{zero_one}
use Rattle.device.specs.Acceptance.{most_rows}
use Rattle.aids.specs.Marks.{row_words, bit, marked, Marked, Shows, at_number, in_use}
use Rattle.aids.proofs.Bits.{bit_none, low_bits, few_zeros}

module _ {so : ℕ → Type 0} {word from end : ℕ} (s : Shows so word from end) where
  -- the word shifted shows the places from a later one on
  later : (d : ℕ) → from + d ≤ end → Shows so (word / 2 ^ d) (from + d) end
  unfolding bit
  later d h =
      let e : end - from ≡ end - (from + d) + d = omega arith in
      record {
        onward = h;
        small = shr_lt (end - (from + d)) d (rw e at s.small);
        shown = λ i l u here.
            let at : i - from ≡ d + (i - (from + d)) = omega arith in
            ap (λ (x : ℕ). x % 2) (shr-shr word d (i - (from + d))) ∙ (rw at at (s.shown i (omega arith) u here));
      }

  -- 0 shows none
  pub shows_none : word ≡ 0 → (i : ℕ) → from ≤ i → i < end → so i → ⊥
  shows_none z i l h here = zero_one (sym (bit_none (i - from)) ∙ (rw z at (s.shown i l h here)))

  module _ (p : 0 < word) where
    -- the lowest bit is a place's, and no place before it is shown
    pub lowest_inside : from + count_trailing_zeros 64 word < end
    lowest_inside = omega (arith, few_zeros 64 word (end - from) p s.small, s.onward)

    pub lowest_first : (i : ℕ) → from ≤ i → i < from + count_trailing_zeros 64 word → so i → ⊥
    lowest_first i l h here =
        let inside = lowest_inside in
        zero_one (sym (low_bits 64 word (i - from) (omega arith)) ∙ s.shown i l (omega arith) here)

-- and the rest of the word shows the places behind it
pub rest : {so : ℕ → Type 0} {word from end : ℕ} (s : Shows so word from end) → 0 < word
    → Shows so (word / 2 ^ count_trailing_zeros 64 word / 2) (from + count_trailing_zeros 64 word + 1) end
rest {so} {word} s p =
    let inside = lowest_inside s p in
    later (later s (count_trailing_zeros 64 word) (omega arith)) 1 (omega arith)

pub rest_less : (word k : ℕ) → word / 2 ^ k / 2 ≤ word
rest_less word k = omega (arith, shr_le word k)

-- the words of marks show the rows at a count above 0, and the words in use
marked_in : (marks : List ℕ) (w place k : ℕ) → place / 64 ≡ w → place % 64 ≡ k → marked marks place ≡ bit (get_or marks w 0) k
unfolding marked
marked_in marks w place k e f = rw (e, f)

whole : {so : ℕ → Type 0} (word from : ℕ) → word < 18446744073709551616 → ((i : ℕ) → from ≤ i → i < from + 64 → so i → bit word (i - from) ≡ 1) → Shows so word from (from + 64)
whole word from f shown =
    let e : from + 64 - from ≡ 64 = omega arith in
    record { onward = omega arith; small = rw e f; shown = shown }

module _ {counts marks : List ℕ} (m : Marked counts marks) where
  pub rows_of_word : {count : ℕ} → 0 < count → (w : ℕ) → get_or marks w 0 < 18446744073709551616 → Shows (at_number counts count) (get_or marks w 0) (w * 64) (w * 64 + 64)
  rows_of_word p w f =
      whole (get_or marks w 0) (w * 64) f
      (λ i l h here. sym (marked_in marks w i (i - w * 64) (omega arith) (omega arith)) ∙ m.rows_shown i (omega arith))

  words_of_word : (g : ℕ) → g < 64 → get_or marks (row_words + g) 0 < 18446744073709551616 → Shows (in_use marks) (get_or marks (row_words + g) 0) (g * 64) (g * 64 + 64)
  words_of_word g u f =
      whole (get_or marks (row_words + g) 0) (g * 64) f
      (λ i l h here. sym (marked_in marks (row_words + g) (most_rows + i) (i - g * 64) (omega arith) (omega arith)) ∙ m.words_shown i (omega arith) here)

  -- the same from a place of the word on
  pub rows_from : {count : ℕ} → 0 < count → (from : ℕ) → get_or marks (from / 64) 0 < 18446744073709551616
      → Shows (at_number counts count) (get_or marks (from / 64) 0 / 2 ^ (from % 64)) from (from / 64 * 64 + 64)
  rows_from p from f =
      let e : from / 64 * 64 + from % 64 ≡ from = omega arith in
      rw e at (later (rows_of_word p (from / 64) f) (from % 64) (omega arith))

  pub words_from : (from : ℕ) → from < row_words → get_or marks (row_words + from / 64) 0 < 18446744073709551616
      → Shows (in_use marks) (get_or marks (row_words + from / 64) 0 / 2 ^ (from % 64)) from ((from / 64 + 1) * 64)
  words_from from u f =
      let e : from / 64 * 64 + from % 64 ≡ from = omega arith in
      let to : from / 64 * 64 + 64 ≡ (from / 64 + 1) * 64 = omega arith in
      rw (e, to) at (later (words_of_word (from / 64) (omega arith) f) (from % 64) (omega arith))
