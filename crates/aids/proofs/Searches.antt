-- The search for the first row at a count: no row before one is at it (`Clear`), and what the search comes to (`FirstAt`).
use mathlib.Core.Path.{◌≡◌, refl, ap, sym, ◌∙◌}
use mathlib.Core.Logic.{⊎_elim}
use mathlib.Core.List.{List, [], ◌∷◌}
use Prim.Native.Nat.{ℕ, zero, suc, ◌+◌, ◌*◌, ◌/◌, ◌≤◌, ◌<◌}
use native.Mathlib.Omega.{arith}
use borrow.Author.Tests.{eq-eqb, ne_eqb}
use lib.Count.{count_trailing_zeros}
use lib.ListN.{length, get_or}
use Rattle.std.specs.Prelude.{Some, None}
use Rattle.laws.proofs.Cases.{le_or_lt}
use Rattle.device.specs.Acceptance.{most_rows}
use Rattle.tables.specs.InnerContracts.{equal_place}
use Rattle.aids.specs.Marks.{Marked, Clear, FirstAt, EmptyFrom, Shows, at_number, in_use}
use Rattle.aids.proofs.Stores.{word_positive}
use Rattle.aids.proofs.Shown.{shows_none, lowest_first}

module _ {xs : List ℕ} {x : ℕ} where
  clear_over : {at : ℕ} → Clear xs x at → (to : ℕ) → ((i : ℕ) → at ≤ i → i < to → get_or xs i 0 ≡ x → ⊥) → Clear xs x to
  clear_over {at} c to n = record { none = λ i h e. ⊎_elim (λ below. c.none i below e) (λ above. n i (omega arith) h e) (le_or_lt (suc i) at) }

  pub clear_on : {at : ℕ} → Clear xs x at → (get_or xs at 0 ≡ x → ⊥) → Clear xs x (at + 1)
  clear_on {at} c n = clear_over c (at + 1) (λ i l h e. let same : i ≡ at = omega arith in n (rw same at e))

  pub clear_less : {at : ℕ} → Clear xs x at → (to : ℕ) → to ≤ at → Clear xs x to
  clear_less c to h = record { none = λ i l e. c.none i (omega arith) e }

  module _ {word from end : ℕ} (s : Shows (at_number xs x) word from end) (c : Clear xs x from) where
    -- the rows that a word shows
    pub clear_skipped : 0 < word → Clear xs x (from + count_trailing_zeros 64 word)
    clear_skipped p = clear_over c (from + count_trailing_zeros 64 word) (λ i l h e. lowest_first s p i l h e)

    pub clear_end : word ≡ 0 → Clear xs x end
    clear_end z = clear_over c end (λ i l h e. shows_none s z i l h e)

-- the rows of the words that a word shows
module _ {counts marks : List ℕ} (m : Marked counts marks) {count : ℕ} (p : 0 < count) where
  row_in_use : (row : ℕ) → get_or counts row 0 ≡ count → in_use marks (row / 64)
  row_in_use row e = word_positive marks row (m.rows_shown row (omega arith))

  module _ {word from end : ℕ} (s : Shows (in_use marks) word from end) (c : Clear counts count (from * 64)) where
    pub clear_words_skipped : 0 < word → Clear counts count ((from + count_trailing_zeros 64 word) * 64)
    clear_words_skipped q =
        clear_over c ((from + count_trailing_zeros 64 word) * 64) (λ i l h e. lowest_first s q (i / 64) (omega arith) (omega arith) (row_in_use i e))

    pub clear_words_end : word ≡ 0 → Clear counts count (end * 64)
    clear_words_end z = clear_over c (end * 64) (λ i l h e. shows_none s z (i / 64) (omega arith) (omega arith) (row_in_use i e))

-- the first place of a number in a table, by what stands before it
first_is : (x : ℕ) (xs : List ℕ) (i : ℕ) → i < length xs → get_or xs i 0 ≡ x → ((j : ℕ) → j < i → get_or xs j 0 ≡ x → ⊥) → equal_place x xs ≡ i
unfolding equal_place
first_is x [] i l e n = absurd (omega arith)
first_is x (y ∷ ys) zero l e n = rw (eq-eqb y x e)
first_is x (y ∷ ys) (suc i) l e n = rw (ne_eqb y x (n 0 (omega arith))) (ap suc (first_is x ys i (omega arith) e (λ j h. n (suc j) (omega arith))))

none_is : (x : ℕ) (xs : List ℕ) → ((i : ℕ) → i < length xs → get_or xs i 0 ≡ x → ⊥) → equal_place x xs ≡ length xs
unfolding equal_place
none_is x [] n = refl
none_is x (y ∷ ys) n = rw (ne_eqb y x (n 0 (omega arith))) (ap suc (none_is x ys (λ i h. n (suc i) (omega arith))))

module _ {xs : List ℕ} {x : ℕ} where
  pub found_first : {place : ℕ} → length xs ≡ most_rows → (place < most_rows) × (get_or xs place 0 ≡ x) × Clear xs x place → FirstAt xs x (Some place)
  found_first {place} long f =
      let inside : place < length xs = omega (arith, f.0) in
      (inside, sym (first_is x xs place inside f.1 f.2.none))

  pub found_none : {at rows : ℕ} → 0 < x → Clear xs x at → EmptyFrom xs rows → rows ≤ at → FirstAt xs x None
  found_none {at} {rows} p c empty h =
      sym (none_is x xs (λ i l e. ⊎_elim (λ below. c.none i below e) (λ above. omega (arith, empty.zero_at i (omega arith))) (le_or_lt (suc i) at)))
