-- A mark set or turned: the other places keep theirs, and `Marked` holds on where a row gets a count or has none any more.
use mathlib.Core.Path.{◌≡◌, ap, sym, ◌∙◌}
use mathlib.Core.Logic.{⊎_elim}
use mathlib.Core.List.{List}
use Prim.Native.Nat.{ℕ, ◌+◌, ◌/◌, ◌%◌, ◌^◌, ◌<◌}
use native.Mathlib.Omega.{arith}
use lib.Bits.{bit_or, bit_xor}
use lib.ListN.{length, get_or, set, length-set, get_or-eq_default}
use lib.Seq.{get_or-set_same, get_or-set_other}
use Rattle.laws.proofs.Cases.{le_or_lt, same_or_other, zero_one}
use Rattle.device.specs.Acceptance.{most_rows}
use Rattle.aids.specs.Marks.{bit, marked, with_mark, turned, Marked}
use Rattle.aids.proofs.Bits.{bit_none, bit_set, bit_kept, bit_turned}

-- a word with a mark is not 0
pub word_positive : (marks : List ℕ) (i : ℕ) → marked marks i ≡ 1 → 0 < get_or marks (i / 64) 0
unfolding marked
word_positive marks i m =
    ⊎_elim
    (λ z. let on : bit 0 (i % 64) ≡ 1 = rw z at m in zero_one (sym (bit_none (i % 64)) ∙ on))
    (λ n. omega arith)
    (same_or_other (get_or marks (i / 64) 0) 0)

-- a store to one word, at every place
module _ (marks : List ℕ) (place : ℕ) (fits : place / 64 < length marks) where
  mark_own : marked (with_mark marks place) place ≡ 1
  unfolding marked with_mark
  mark_own = rw (get_or-set_same marks (place / 64) (bit_or (get_or marks (place / 64) 0) (2 ^ (place % 64))) 0 fits) (bit_set (get_or marks (place / 64) 0) (place % 64))

  stored : (v i : ℕ) → (i ≡ place → ⊥) → ((j : ℕ) → (j ≡ place % 64 → ⊥) → bit v j ≡ bit (get_or marks (place / 64) 0) j)
      → bit (get_or (set marks (place / 64) v) (i / 64) 0) (i % 64) ≡ bit (get_or marks (i / 64) 0) (i % 64)
  stored v i other keeps =
      ⊎_elim
      (λ same.
      ap (λ (n : ℕ). bit (get_or (set marks (place / 64) v) n 0) (i % 64)) same
      ∙ ap (λ (x : ℕ). bit x (i % 64)) (get_or-set_same marks (place / 64) v 0 fits)
      ∙ keeps (i % 64) (λ q. other (omega arith))
      ∙ ap (λ (n : ℕ). bit (get_or marks n 0) (i % 64)) (sym same))
      (λ apart. rw (get_or-set_other marks (place / 64) (i / 64) v 0 apart))
      (same_or_other (i / 64) (place / 64))

  mark_other : (i : ℕ) → (i ≡ place → ⊥) → marked (with_mark marks place) i ≡ marked marks i
  unfolding marked with_mark
  mark_other i other = stored (bit_or (get_or marks (place / 64) 0) (2 ^ (place % 64))) i other (λ j n. bit_kept (get_or marks (place / 64) 0) (place % 64) j n)

  turn_other : (i : ℕ) → (i ≡ place → ⊥) → marked (turned marks place) i ≡ marked marks i
  unfolding marked turned
  turn_other i other = stored (bit_xor (get_or marks (place / 64) 0) (2 ^ (place % 64))) i other (λ j n. bit_turned (get_or marks (place / 64) 0) (place % 64) j n)

  -- a mark takes none away
  mark_more : (i : ℕ) → marked marks i ≡ 1 → marked (with_mark marks place) i ≡ 1
  mark_more i m = ⊎_elim (λ same. rw same mark_own) (λ other. mark_other i other ∙ m) (same_or_other i place)

-- lengths, and the words that are not stored to
long_marked : (marks : List ℕ) (place : ℕ) → length (with_mark marks place) ≡ length marks
unfolding with_mark
long_marked marks place = simp length-set

long_turned : (marks : List ℕ) (place : ℕ) → length (turned marks place) ≡ length marks
unfolding turned
long_turned marks place = simp length-set

mark_apart : (marks : List ℕ) (place w : ℕ) → (w ≡ place / 64 → ⊥) → get_or (with_mark marks place) w 0 ≡ get_or marks w 0
unfolding with_mark
mark_apart marks place w n = get_or-set_other marks (place / 64) w _ 0 n

turn_apart : (marks : List ℕ) (place w : ℕ) → (w ≡ place / 64 → ⊥) → get_or (turned marks place) w 0 ≡ get_or marks w 0
unfolding turned
turn_apart marks place w n = get_or-set_other marks (place / 64) w _ 0 n

-- a row with a count is one of the bank's
positive_inside : (xs : List ℕ) (i : ℕ) → 0 < get_or xs i 0 → i < length xs
positive_inside xs i p =
    ⊎_elim (λ out. absurd (omega (arith, get_or-eq_default xs 0 {n = i} out))) (λ inside. inside) (le_or_lt (length xs) i)

module _ {counts marks : List ℕ} (m : Marked counts marks) (row : ℕ) (l : row < most_rows) where
  -- a row gets a count
  pub marked_entered : (count : ℕ) {marks₁ marks₂ : List ℕ} → marks₁ ≡ with_mark marks row → marks₂ ≡ with_mark marks₁ (most_rows + row / 64) → Marked (set counts row count) marks₂
  marked_entered count e f =
      let long = m.marks_long in
      let first : row / 64 < length marks = omega arith in
      let long₁ = long_marked marks row in
      let next = most_rows + row / 64 in
      let second : next / 64 < length (with_mark marks row) = omega arith in
      rw (f, e)
      (record {
        counts_long = length-set counts row count ∙ m.counts_long;
        marks_long = long_marked (with_mark marks row) next ∙ long₁ ∙ long;
        rows_shown = λ j p.
            mark_more (with_mark marks row) next second j
            (⊎_elim
            (λ same. rw same (mark_own marks row first))
            (λ other. mark_more marks row first j (m.rows_shown j (rw (get_or-set_other counts row j count 0 other) at p)))
            (same_or_other j row));
        words_shown = λ w h p.
            ⊎_elim
            (λ same. rw same (mark_own (with_mark marks row) next second))
            (λ other.
            mark_more (with_mark marks row) next second (most_rows + w)
            (mark_more marks row first (most_rows + w)
            (m.words_shown w h (rw (mark_apart (with_mark marks row) next w (λ q. omega arith), mark_apart marks row w other) at p))))
            (same_or_other w (row / 64));
      })

  turned_first : row / 64 < length marks
  turned_first = let long = m.marks_long in omega arith

  turned_rows : (j : ℕ) → 0 < get_or (set counts row 0) j 0 → (j < most_rows) × (marked (turned marks row) j ≡ 1)
  turned_rows j p =
      let long = m.counts_long in
      let inside = positive_inside (set counts row 0) j p in
      let same_long = length-set counts row 0 in
      ⊎_elim
      (λ same. absurd (omega (arith, rw same at p, get_or-set_same counts row 0 0 (omega arith))))
      (λ other. (omega arith, turn_other marks row turned_first j other ∙ m.rows_shown j (rw (get_or-set_other counts row j 0 0 other) at p)))
      (same_or_other j row)

  -- a row has none any more, and its word has a mark
  pub marked_removed : {marks₁ : List ℕ} → marks₁ ≡ turned marks row → 0 < get_or counts row 0 → Marked (set counts row 0) marks₁
  marked_removed e p =
      rw e
      (record {
        counts_long = length-set counts row 0 ∙ m.counts_long;
        marks_long = long_turned marks row ∙ m.marks_long;
        rows_shown = λ j q. (turned_rows j q).1;
        words_shown = λ w h q.
            turn_other marks row turned_first (most_rows + w) (λ z. omega arith)
            ∙ ⊎_elim
            (λ same. m.words_shown w h (rw same (word_positive marks row (m.rows_shown row p))))
            (λ other. m.words_shown w h (rw (turn_apart marks row w other) at q))
            (same_or_other w (row / 64));
      })

  -- and its word has none
  pub marked_emptied : {marks₁ marks₂ : List ℕ} → marks₁ ≡ turned marks row → get_or marks₁ (row / 64) 0 ≡ 0 → marks₂ ≡ turned marks₁ (most_rows + row / 64) → Marked (set counts row 0) marks₂
  marked_emptied {marks₁} {marks₂} e z f =
      let next = most_rows + row / 64 in
      let long₁ : length marks₁ ≡ length marks = ap length e ∙ long_turned marks row in
      let long = m.marks_long in
      let second : next / 64 < length marks₁ = omega arith in
      rw f
      (record {
        counts_long = length-set counts row 0 ∙ m.counts_long;
        marks_long = long_turned marks₁ next ∙ long₁ ∙ long;
        rows_shown = λ j q.
            let was = turned_rows j q in
            turn_other marks₁ next second j (λ y. omega (arith, was.0)) ∙ rw e was.1;
        words_shown = λ w h q.
            let here : 0 < get_or marks₁ w 0 = rw (turn_apart marks₁ next w (λ y. omega arith)) at q in
            let other : w ≡ row / 64 → ⊥ = λ y. omega (arith, rw y at here) in
            turn_other marks₁ next second (most_rows + w) (λ y. other (omega arith))
            ∙ ap (λ (x : List ℕ). marked x (most_rows + w)) e
            ∙ turn_other marks row turned_first (most_rows + w) (λ y. omega arith)
            ∙ m.words_shown w h (rw (e, turn_apart marks row w other) at here);
      })
