-- Counts set to 0 from one place on and below another (`Emptied`): a place more, a part, a part more, and a part in which none stood.
use mathlib.Core.Path.{◌≡◌, refl, ap, ◌∙◌}
use mathlib.Core.Logic.{⊎_elim}
use mathlib.Core.List.{List, ◌++◌}
use Prim.Native.Nat.{ℕ, suc, ◌+◌, ◌-◌, ◌*◌, ◌/◌, ◌≤◌, ◌<◌}
use native.Mathlib.Omega.{arith}
use lib.ListN.{length, get_or, set, replicate, take, drop, length-set, length-replicate, length-drop, length-append, get_or-eq_default}
use lib.Seq.{get_or-set_same, get_or-set_other}
use Rattle.std.proofs.lemmas.List.{get_or-take, get_or-drop, get_or_append_left, get_or-append_right, get_or-replicate, length-take-le}
use Rattle.laws.proofs.Cases.{le_or_lt, same_or_other}
use Rattle.device.specs.Acceptance.{most_rows}
use Rattle.aids.specs.Marks.{all_words, Marked, EmptyFrom, Emptied}
use Rattle.aids.proofs.Stores.{word_positive}

pub emptied_none : (xs : List ℕ) (from to : ℕ) → to ≤ from → Emptied xs xs from to
emptied_none xs from to h = record { long = refl; zero_at = λ i l u. absurd (omega arith); before = λ i l. refl; behind = λ i l. refl }

-- a place more
pub emptied_more : {xs ys : List ℕ} {from to : ℕ} → Emptied xs ys from to → from ≤ to → to < length xs → (next : ℕ) → next ≡ to + 1 → Emptied xs (set ys to 0) from next
emptied_more {xs} {ys} {from} {to} e h u next q =
    record {
      long = length-set ys to 0 ∙ e.long;
      zero_at = λ i l v.
          ⊎_elim
          (λ same. rw same (get_or-set_same ys to 0 0 (omega (arith, e.long))))
          (λ other. get_or-set_other ys to i 0 0 other ∙ e.zero_at i l (omega arith))
          (same_or_other i to);
      before = λ i l. get_or-set_other ys to i 0 0 (λ z. omega arith) ∙ e.before i l;
      behind = λ i l. get_or-set_other ys to i 0 0 (λ z. omega arith) ∙ e.behind i (omega arith);
    }

-- a part is put back that holds 0 alone
pub emptied_part : (xs ys : List ℕ) (from n to : ℕ) → from + n ≡ to → to ≤ length xs → ys ≡ replicate (length (take n (drop from xs))) 0 → Emptied xs (take from xs ++ (ys ++ drop n (drop from xs))) from to
emptied_part xs ys from n to e h z =
    let all : length (take n (drop from xs)) ≡ n = length-take-le n (drop from xs) (rw length-drop (omega arith)) in
    let front : length (take from xs) ≡ from = length-take-le from xs (omega arith) in
    let middle : length ys ≡ n = rw (z, all) (length-replicate {A = ℕ} n 0) in
    let rest : length (drop n (drop from xs)) ≡ length xs - from - n = rw (length-drop, length-drop) refl in
    record {
      long = simp length-append (omega arith);
      zero_at = λ i l u.
          get_or-append_right (take from xs) (ys ++ drop n (drop from xs)) from i 0 front l
          ∙ get_or_append_left ys (drop n (drop from xs)) 0 (i - from) (omega arith)
          ∙ rw (z, all) (get_or-replicate {A = ℕ} n (i - from) 0 0 (omega arith));
      before = λ i l. get_or_append_left (take from xs) (ys ++ drop n (drop from xs)) 0 i (omega arith) ∙ get_or-take from xs i 0 l;
      behind = λ i l.
          let at : from + (n + (i - from - n)) ≡ i = omega arith in
          get_or-append_right (take from xs) (ys ++ drop n (drop from xs)) from i 0 front (omega arith)
          ∙ get_or-append_right ys (drop n (drop from xs)) n (i - from) 0 middle (omega arith)
          ∙ get_or-drop n (drop from xs) (i - from - n) 0
          ∙ get_or-drop from xs (n + (i - from - n)) 0
          ∙ ap (λ (j : ℕ). get_or xs j 0) at;
    }

-- a part more behind those from the first place on
pub emptied_on : {xs ys zs : List ℕ} {at to : ℕ} → Emptied xs ys 0 at → Emptied ys zs at to → at ≤ to → (next : ℕ) → next ≡ to → Emptied xs zs 0 next
emptied_on {xs} {ys} {zs} {at} {to} e f h next q =
    record {
      long = f.long ∙ e.long;
      zero_at = λ i l u.
          ⊎_elim
          (λ below. f.before i below ∙ e.zero_at i l below)
          (λ above. f.zero_at i (omega arith) (omega arith))
          (le_or_lt (suc i) at);
      before = λ i l. absurd (omega arith);
      behind = λ i l. f.behind i (omega arith) ∙ e.behind i (omega arith);
    }

module _ {counts marks : List ℕ} (m : Marked counts marks) where
  -- the rows of a word without a mark have no count
  hidden : (row : ℕ) → get_or marks (row / 64) 0 ≡ 0 → get_or counts row 0 ≡ 0
  hidden row z =
      ⊎_elim (λ none. none) (λ some. absurd (omega (arith, word_positive marks row (m.rows_shown row (omega arith))))) (same_or_other (get_or counts row 0) 0)

  pub emptied_word : {ys : List ℕ} (w : ℕ) → Emptied counts ys 0 (w * 64) → get_or marks w 0 ≡ 0 → Emptied counts ys 0 ((w + 1) * 64)
  emptied_word {ys} w e z =
      record {
        long = e.long;
        zero_at = λ i l u.
            ⊎_elim
            (λ below. e.zero_at i l below)
            (λ above.
            let here : i / 64 ≡ w = omega arith in
            e.behind i (omega arith) ∙ hidden i (rw here z))
            (le_or_lt (suc i) (w * 64));
        before = λ i l. absurd (omega arith);
        behind = λ i l. e.behind i (omega arith);
      }

  pub emptied_all : {ys : List ℕ} (to : ℕ) → Emptied counts ys 0 to → most_rows ≤ to → (length ys ≡ most_rows) × EmptyFrom ys 0
  emptied_all {ys} to e h =
      let long : length ys ≡ most_rows = e.long ∙ m.counts_long in (
        long,
        record {
          zero_at = λ i l.
              ⊎_elim
              (λ below. e.zero_at i l (omega arith))
              (λ above. get_or-eq_default ys 0 {n = i} (omega arith))
              (le_or_lt (suc i) to);
        },
      )

-- no count, and no mark
pub unmarked : {counts marks : List ℕ} → length counts ≡ most_rows → EmptyFrom counts 0 → marks ≡ replicate all_words 0 → Marked counts marks
unmarked {counts} {marks} long e f =
    rw f
    (record {
      counts_long = long;
      marks_long = length-replicate {A = ℕ} all_words 0;
      rows_shown = λ row p. absurd (omega (arith, e.zero_at row (omega arith)));
      words_shown = λ w h p. absurd (omega (arith, get_or-replicate {A = ℕ} all_words w 0 0 (omega arith)));
    })
