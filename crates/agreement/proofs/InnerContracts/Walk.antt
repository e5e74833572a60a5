-- A walk over a summary's tables: where it begins, rows that are not tracked, and a row that is.
use mathlib.Core.Path.{◌≡◌, refl, sym, ap, ◌∙◌}
use mathlib.Core.Bool.{true, false}
use mathlib.Core.Logic.{⊎_elim}
use mathlib.Core.List.{List, [], ◌∷◌}
use Prim.Native.Nat.{ℕ, suc, ◌+◌, ◌-◌, ◌≤◌, ◌<◌}
use native.Mathlib.Numerals.{add-one}
use native.Mathlib.Omega.{arith}
use borrow.Author.Tests.{ltb-true, lt-ltb, eqb-true, eqb-false, eq-eqb, ne_eqb}
use lib.Dec.{ltb, eqb}
use lib.ListN.{length, drop, get_or}
use lib.Seq.{drop-cons}
use Rattle.laws.proofs.Cases.{split, le_or_lt, clash}
use Rattle.summary.specs.Entries.{Entry, counts_of, count_or}
use Rattle.summary.specs.Steps.{estimate}
use Rattle.summary.specs.Tables.{entries_of, read}
use Rattle.summary.specs.InnerContracts.{Holds}
use Rattle.summary.specs.Rules.{Ordered, ordered_none, ordered_more}
use Rattle.summary.proofs.Entries.Lengths.{length_counts}
use Rattle.summary.proofs.Tables.{length_table}
use Rattle.agreement.specs.InnerContracts.{next_row, at_row, estimate_at, place_after}

-- the entries from a place of the tables on
unfoldable pub rest_of : List ℕ → List ℕ → ℕ → ℕ → List Entry
rest_of rows counts tracked i = entries_of (tracked - i) (drop i rows) (drop i counts)

-- a walk at place i has passed every row below this one: the entries from there on give the estimates of this row and the later ones
pub record Walked (high : ℕ) (rows counts : List ℕ) (tracked spillover row i : ℕ) : Type 0 where
  pub rows_long : tracked ≤ length rows
  pub counts_long : tracked ≤ length counts
  pub within : i ≤ tracked
  pub ordered : Ordered high row (rest_of rows counts tracked i)
  pub estimates : (r : ℕ) → row ≤ r → estimate (read rows counts tracked spillover) r ≡ count_or spillover r (rest_of rows counts tracked i)

-- the entry at a place of the tables
abbrev entry_at : List ℕ → List ℕ → ℕ → Entry
entry_at rows counts i = record { row = get_or rows i 0; count = get_or counts i 0 }

rest_none : (rows counts : List ℕ) (tracked i : ℕ) → tracked ≤ i → rest_of rows counts tracked i ≡ []
unfolding rest_of entries_of
rest_none rows counts tracked i h =
    let gone : tracked - i ≡ 0 = omega arith in
    rw gone

rest_more : (rows counts : List ℕ) (tracked i : ℕ) → tracked ≤ length rows → tracked ≤ length counts → i < tracked → rest_of rows counts tracked i ≡ entry_at rows counts i ∷ rest_of rows counts tracked (i + 1)
unfolding rest_of entries_of
rest_more rows counts tracked i hr hc h =
    let one : tracked - i ≡ suc (tracked - (i + 1)) = omega arith in
    rw (one, drop-cons rows i 0 (omega arith), drop-cons counts i 0 (omega arith), add-one)

ordered_parts : {high low : ℕ} {x : Entry} {xs : List Entry} → Ordered high low (x ∷ xs) → (Ordered high (suc x.row) xs) × (low ≤ x.row) × (x.row < high)
ordered_parts (ordered_more low x o l b) = (o, l, b)

count_or_below : (other row : ℕ) {high low : ℕ} {es : List Entry} → Ordered high low es → row < low → count_or other row es ≡ other
unfolding count_or
count_or_below other row ordered_none h = refl
count_or_below other row (ordered_more low x o l b) h = rw (ne_eqb x.row row (λ e. omega arith)) (count_or_below other row o (omega arith))

pub at_row_tracked : (rows : List ℕ) (tracked row i : ℕ) → at_row rows tracked row i ≡ true → (i < tracked) × (get_or rows i 0 ≡ row)
unfolding at_row
at_row_tracked rows tracked row i on =
    split (ltb i tracked)
    (λ more. (ltb-true i tracked more, eqb-true (get_or rows i 0) row (rw more at on)))
    (λ none. clash (sym (rw none at on)))

ordered_from : {high low : ℕ} (low' : ℕ) {x : Entry} {xs : List Entry} → Ordered high low (x ∷ xs) → low' ≤ x.row → Ordered high low' (x ∷ xs)
ordered_from low' (ordered_more low x o l b) h = ordered_more low' x o h b

module _ {high : ℕ} {rows counts : List ℕ} {tracked spillover : ℕ} where
  -- the walk begins
  pub walk_begins : Holds (length rows) high (read rows counts tracked spillover) rows counts tracked spillover → Walked high rows counts tracked spillover 0 0
  unfolding rest_of read estimate
  walk_begins h =
      let es : List Entry = entries_of tracked rows counts in
      let whole : tracked - 0 ≡ tracked = omega arith in
      let most : length (counts_of es) ≤ length rows = omega (arith, length_counts es, h.sound.fits) in
      record {
        rows_long = omega (arith, h.tracked_is, h.sound.fits);
        counts_long = omega (arith, h.tracked_is, h.sound.fits, ap length h.counts_laid, length_table (length rows) (counts_of es) most);
        within = omega arith;
        ordered = rw whole h.sound.ordered;
        estimates = λ r l. rw whole;
      }

  -- rows that are not tracked are passed
  walk_skip : {row i : ℕ} (row' : ℕ) → Walked high rows counts tracked spillover row i → row ≤ row' → (i < tracked → row' ≤ get_or rows i 0) → Walked high rows counts tracked spillover row' i
  walk_skip {row} {i} row' w l before =
      record {
        rows_long = w.rows_long;
        counts_long = w.counts_long;
        within = w.within;
        ordered =
            ⊎_elim
            (λ end. rw (rest_none rows counts tracked i end) ordered_none)
            (λ more.
            let next = rest_more rows counts tracked i w.rows_long w.counts_long more in
            rw next (ordered_from row' (rw next at w.ordered) (before more)))
            (le_or_lt tracked i);
        estimates = λ r h. w.estimates r (omega arith);
      }

  -- the row at this place is not passed yet, and is in the bank
  row_ahead : {row i : ℕ} → Walked high rows counts tracked spillover row i → i < tracked → (row ≤ get_or rows i 0) × (get_or rows i 0 < high)
  row_ahead {row} {i} w more =
      let parts = ordered_parts (rw (rest_more rows counts tracked i w.rows_long w.counts_long more) at w.ordered) in
      (parts.1, parts.2)

  pub next_row_in_bank : {row i : ℕ} → Walked high rows counts tracked spillover row i → row ≤ high → (row ≤ next_row rows tracked high i) × (next_row rows tracked high i ≤ high)
  unfolding next_row
  next_row_in_bank {row} {i} w l =
      split (ltb i tracked)
      (λ on. rw on (let r = row_ahead w (ltb-true i tracked on) in (r.0, omega arith)))
      (λ off. rw off (l, omega arith))

  -- the rows before the next tracked one are passed
  pub walk_skip_to : {row i : ℕ} (row' : ℕ) → Walked high rows counts tracked spillover row i → row ≤ row' → row' ≤ next_row rows tracked high i → Walked high rows counts tracked spillover row' i
  unfolding next_row
  walk_skip_to {i = i} row' w l u = walk_skip row' w l (λ more. rw (lt-ltb i tracked more) at u)

  -- their estimate
  pub estimate_skipped : {row i : ℕ} (row' : ℕ) → Walked high rows counts tracked spillover row i → row ≤ row' → row' < next_row rows tracked high i → estimate (read rows counts tracked spillover) row' ≡ spillover
  estimate_skipped row' w l u =
      w.estimates row' l ∙ count_or_below spillover row' (walk_skip_to (suc row') w (omega arith) u).ordered (omega arith)

  estimate_here : {row i : ℕ} → Walked high rows counts tracked spillover row i → i < tracked → get_or rows i 0 ≡ row → estimate (read rows counts tracked spillover) row ≡ get_or counts i 0
  unfolding count_or
  estimate_here {row} {i} w more same =
      w.estimates row (omega arith) ∙ rw (rest_more rows counts tracked i w.rows_long w.counts_long more, eq-eqb (get_or rows i 0) row same)

  walk_past_tracked : {row i : ℕ} → Walked high rows counts tracked spillover row i → i < tracked → get_or rows i 0 ≡ row → Walked high rows counts tracked spillover (row + 1) (i + 1)
  unfolding count_or
  walk_past_tracked {row} {i} w more same =
      let next = rest_more rows counts tracked i w.rows_long w.counts_long more in
      record {
        rows_long = w.rows_long;
        counts_long = w.counts_long;
        within = omega arith;
        ordered = rw (add-one row, ← same) (ordered_parts (rw next at w.ordered)).0;
        estimates =
            λ r h.
            let other : eqb (get_or rows i 0) r ≡ false = ne_eqb (get_or rows i 0) r (λ e. omega arith) in
            w.estimates r (omega arith) ∙ rw (next, other);
      }

  -- a place that is not at the row is behind it
  row_later : {row i : ℕ} → Walked high rows counts tracked spillover row i → at_row rows tracked row i ≡ false → i < tracked → row + 1 ≤ get_or rows i 0
  unfolding at_row
  row_later {row} {i} w off more =
      let other = eqb-false (get_or rows i 0) row (rw (lt-ltb i tracked more) at off) in
      omega (arith, row_ahead w more)

  pub estimate_is : {row i : ℕ} → Walked high rows counts tracked spillover row i → estimate (read rows counts tracked spillover) row ≡ estimate_at rows counts tracked spillover row i
  unfolding estimate_at
  estimate_is {row} {i} w =
      split (at_row rows tracked row i)
      (λ on. rw on (let t = at_row_tracked rows tracked row i on in estimate_here w t.0 t.1))
      (λ off.
      rw off
      (w.estimates row (omega arith) ∙ count_or_below spillover row (walk_skip (row + 1) w (omega arith) (row_later w off)).ordered (omega arith)))

  pub walk_past : {row i : ℕ} → Walked high rows counts tracked spillover row i → Walked high rows counts tracked spillover (row + 1) (place_after rows tracked row i)
  unfolding place_after
  walk_past {row} {i} w =
      split (at_row rows tracked row i)
      (λ on. rw on (let t = at_row_tracked rows tracked row i on in walk_past_tracked w t.0 t.1))
      (λ off. rw off (walk_skip (row + 1) w (omega arith) (row_later w off)))
