-- What each function does to two tables that hold a summary: the place that was found, and the summary that they hold then.
use mathlib.Core.Path.{◌≡◌, refl, ap, sym, ◌∙◌}
use mathlib.Core.Bool.{true, false}
use mathlib.Core.List.{List, [], ◌∷◌}
use Prim.Native.Nat.{ℕ, ◌+◌, ◌-◌, ◌≤◌, ◌<◌}
use native.Mathlib.Nat.{sub-zero}
use native.Mathlib.Omega.{arith}
use borrow.Author.Tests.{lt-ltb, le-ltb}
use lib.ListN.{length, replicate, get_or, take, set}
use Rattle.tables.specs.InnerContracts.{lower_place, equal_place, put_in, taken_at}
use Rattle.tables.proofs.Searches.{lower_place_le}
use Rattle.summary.specs.Entries.{rows_of, counts_of, has, without_all, has_count, without_count}
use Rattle.summary.specs.Steps.{Summary, disturb, drop_rows, empty, enter, raise, make_room, spill}
use Rattle.summary.specs.Tables.{table}
use Rattle.summary.specs.InnerContracts.{Holds}
use Rattle.summary.proofs.InnerContracts.Holds.{held_read, used_rows, used_counts, row_at_place, count_at_place, holds_taken, holds_put, holds_set}
use Rattle.summary.proofs.Steps.Disturb.{disturb_exchange}
use Rattle.summary.proofs.Entries.Lengths.{length_rows}
use Rattle.summary.proofs.Entries.Tracked.{without_untracked}
use Rattle.summary.proofs.Entries.Columns.{equal_place_at, has_place, rows_without, counts_without, rows_raised, counts_raised, has_count_place, rows_without_count, counts_without_count, rows_entered, counts_entered}
use Rattle.summary.proofs.Rules.Sound.{sound_drop, sound_enter, sound_without_count, sound_raise, sound_spill, sound_empty}

module _ {places high : ℕ} {sum : Summary} {rows counts : List ℕ} {k spillover : ℕ} (h : Holds places high sum rows counts k spillover) where
  -- whether a row, or a count, is there, by the place that was found
  pub has_found : (row p : ℕ) → p ≡ equal_place row (take k rows) → p < k → has row sum.entries ≡ true
  has_found row p e less =
      has_place row sum.entries ∙
      lt-ltb (equal_place row (rows_of sum.entries)) (length sum.entries) (omega (arith, rw (used_rows h) at e, h.tracked_is))

  pub has_missed : (row p : ℕ) → p ≡ equal_place row (take k rows) → k ≤ p → has row sum.entries ≡ false
  has_missed row p e past =
      has_place row sum.entries ∙
      le-ltb (equal_place row (rows_of sum.entries)) (length sum.entries) (omega (arith, rw (used_rows h) at e, h.tracked_is))

  count_found : (count q : ℕ) → q ≡ equal_place count (take k counts) → q < k → has_count count sum.entries ≡ true
  count_found count q e less =
      has_count_place count sum.entries ∙
      lt-ltb (equal_place count (counts_of sum.entries)) (length sum.entries) (omega (arith, rw (used_counts h) at e, h.tracked_is))

  pub count_missed : (count q : ℕ) → q ≡ equal_place count (take k counts) → k ≤ q → has_count count sum.entries ≡ false
  count_missed count q e past =
      has_count_place count sum.entries ∙
      le-ltb (equal_place count (counts_of sum.entries)) (length sum.entries) (omega (arith, rw (used_counts h) at e, h.tracked_is))

  pub place_le : (row p : ℕ) → p ≡ lower_place row (take k rows) → p ≤ k
  place_le row p e =
      omega (arith, rw (used_rows h) at e, lower_place_le row (rows_of sum.entries), length_rows sum.entries, h.tracked_is)

  -- a tracked row is holds-drop
  pub holds_drop : (row p : ℕ) → p ≡ equal_place row (take k rows) → p < k → Holds places high (drop_rows (row ∷ []) sum) (taken_at rows k p) (taken_at counts k p) (k - 1) spillover
  unfolding drop_rows without_all
  holds_drop row p e less =
      let at = rw (used_rows h) at e in
      let tracked = has_found row p e less in
      holds_taken h (drop_rows (row ∷ []) sum) (sound_drop (row ∷ []) h.sound) refl p less
      (rw at (rows_without row sum.entries tracked))
      (rw at (counts_without row sum.entries tracked))

  -- the row at a place stands there first
  pub place_named : (at : ℕ) → at < k → at ≡ equal_place (get_or rows at 0) (take k rows)
  place_named at less = rw (row_at_place h at less, used_rows h) (sym (equal_place_at h.sound.ordered at (omega (arith, h.tracked_is))))

  pub holds_remove : (at : ℕ) → at < k → Holds places high (drop_rows (get_or rows at 0 ∷ []) sum) (taken_at rows k at) (taken_at counts k at) (k - 1) spillover
  holds_remove at less = holds_drop (get_or rows at 0) at (place_named at less) less

  pub holds_drop_untracked : (row p : ℕ) → p ≡ equal_place row (take k rows) → k ≤ p → Holds places high (drop_rows (row ∷ []) sum) rows counts k spillover
  unfolding drop_rows without_all
  holds_drop_untracked row p e past = rw (without_untracked row sum.entries (has_missed row p e past)) h

  -- a row is entered
  pub holds_enter : (row p : ℕ) → p ≡ lower_place row (take k rows) → has row sum.entries ≡ false → k < places → row < high → Holds places high (enter row sum) (put_in rows k p row) (put_in counts k p (spillover + 1)) (k + 1) spillover
  holds_enter row p e untracked room less =
      let at = rw (used_rows h) at e in
      holds_put h (enter row sum) (sound_enter row sum less untracked (omega (arith, h.tracked_is)) h.sound) refl p row (spillover + 1)
      (place_le row p e)
      room
      (rw at (rows_entered row (sum.spillover + 1) h.sound.ordered untracked))
      (rw (at, h.spillover_is) (counts_entered row (sum.spillover + 1) h.sound.ordered untracked))

  -- a count rises
  pub holds_raise : (row p : ℕ) → p ≡ equal_place row (take k rows) → p < k → Holds places high (raise row sum) rows (set counts p (get_or counts p 0 + 1)) k spillover
  holds_raise row p e less =
      let at = rw (used_rows h) at e in
      holds_set h (raise row sum) (sound_raise row sum h.sound) refl p (get_or counts p 0 + 1) less
      (rows_raised row sum.entries)
      (rw (count_at_place h p less, at) (counts_raised row sum.entries))

  -- the first row of a count makes room
  holds_without_count : (count q : ℕ) → q ≡ equal_place count (take k counts) → q < k → Holds places high (record { entries = without_count count sum.entries; spillover = sum.spillover }) (taken_at rows k q) (taken_at counts k q) (k - 1) spillover
  holds_without_count count q e less =
      let at = rw (used_counts h) at e in
      let low = count_found count q e less in
      holds_taken h (record { entries = without_count count sum.entries; spillover = sum.spillover }) (sound_without_count count sum low h.sound) refl q less
      (rw at (rows_without_count count sum.entries low))
      (rw at (counts_without_count count sum.entries low))

  -- so the row at its place is the one that makes room
  pub room_made : (q : ℕ) → q ≡ equal_place spillover (take k counts) → q < k → drop_rows (get_or rows q 0 ∷ []) sum ≡ make_room sum
  room_made q e less = sym (held_read (holds_remove q less)) ∙ held_read (holds_without_count spillover q e less) ∙ ap (λ (n : ℕ). record { entries = without_count n sum.entries; spillover = sum.spillover }) h.spillover_is

  pub made_room_enters : (row q : ℕ) → q ≡ equal_place spillover (take k counts) → q < k → has row sum.entries ≡ false → k ≡ places → enter row (drop_rows (get_or rows q 0 ∷ []) sum) ≡ disturb places row sum
  made_room_enters row q e less untracked full =
      let low : has_count sum.spillover sum.entries ≡ true = rw h.spillover_is at (count_found spillover q e less) in
      ap (λ (s : Summary). enter row s) (room_made q e less) ∙ sym (disturb_exchange places row sum untracked (omega (arith, h.tracked_is)) low)

  -- the row at the place that was found is the row
  pub same_drop : (row p : ℕ) → p ≡ equal_place row (take k rows) → p < k → drop_rows (get_or rows p 0 ∷ []) sum ≡ drop_rows (row ∷ []) sum
  same_drop row p e less = sym (held_read (holds_remove p less)) ∙ held_read (holds_drop row p e less)

  -- the spillover rises
  pub holds_spill : has_count sum.spillover sum.entries ≡ false → Holds places high (spill sum) rows counts k (spillover + 1)
  holds_spill up =
      record {
        rows_laid = h.rows_laid;
        counts_laid = h.counts_laid;
        tracked_is = h.tracked_is;
        spillover_is = omega (arith, h.spillover_is);
        sound = sound_spill sum up h.sound;
      }

-- cleared tables hold the empty summary
pub holds_empty : (places : ℕ) {rows counts : List ℕ} → rows ≡ replicate places 0 → counts ≡ replicate places 0 → Holds places 4294967296 empty rows counts 0 0
unfolding empty table rows_of counts_of
holds_empty places er ec =
    record { rows_laid = rw (er, sub-zero places); counts_laid = rw (ec, sub-zero places); tracked_is = refl; spillover_is = refl; sound = sound_empty }
