-- A row that is not tracked is disturbed: it is entered where a place is free; else the first row at the spillover makes room, or the spillover rises.
use mathlib.Core.Path.{◌≡◌, refl, sym}
use mathlib.Core.Bool.{false, true}
use mathlib.Core.Logic.{⊎_elim}
use mathlib.Core.List.{List}
use Prim.Native.Nat.{ℕ, suc, ◌+◌, ◌≤◌, ◌<◌}
use native.Mathlib.Omega.{arith}
use native.Mathlib.Numerals.{add-one}
use lib.ListN.{length, get_or, set, get_or-eq_default}
use lib.Seq.{get_or-set_other}
use Rattle.laws.proofs.Cases.{le_or_lt, same_or_other}
use Rattle.device.specs.Acceptance.{most_rows}
use Rattle.tables.specs.InnerContracts.{equal_place}
use Rattle.summary.specs.Entries.{entered, has_count, without_count}
use Rattle.summary.proofs.Entries.Lengths.{length_entered, length_without_count}
use Rattle.summary.proofs.Steps.Disturb.{disturb_enter, disturb_exchange, disturb_spill}
use Rattle.aids.specs.Marks.{Marked, Clear, EmptyFrom}
use Rattle.dense.specs.declared.Tally.{Tally}
use Rattle.dense.specs.Dense.{entries_from, dense, Kept}
use Rattle.dense.specs.InnerContracts.{Fewer, DisturbedIn}
use Rattle.dense.proofs.Dense.EntriesFrom.{row_untracked, stored_new, count_there, count_nowhere, room_made, none_zero}
use Rattle.dense.proofs.Dense.Kept.{before_first, at_first, floor_stored, clear_stored, empty_stored}
use Rattle.dense.proofs.InnerContracts.Left.{fewer_zero}

module _ {counts marks : List ℕ} {t : Tally} (kept : Kept counts marks t) {rows row : ℕ} (inside : EmptyFrom counts rows) (in_most : rows ≤ most_rows) (in_bank : row < rows) (z : get_or counts row 0 ≡ 0) where
  -- a place is free
  pub enter_free : (counters : ℕ) {counts' marks' : List ℕ} → t.tracked < counters → counts' ≡ set counts row (t.spillover + 1) →
      Marked counts' marks' →
      DisturbedIn rows counters row (dense counts t.spillover) counts counts' marks' (record { tracked = t.tracked + 1; spillover = t.spillover; hint = t.hint })
  unfolding dense
  enter_free counters {counts'} free e m =
      let s = t.spillover in
      let long : row < length counts = omega (arith, kept.marked.counts_long) in
      let es : entries_from 0 counts' ≡ entered row (s + 1) (entries_from 0 counts) =
      rw (e, add-one s) (stored_new 0 row row s counts (omega arith) long z) in
      record {
        kept =
            record {
              marked = m;
              counted = rw es (omega (arith, kept.counted, length_entered row (s + 1) (entries_from 0 counts)));
              floor = rw e (floor_stored counts row (s + 1) long kept.floor (λ q. omega arith));
              clear = λ pos. rw e (clear_stored counts row (s + 1) long (kept.clear pos) (λ q. omega arith));
            };
        holds =
            rw es
            (sym (disturb_enter counters row (dense counts s) (row_untracked 0 row row counts (omega arith) z) (omega (arith, kept.counted))));
        inside = rw e (empty_stored counts row (s + 1) long inside (λ h. absurd (omega arith)));
        fits = omega arith;
        others = λ i other. rw e (omega (arith, get_or-set_other counts row i (s + 1) 0 other));
      }

  -- no place is free, and no row is at the spillover
  spill_up : has_count t.spillover (entries_from 0 counts) ≡ false → ((i : ℕ) → get_or counts i 0 ≡ t.spillover → 0 < get_or counts i 0 → ⊥) →
      DisturbedIn rows t.tracked row (dense counts t.spillover) counts counts marks (record { tracked = t.tracked; spillover = t.spillover + 1; hint = 0 })
  unfolding dense
  spill_up up none =
      let s = t.spillover in
      record {
        kept =
            record {
              marked = kept.marked;
              counted = kept.counted;
              floor = λ i p.
                  ⊎_elim
                  (λ same. absurd (none i same p))
                  (λ other. omega (arith, kept.floor i p))
                  (same_or_other (get_or counts i 0) s);
              clear = λ pos. record { none = λ i q e. omega arith };
            };
        holds =
            sym
            (disturb_spill t.tracked row (dense counts s) (row_untracked 0 row row counts (omega arith) z) (omega (arith, kept.counted)) up);
        inside = inside;
        fits = omega arith;
        others = λ i other. omega arith;
      }

  pub spill_zero : t.spillover ≡ 0 → DisturbedIn rows t.tracked row (dense counts t.spillover) counts counts marks (record { tracked = t.tracked; spillover = 1; hint = 0 })
  spill_zero e =
      let one : t.spillover + 1 ≡ 1 = omega arith in
      rw one at (spill_up (rw e (none_zero 0 counts)) (λ i q p. omega arith))

  pub spill_nowhere : 0 < t.spillover → length counts ≡ equal_place t.spillover counts →
      DisturbedIn rows t.tracked row (dense counts t.spillover) counts counts marks (record { tracked = t.tracked; spillover = t.spillover + 1; hint = 0 })
  spill_nowhere pos e =
      let s = t.spillover in
      let all : length counts ≤ equal_place s counts = omega arith in
      spill_up (count_nowhere s counts pos all)
      (λ i q p.
      ⊎_elim
      (λ here. before_first s counts i (omega arith) q)
      (λ past. let nothing = get_or-eq_default counts 0 {n = i} (omega arith) in omega arith)
      (le_or_lt (suc i) (length counts)))

  -- the row that was found is tracked
  pub found_row : (found : ℕ) → 0 < t.spillover → found < length counts → found ≡ equal_place t.spillover counts → (found < most_rows) × (0 < get_or counts found 0)
  found_row found pos less at =
      let here : get_or counts found 0 ≡ t.spillover = rw at (at_first t.spillover counts (omega arith)) in
      (omega (arith, kept.marked.counts_long), omega arith)

  -- no place is free, and the first row at the spillover makes room
  pub exchange : (found : ℕ) {counts₁ marks₁ counts₂ marks₂ : List ℕ} → 0 < t.spillover → found ≡ equal_place t.spillover counts →
      found < most_rows → counts₁ ≡ set counts found 0 → Marked counts₁ marks₁ → counts₂ ≡ set counts₁ row (t.spillover + 1) → Marked counts₂ marks₂ →
      DisturbedIn rows t.tracked row (dense counts t.spillover) counts counts₂ marks₂ (record { tracked = t.tracked; spillover = t.spillover; hint = found })
  unfolding dense
  exchange found {counts₁} {marks₁} {counts₂} pos at less e₁ m₁ e₂ m₂ =
      let s = t.spillover in
      let long : found < length counts = omega (arith, kept.marked.counts_long) in
      let long₁ : row < length counts₁ = omega (arith, m₁.counts_long) in
      let there : has_count s (entries_from 0 counts) ≡ true = count_there s counts pos (omega arith) in
      let es₁ : entries_from 0 counts₁ ≡ without_count s (entries_from 0 counts) = rw (e₁, at) (room_made s counts pos) in
      let fewer₁ : Fewer counts counts₁ = rw e₁ (fewer_zero counts found long) in
      let es₂ : entries_from 0 counts₂ ≡ entered row (s + 1) (without_count s (entries_from 0 counts)) =
      rw (e₂, ← es₁, add-one s) (stored_new 0 row row s counts₁ (omega arith) long₁ (omega (arith, fewer₁.less row))) in
      let clear₀ : Clear counts s found = record { none = λ i h e. before_first s counts i (omega arith) e } in
      let clear₁ : Clear counts₁ s found = rw e₁ (clear_stored counts found 0 long clear₀ (λ q. omega arith)) in
      let floor₁ : (i : ℕ) → 0 < get_or counts₁ i 0 → s ≤ get_or counts₁ i 0 =
      rw e₁ (floor_stored counts found 0 long kept.floor (λ q. absurd (omega arith))) in
      let inside₁ : EmptyFrom counts₁ rows = rw e₁ (empty_stored counts found 0 long inside (λ h. refl)) in
      record {
        kept =
            record {
              marked = m₂;
              counted =
                  rw es₂
                  (omega (arith, kept.counted, length_entered row (s + 1) (without_count s (entries_from 0 counts)), length_without_count s (entries_from 0 counts) there));
              floor = rw e₂ (floor_stored counts₁ row (s + 1) long₁ floor₁ (λ q. omega arith));
              clear = λ p. rw e₂ (clear_stored counts₁ row (s + 1) long₁ clear₁ (λ q. omega arith));
            };
        holds =
            rw es₂
            (sym (disturb_exchange t.tracked row (dense counts s) (row_untracked 0 row row counts (omega arith) z) (omega (arith, kept.counted)) there));
        inside = rw e₂ (empty_stored counts₁ row (s + 1) long₁ inside₁ (λ h. absurd (omega arith)));
        fits = omega arith;
        others = λ i other. rw e₂ (omega (arith, get_or-set_other counts₁ row i (s + 1) 0 other, fewer₁.less i));
      }
