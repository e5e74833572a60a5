-- A bank's summary is disturbed by a row; and a bank that tracks nothing.
use mathlib.Core.Path.{◌≡◌, sym, ◌∙◌}
use mathlib.Core.List.{List, []}
use Prim.Native.Nat.{ℕ, ◌+◌, ◌≤◌, ◌<◌}
use native.Mathlib.Omega.{arith}
use lib.ListN.{length, get_or, set, replicate}
use lib.Seq.{get_or-set_same, get_or-set_other}
use Rattle.device.specs.Acceptance.{most_rows}
use Rattle.summary.specs.Entries.{raised}
use Rattle.summary.specs.Steps.{empty, disturb}
use Rattle.summary.specs.Rules.{RoomFor}
use Rattle.summary.proofs.Entries.Lengths.{length_raised}
use Rattle.summary.proofs.Steps.Disturb.{disturb_raise}
use Rattle.aids.specs.Marks.{Marked, EmptyFrom}
use Rattle.aids.specs.Bounds.{all_bounds, Covers}
use Rattle.aids.proofs.BoundsCapped.{capped_covered, capped_none}
use Rattle.dense.specs.declared.Tally.{Tally}
use Rattle.dense.specs.Dense.{entries_from, dense, Bank}
use Rattle.dense.specs.InnerContracts.{DisturbedIn, Turned}
use Rattle.dense.proofs.Dense.EntriesFrom.{row_tracked, stored_more, none_tracked, count_under}
use Rattle.dense.proofs.Dense.Kept.{floor_stored, clear_stored, empty_stored, marked_stored}

-- where there is room for one more, no count and no spillover is the highest number
pub room_one : (counts : List ℕ) (spillover row : ℕ) → RoomFor 1 (dense counts spillover) → (get_or counts row 0 < 4294967295) × (spillover < 4294967295)
unfolding dense
room_one counts spillover row r = (omega (arith, count_under 4294967294 0 row counts r.counts), omega (arith, r.spillover_le))

module _ {rows counters row : ℕ} {counts marks bounds : List ℕ} {t : Tally} (bank : Bank rows counters counts marks bounds t) (in_bank : row < rows) where
  -- a tracked row
  pub turned_raised : {bounds' : List ℕ} → 0 < get_or counts row 0 → Covers bounds bounds' row (get_or counts row 0 + 1) →
      Turned rows counters (disturb counters row (dense counts t.spillover)) (set counts row (get_or counts row 0 + 1)) marks bounds' t
  unfolding dense
  turned_raised {bounds'} p covers =
      let v = get_or counts row 0 + 1 in
      let kept = bank.kept in
      let s = t.spillover in
      let long : row < length counts = omega (arith, kept.marked.counts_long, bank.most) in
      let es : entries_from 0 (set counts row v) ≡ raised row (entries_from 0 counts) = stored_more 0 row row counts (omega arith) p in
      let here : get_or (set counts row v) row 0 ≡ v = get_or-set_same counts row v 0 long in
      record {
        bank =
            record {
              kept =
                  record {
                    marked = marked_stored counts row v long kept.marked p;
                    counted = rw es (kept.counted ∙ sym (length_raised row (entries_from 0 counts)));
                    floor = floor_stored counts row v long kept.floor (λ q. omega (arith, kept.floor row p));
                    clear = λ pos. clear_stored counts row v long (kept.clear pos) (λ q. omega (arith, kept.floor row p));
                  };
              capped =
                  capped_covered bank.capped
                  (λ i other. omega (arith, get_or-set_other counts row i v 0 other))
                  (rw here covers);
              inside = empty_stored counts row v long bank.inside (λ h. absurd (omega arith));
              most = bank.most;
              fits = bank.fits;
            };
        holds = rw es (sym (disturb_raise counters row (dense counts s) (row_tracked 0 row row counts (omega arith) p)));
      }

  -- a row that was not tracked
  pub turned_disturbed : {counts' marks' bounds' : List ℕ} {t' : Tally} →
      DisturbedIn rows counters row (dense counts t.spillover) counts counts' marks' t' → Covers bounds bounds' row (get_or counts' row 0) →
      Turned rows counters (disturb counters row (dense counts t.spillover)) counts' marks' bounds' t'
  turned_disturbed d covers =
      record {
        bank =
            record {
              kept = d.kept;
              capped = capped_covered bank.capped d.others covers;
              inside = d.inside;
              most = bank.most;
              fits = d.fits;
            };
        holds = d.holds;
      }

-- all counts are 0, and all bounds
pub turned_empty : {counts marks bounds : List ℕ} → EmptyFrom counts 0 → Marked counts marks → bounds ≡ replicate all_bounds 0 → (rows counters : ℕ) →
    rows ≤ most_rows → Turned rows counters empty counts marks bounds (record { tracked = 0; spillover = 0; hint = 0 })
unfolding dense empty
turned_empty {counts} none m e rows counters h =
    let zeros : (i : ℕ) → get_or counts i 0 ≡ 0 = λ i. none.zero_at i (omega arith) in
    let es : entries_from 0 counts ≡ [] = none_tracked 0 counts zeros in
    record {
      bank =
          record {
            kept =
                record {
                  marked = m;
                  counted = rw es;
                  floor = λ row p. omega arith;
                  clear = λ pos. absurd (omega arith);
                };
            capped = capped_none zeros e;
            inside = record { zero_at = λ i p. zeros i };
            most = h;
            fits = omega arith;
          };
      holds = rw es;
    }
