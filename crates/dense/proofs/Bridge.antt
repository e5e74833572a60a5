-- `Bank`: the summary in its table breaks no rule of a summary, and a bank from which rows were dropped is one.
use mathlib.Core.Path.{◌≡◌, sym, ap, ◌∙◌}
use mathlib.Core.List.{List, [], ◌∷◌}
use Prim.Native.Nat.{ℕ, zero, suc, ◌≤◌, ◌<◌}
use native.Mathlib.Omega.{arith}
use lib.ListN.{length, get_or}
use Rattle.summary.specs.Steps.{Summary, drop_rows}
use Rattle.summary.specs.Rules.{Floor, floor_none, floor_more, Sound}
use Rattle.summary.proofs.Entries.Lengths.{length_without_all}
use Rattle.aids.specs.Bounds.{Capped}
use Rattle.aids.proofs.BoundsCapped.{capped_fewer}
use Rattle.dense.specs.declared.Tally.{Tally}
use Rattle.dense.specs.Dense.{entries_from, dense, Bank}
use Rattle.dense.specs.Facts.{bank_ordered}
use Rattle.dense.specs.InnerContracts.{Left, Turned}

-- a number that no row's count is below
floor_rows : (low k : ℕ) (counts : List ℕ) → ((i : ℕ) → 0 < get_or counts i 0 → low ≤ get_or counts i 0) → Floor low (entries_from k counts)
unfolding entries_from
floor_rows low k [] above = floor_none
floor_rows low k (zero ∷ counts) above = floor_rows low (suc k) counts (λ i h. above (suc i) h)
floor_rows low k (suc c ∷ counts) above =
    floor_more (record { row = k; count = suc c }) (floor_rows low (suc k) counts (λ i h. above (suc i) h)) (above 0 (omega arith))

-- so the summary in a bank's table is sound
pub bank_sound : {rows counters : ℕ} {counts marks bounds : List ℕ} {t : Tally} → Bank rows counters counts marks bounds t → Sound rows counters (dense counts t.spillover)
unfolding dense
bank_sound {rows} {counts = counts} {t = t} b =
    record {
      floor = floor_rows t.spillover 0 counts b.kept.floor;
      positive = floor_rows 1 0 counts (λ i h. h);
      ordered = bank_ordered b;
      fits = omega (arith, b.kept.counted, b.fits);
    }

-- rows are dropped from a bank, whose bounds may change with it
pub bank_dropped_under : (names : List ℕ) {rows counters : ℕ} {counts marks bounds : List ℕ} {t : Tally} → Bank rows counters counts marks bounds t → {counts' marks' bounds' : List ℕ} {t' : Tally} → Left (drop_rows names (dense counts t.spillover)) counts counts' marks' t' → Capped counts' bounds' → Turned rows counters (drop_rows names (dense counts t.spillover)) counts' marks' bounds' t'
unfolding dense drop_rows
bank_dropped_under names {counts = counts} b l capped =
    record {
      bank =
          record {
            kept = l.kept;
            capped = capped;
            inside = record { zero_at = λ i h. omega (arith, b.inside.zero_at i h, l.fewer.less i) };
            most = b.most;
            fits = omega (arith, b.fits, b.kept.counted, l.kept.counted, ap (λ (s : Summary). length s.entries) l.holds, length_without_all names (entries_from 0 counts));
          };
      holds = l.holds;
    }

-- or stay as they were
pub bank_dropped : (names : List ℕ) {rows counters : ℕ} {counts marks bounds : List ℕ} {t : Tally} → Bank rows counters counts marks bounds t → {counts' marks' : List ℕ} {t' : Tally} → Left (drop_rows names (dense counts t.spillover)) counts counts' marks' t' → Turned rows counters (drop_rows names (dense counts t.spillover)) counts' marks' bounds t'
bank_dropped names b l = bank_dropped_under names b l (capped_fewer b.capped l.fewer.less)

-- two banks' tables have the same lengths
module _ {rows counters : ℕ} {counts marks bounds : List ℕ} {t : Tally} (b : Bank rows counters counts marks bounds t) {counts' marks' bounds' : List ℕ} {t' : Tally} (b' : Bank rows counters counts' marks' bounds' t') where
  pub same_counts : length counts' ≡ length counts
  same_counts = b'.kept.marked.counts_long ∙ sym b.kept.marked.counts_long

  pub same_marks : length marks' ≡ length marks
  same_marks = b'.kept.marked.marks_long ∙ sym b.kept.marked.marks_long

  pub same_bounds : length bounds' ≡ length bounds
  same_bounds = b'.capped.nested.bounds_long ∙ sym b.capped.nested.bounds_long
