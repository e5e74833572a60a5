-- A row is taken out.
use mathlib.Core.Path.{◌≡◌, sym, ◌∙◌}
use mathlib.Core.Logic.{⊎_elim}
use mathlib.Core.List.{List, [], ◌∷◌}
use Prim.Native.Nat.{ℕ, suc, ◌-◌, ◌<◌}
use native.Mathlib.Omega.{arith}
use lib.ListN.{length, get_or, set}
use lib.Seq.{get_or-set_other}
use Rattle.laws.proofs.Cases.{same_or_other}
use Rattle.device.specs.Acceptance.{most_rows}
use Rattle.summary.specs.Entries.{without, without_all}
use Rattle.summary.specs.Steps.{drop_rows}
use Rattle.summary.proofs.Entries.Lengths.{length_without_tracked}
use Rattle.summary.proofs.Steps.Untracked.{drop_untracked}
use Rattle.aids.specs.Marks.{Marked}
use Rattle.aids.proofs.BoundsCapped.{stored_at}
use Rattle.dense.specs.declared.Tally.{Tally}
use Rattle.dense.specs.Dense.{entries_from, dense, Kept}
use Rattle.dense.specs.InnerContracts.{Fewer, Left}
use Rattle.dense.proofs.Dense.EntriesFrom.{row_tracked, row_untracked, stored_zero}
use Rattle.dense.proofs.Dense.Kept.{floor_stored, clear_stored}

-- no number rose: where none changed, where one is 0 then, and over two steps
pub fewer_same : (xs : List ℕ) → Fewer xs xs
fewer_same xs = record { less = λ i. omega arith }

pub fewer_zero : (xs : List ℕ) (row : ℕ) → row < length xs → Fewer xs (set xs row 0)
fewer_zero xs row l =
    record {
      less = λ i.
          ⊎_elim
          (λ same. omega (arith, stored_at xs row 0 i l same))
          (λ other. omega (arith, get_or-set_other xs row i 0 0 other))
          (same_or_other i row);
    }

pub fewer_twice : {xs ys zs : List ℕ} → Fewer xs ys → Fewer ys zs → Fewer xs zs
fewer_twice f g = record { less = λ i. omega (arith, f.less i, g.less i) }

module _ {counts marks : List ℕ} {t : Tally} (kept : Kept counts marks t) (row : ℕ) (l : row < most_rows) where
  -- a row that is not tracked
  pub drop_none : get_or counts row 0 ≡ 0 → Left (drop_rows (row ∷ []) (dense counts t.spillover)) counts counts marks t
  unfolding dense
  drop_none z =
      record {
        kept = kept;
        holds = sym (drop_untracked row (dense counts t.spillover) (row_untracked 0 row row counts (omega arith) z));
        fewer = fewer_same counts;
      }

  -- a tracked row
  pub drop_count : 0 < get_or counts row 0 → suc (length (without row (entries_from 0 counts))) ≡ t.tracked
  drop_count p = length_without_tracked row (entries_from 0 counts) (row_tracked 0 row row counts (omega arith) p) ∙ sym kept.counted

  pub drop_some : {counts' marks' : List ℕ} → 0 < get_or counts row 0 → counts' ≡ set counts row 0 → Marked counts' marks' →
      Left (drop_rows (row ∷ []) (dense counts t.spillover)) counts counts' marks' (record { tracked = t.tracked - 1; spillover = t.spillover; hint = t.hint })
  unfolding dense drop_rows without_all
  drop_some {counts'} p e m =
      let long : row < length counts = omega (arith, kept.marked.counts_long) in
      let es : entries_from 0 counts' ≡ without row (entries_from 0 counts) = rw e (stored_zero 0 row row counts (omega arith)) in
      record {
        kept =
            record {
              marked = m;
              counted = rw es (omega (arith, drop_count p));
              floor = rw e (floor_stored counts row 0 long kept.floor (λ q. absurd (omega arith)));
              clear = λ pos. rw e (clear_stored counts row 0 long (kept.clear pos) (λ q. omega arith));
            };
        holds = rw es;
        fewer = rw e (fewer_zero counts row long);
      }
