-- What a function makes of a `RowTable`, from what its slices hold then.
use mathlib.Core.Path.{◌≡◌, refl, sym, ◌∙◌}
use mathlib.Core.List.{List, [], ◌∷◌}
use Prim.Native.Nat.{ℕ, ◌<◌}
use native.Mathlib.Omega.{arith}
use Rattle.tables.specs.InnerContracts.{highest_place}
use Rattle.summary.specs.Entries.{picks, without_all}
use Rattle.summary.specs.Rules.{Below, below_none, below_more}
use Rattle.summary.specs.InnerContracts.{picked_out}
use Rattle.summary.specs.Ledger.{named}
use Rattle.summary.proofs.Entries.Picks.{picks_none, picks_below}
use Rattle.std.specs.Prelude.{Some, None}
use Rattle.summary.specs.Steps.{Summary, drop_rows}
use Rattle.dense.specs.declared.Tally.{Tally}
use Rattle.dense.specs.Dense.{entries_from, dense, Bank}
use Rattle.dense.specs.InnerContracts.{Turned}
use Rattle.dense.proofs.Bridge.{bank_sound}
use Rattle.dense.proofs.Dense.EntriesFrom.{picked_one}
use Rattle.dense.specs.Kept.{held, same_memory, Turns}
use Rattle.dense.specs.declared.RowTable.{RowTable}

pub same_through : (a b c : RowTable) → same_memory a b → same_memory b c → same_memory a c
same_through a b c x y = (y.0 ∙ x.0, y.1 ∙ x.1, y.2 ∙ x.2)

module _ {a b : RowTable} {step : Summary → Summary} where
  pub turns : Turned a.rows a.counters (step (held a)) b.counts.now b.marks.now b.bounds.now b.tally → b.rows ≡ a.rows → b.counters ≡ a.counters → same_memory a b → Turns step a b
  turns x r c m = record { keeps = rw (r, c) x.bank; holds = x.holds; as_many = c; one_bank = r; one_memory = m }

first_below : {high row : ℕ} {rows : List ℕ} → Below high rows → rows ≡ row ∷ [] → row < high
first_below below_none e = cc
first_below (below_more row b l) e = let same : row ≡ _ = cc in rw same at l

module _ {rows counters : ℕ} {counts marks bounds : List ℕ} {t : Tally} (b : Bank rows counters counts marks bounds t) where
  -- the first row of the highest count is the one that is picked, and is one of the bank's
  module _ {row : ℕ} (p : 0 < t.tracked) (e : row ≡ highest_place counts) where
    top_list : row ∷ [] ≡ picks 1 (dense counts t.spillover).entries
    unfolding dense
    top_list = rw e (picked_one counts (entries_from 0 counts) refl (omega (arith, b.kept.counted)))

    pub top_picked : named (Some row) ≡ picks 1 (dense counts t.spillover).entries
    unfolding named
    top_picked = top_list

    pub top_inside : row < rows
    top_inside = first_below (picks_below 1 _ (bank_sound b).ordered) (sym top_list)

    pub top_dropped : {sum : Summary} {counts' : List ℕ} → sum ≡ drop_rows (row ∷ []) (dense counts' t.spillover) → counts' ≡ counts → sum ≡ picked_out 1 (dense counts t.spillover)
    top_dropped h same = h ∙ rw (same, top_list) refl

  -- none is, where no row is tracked
  module _ (z : t.tracked ≡ 0) where
    none_list : [] ≡ picks 1 (dense counts t.spillover).entries
    unfolding dense
    none_list = sym (picks_none 1 (entries_from 0 counts) (omega (arith, b.kept.counted)))

    pub none_picked : named None ≡ picks 1 (dense counts t.spillover).entries
    unfolding named
    none_picked = none_list

    pub none_dropped : dense counts t.spillover ≡ picked_out 1 (dense counts t.spillover)
    unfolding drop_rows without_all
    none_dropped = rw (← none_list) refl
