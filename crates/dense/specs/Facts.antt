-- The rows in a bank's table ascend, as its `Ledger` says. Nobody has to believe it: antt checks it.
use mathlib.Core.Logic.{⊎_elim}
use mathlib.Core.List.{List, [], ◌∷◌}
use mathlib.Core.Path.{◌≡◌}
use Prim.Native.Nat.{ℕ, zero, suc, ◌+◌, ◌≤◌}
use native.Mathlib.Omega.{arith}
use lib.ListN.{get_or}
use Rattle.laws.proofs.Cases.{le_or_lt}
use Rattle.summary.specs.Rules.{Ordered, ordered_none, ordered_more}
use Rattle.summary.proofs.Rules.Order.{ordered_from}
use Rattle.dense.specs.declared.Tally.{Tally}
use Rattle.dense.specs.Dense.{entries_from, dense, Bank}

-- rows from the bank's end on have no count: the tracked rows ascend below it
ordered_rows : (high k : ℕ) (counts : List ℕ) → ((i : ℕ) → high ≤ k + i → get_or counts i 0 ≡ 0) → Ordered high k (entries_from k counts)
unfolding entries_from
ordered_rows high k [] none = ordered_none
ordered_rows high k (zero ∷ counts) none = ordered_from k (ordered_rows high (suc k) counts (λ i h. none (suc i) (omega arith))) (omega arith)
ordered_rows high k (suc c ∷ counts) none =
    ordered_more k (record { row = k; count = suc c }) (ordered_rows high (suc k) counts (λ i h. none (suc i) (omega arith))) (omega arith)
    (⊎_elim (λ past. absurd (omega (arith, none 0 (omega arith)))) (λ below. below) (le_or_lt high k))

pub bank_ordered : {rows counters : ℕ} {counts marks bounds : List ℕ} {t : Tally} → Bank rows counters counts marks bounds t → Ordered rows 0 (dense counts t.spillover).entries
unfolding dense
bank_ordered {rows} {counts = counts} b = ordered_rows rows 0 counts (λ i h. b.inside.zero_at i (omega arith))
