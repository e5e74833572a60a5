-- `dense::RowTable` drops a row.
use mathlib.Core.Path.{refl}
use mathlib.Core.List.{[], ◌∷◌}
use native.Mathlib.Omega.{arith}
use Rattle.dense.proofs.Bridge.{bank_dropped}
use Rattle.dense.proofs.InnerContracts.Left.{drop_none, drop_count, drop_some}
use Rattle.dense.proofs.Keeping.{turns}
use Rattle.dense.proofs.RowTableLedger.drop_row.Goals as goal

pub overflow_sub-self : goal.overflow_sub-self
overflow_sub-self c =
    let bank = c.requires.0 in
    omega (arith, drop_count bank.kept c.args.row (omega (arith, c.requires.1, bank.most)) (omega (arith, c.if-self-row-ne0.true)))

pub returns-then-self-row-ne0 : goal.returns-then-self-row-ne0
returns-then-self-row-ne0 c =
    let bank = c.requires.0 in
    let e = c.remove.ensures in
    let left = drop_some bank.kept c.args.row (omega (arith, c.requires.1, bank.most)) (omega (arith, c.if-self-row-ne0.true)) e.counts_after e.marked in
    turns (bank_dropped (c.args.row ∷ []) bank left) refl refl (refl, refl, refl)

pub returns-else-self-row-ne0 : goal.returns-else-self-row-ne0
returns-else-self-row-ne0 c =
    let bank = c.requires.0 in
    let left = drop_none bank.kept c.args.row (omega (arith, c.requires.1, bank.most)) (omega (arith, c.if-self-row-ne0.false)) in
    turns (bank_dropped (c.args.row ∷ []) bank left) refl refl (refl, refl, refl)
