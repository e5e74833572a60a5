-- `summary::TableLedger::take_top` meets its contract: the first place of the highest count is the picked entry's.
use Rattle.std.proofs.Common.{refl, sym, ap, List, ℕ, ◌≡◌, ◌<◌}
use native.Mathlib.Omega.{arith}
use Rattle.summary.specs.Entries.{without_all}
use Rattle.summary.specs.Steps.{drop_rows}
use Rattle.summary.specs.Ledger.{named}
use Rattle.summary.specs.Kept.{held}
use Rattle.summary.proofs.Entries.Picks.{picks_none}
use Rattle.summary.proofs.InnerContracts.Holds.{tracked_le}
use Rattle.summary.proofs.InnerContracts.Picking.{top_inside, top_named}
use Rattle.summary.proofs.Turned.{turned_as}
use Rattle.summary.proofs.TableLedger.take_top.Goals as goal

pub returns-then-self-eq0-clause-row : goal.returns-then-self-eq0-clause-row
unfolding named
returns-then-self-eq0-clause-row c = let a = c.args.self.now in sym (picks_none 1 (held a).entries (omega (arith, a.tracks.tracked_is, c.if-self-eq0.true)))

pub returns-then-self-eq0-clause-turned : goal.returns-then-self-eq0-clause-turned
unfolding drop_rows without_all
returns-then-self-eq0-clause-turned c =
    let a = c.args.self.now in
    let none = picks_none 1 (held a).entries (omega (arith, a.tracks.tracked_is, c.if-self-eq0.true)) in
    record { keeps = tt; holds = rw none; as_many = refl; one_bank = refl; one_memory = (refl, refl) }

some : {n : ℕ} → (n ≡ 0 → ⊥) → 0 < n
some {n} other = omega (arith, other)

pub offset_bounds-self-at : goal.offset_bounds-self-at
offset_bounds-self-at c =
    let h = c.args.self.now.tracks in
    let f = c.highest-at in
    omega (arith, top_inside h (some c.if-self-eq0.false) f.result f.ensures, tracked_le h)

pub bounds-self-at : goal.bounds-self-at
bounds-self-at c =
    let h = c.args.self.now.tracks in
    let f = c.highest-at in
    omega (arith, top_inside h (some c.if-self-eq0.false) f.result f.ensures, tracked_le h)

pub remove-requires : goal.remove-requires
remove-requires c =
    let f = c.highest-at in
    top_inside c.args.self.now.tracks (some c.if-self-eq0.false) f.result f.ensures

pub returns-clause-row : goal.returns-clause-row
unfolding named
returns-clause-row c =
    let f = c.highest-at in
    top_named c.args.self.now.tracks (some c.if-self-eq0.false) f.result f.ensures

pub returns-clause-turned : goal.returns-clause-turned
returns-clause-turned c =
    let f = c.highest-at in
    let a = c.args.self.now in
    turned_as c.remove.ensures.turns (ap (λ (rows : List ℕ). drop_rows rows (held a)) (top_named a.tracks (some c.if-self-eq0.false) f.result f.ensures))
