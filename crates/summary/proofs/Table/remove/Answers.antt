-- `summary::Table::remove` meets its contract: the row at the place is dropped.
use Rattle.std.proofs.Common.{refl, get_or, [], ◌∷◌}
use native.Mathlib.Omega.{arith}
use lib.ListN.{length}
use Rattle.summary.specs.Steps.{drop_rows}
use Rattle.summary.specs.Kept.{held}
use Rattle.summary.proofs.InnerContracts.Holds.{tracked_le, long_counts, held_again}
use Rattle.summary.proofs.InnerContracts.Changes.{holds_remove}
use Rattle.summary.proofs.Kept.{turns}
use Rattle.summary.proofs.Table.remove.Goals as goal

pub remove_entry-requires : goal.remove_entry-requires
remove_entry-requires c = let h = c.args.self.now.tracks in (c.requires, tracked_le h, omega (arith, tracked_le h, long_counts h))

pub invariant_of-self : goal.invariant_of-self
invariant_of-self c =
    let e = c.remove_entry.ensures in
    let a = c.args.self.now in
    record { tracks = held_again {places = length a.rows.now} {sum = drop_rows (get_or a.rows.now c.args.at 0 ∷ []) (held a)} (rw (e.0, e.1) (holds_remove a.tracks c.args.at c.requires)) }

pub returns : goal.returns
returns c =
    let e = c.remove_entry.ensures in
    record { turns = turns (rw (e.0, e.1) (holds_remove c.args.self.now.tracks c.args.at c.requires)) (refl, refl); one_less = (refl, refl) }
