-- `summary::Table::enter_row` meets its contract: the row goes where it belongs, its count beside it.
use Rattle.std.proofs.Common.{refl}
use native.Mathlib.Omega.{arith}
use lib.ListN.{length}
use Rattle.summary.specs.Steps.{enter}
use Rattle.summary.specs.Kept.{held}
use Rattle.summary.proofs.InnerContracts.Holds.{long_counts, held_again}
use Rattle.summary.proofs.InnerContracts.Changes.{place_le, holds_enter}
use Rattle.summary.proofs.Kept.{turns}
use Rattle.summary.proofs.Table.enter_row.Goals as goal

pub insert_entry-requires : goal.insert_entry-requires
insert_entry-requires c =
    let h = c.args.self.now.tracks in
    let p = c.place-p in
    (place_le h c.args.row p.result p.ensures, c.requires.room.0, omega (arith, c.requires.room.0, long_counts h))

pub invariant_of-self : goal.invariant_of-self
invariant_of-self c =
    let e = c.insert_entry.ensures in
    let a = c.args.self.now in
    let p = c.place-p in
    record { tracks = held_again {places = length a.rows.now} {sum = enter c.args.row (held a)} (rw (e.0, e.1) (holds_enter a.tracks c.args.row p.result p.ensures c.requires.untracked c.requires.room.0 c.ranges.row.fits)) }

pub returns : goal.returns
returns c =
    let e = c.insert_entry.ensures in
    let p = c.place-p in
    turns (rw (e.0, e.1) (holds_enter c.args.self.now.tracks c.args.row p.result p.ensures c.requires.untracked c.requires.room.0 c.ranges.row.fits)) (refl, refl)
