-- `summary::Table::disturb_full` meets its contract: the exchange, or a higher spillover.
use Rattle.std.proofs.Common.{refl, ap, ◌∙◌}
use native.Mathlib.Omega.{arith}
use lib.ListN.{length}
use Rattle.summary.specs.Steps.{Summary, spill}
use Rattle.summary.specs.Entries.{has}
use Rattle.summary.specs.Kept.{held, places_of}
use Rattle.summary.specs.Tables.{read}
use Rattle.summary.proofs.InnerContracts.Holds.{held_again}
use Rattle.summary.proofs.InnerContracts.Changes.{count_missed, room_made, made_room_enters, holds_spill}
use Rattle.summary.proofs.Entries.Tracked.{untracked_without_count}
use Rattle.summary.proofs.Steps.Disturb.{disturb_spill}
use Rattle.summary.proofs.Turned.{turned_then}
use Rattle.summary.proofs.Kept.{turns, same_memory_transitive}
use Rattle.summary.proofs.Table.disturb_full.Goals as goal

pub enter_row-requires-clause-room : goal.enter_row-requires-clause-room
enter_row-requires-clause-room c =
    let x = c.remove.ensures in
    (omega (arith, x.one_less.0, x.turns.as_many, c.if-q-self.true, c.requires.full.0), omega (arith, x.one_less.1, c.requires.full.1))

pub enter_row-requires-clause-untracked : goal.enter_row-requires-clause-untracked
unfolding read
enter_row-requires-clause-untracked c =
    let a = c.args.self.now in
    let q = c.at_spillover-q in
    ap (λ (s : Summary). has c.args.row s.entries) (c.remove.ensures.turns.holds ∙ room_made a.tracks q.result q.ensures c.if-q-self.true) ∙ untracked_without_count c.args.row a.tally.spillover (held a).entries c.requires.untracked

pub returns-then-q-self : goal.returns-then-q-self
returns-then-q-self c =
    let a = c.args.self.now in
    let q = c.at_spillover-q in
    turned_then same_memory_transitive c.remove.ensures.turns c.enter_row.ensures (made_room_enters a.tracks c.args.row q.result q.ensures c.if-q-self.true c.requires.untracked c.requires.full.0)

pub invariant_of-self : goal.invariant_of-self
unfolding read
invariant_of-self c =
    let a = c.args.self.now in
    let q = c.at_spillover-q in
    record { tracks = held_again {places = length a.rows.now} {sum = spill (held a)} (holds_spill a.tracks (count_missed a.tracks a.tally.spillover q.result q.ensures c.if-q-self.false)) }

pub returns-else-q-self : goal.returns-else-q-self
unfolding read
returns-else-q-self c =
    let a = c.args.self.now in
    let h = a.tracks in
    let q = c.at_spillover-q in
    let up = count_missed h a.tally.spillover q.result q.ensures c.if-q-self.false in
    turns (rw (disturb_spill (places_of a) c.args.row (held a) c.requires.untracked (omega (arith, h.tracked_is, c.requires.full.0)) up) (holds_spill h up)) (refl, refl)
