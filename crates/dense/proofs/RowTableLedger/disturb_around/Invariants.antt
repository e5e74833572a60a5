-- `dense::RowTable` disturbs the rows around one. The invariants: the rows left of each run, on the summary as it is now, and how far counts rose.
use Rattle.std.proofs.Common.{◌++◌, ◌+◌, ◌-◌}
use Rattle.device.specs.Victims.{rows_between}
use Rattle.summary.specs.Steps.{disturb_each}
use Rattle.summary.specs.Rules.{Room}
use Rattle.summary.proofs.Turned.{Left}
use Rattle.dense.specs.Kept.{holds_bank, held, places_of, rows_of, same_memory}
use Rattle.dense.proofs.RowTableLedger.disturb_around.Given as goal

abbrev pub invariant-loop-row : goal.invariant-loop-row
invariant-loop-row l =
    let n = places_of l.fn.self in
    Left holds_bank held places_of rows_of same_memory (disturb_each n (rows_between l.low l.middle)) (disturb_each n (rows_between l.row l.middle)) l.fn.self l.self ×
    Room (4294967231 + (l.row - l.low)) (held l.self)

abbrev pub invariant-loop-row-2 : goal.invariant-loop-row-2
invariant-loop-row-2 l =
    let n = places_of l.fn.self in
    Left holds_bank held places_of rows_of same_memory (disturb_each n (rows_between l.low l.middle ++ rows_between (l.middle + 1) l.high)) (disturb_each n (rows_between l.row l.high)) l.fn.self l.self ×
    Room (4294967231 + (l.row - l.low)) (held l.self)
