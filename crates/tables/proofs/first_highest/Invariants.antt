-- `tables::first_highest` meets its contract. The invariant: the places from i on, after the best so far, give what all the places give.
use mathlib.Core.Path.{◌≡◌}
use Prim.Native.Nat.{◌<◌}
use lib.ListN.{get_or, take, drop}
use Rattle.tables.specs.InnerContracts.{highest_from, highest_place}
use Rattle.tables.proofs.first_highest.Given as goal

abbrev pub invariant-loop-i : goal.invariant-loop-i
invariant-loop-i l = (highest_from l.place (get_or l.t l.place 0) l.i (drop l.i (take l.used l.t)) ≡ highest_place (take l.used l.t)) × (l.place < l.used)
