-- `listing::list_end` meets its contract.
use Prim.Native.Nat.{◌%◌, ◌<◌, ◌+◌}
use mathlib.Core.Path.{◌≡◌, refl}
use native.Mathlib.Omega.{arith}
use lib.ListN.{length}
use Rattle.std.proofs.Common.{rules}
use Rattle.std.proofs.lemmas.Bool.Decides.{nat_tests}
use Rattle.steps.specs.Memory.{next_number}
use Rattle.listing.proofs.Chunks.LastLine.{prints_none, prints_short, last_line_some}
use Rattle.listing.proofs.list_end.Goals as goal

pub returns-then-is_empty : goal.returns-then-is_empty
returns-then-is_empty c = prints_none _ _ _ (grind (arith, nat_tests))

pub returns-then-out-lt18 : goal.returns-then-out-lt18
returns-then-out-lt18 c = prints_short _ _ _ (omega arith)

pub returns : goal.returns
unfolding next_number
returns c =
    let a = c.args in
    let some : 0 < length a.text.now = grind (arith, nat_tests) in
    rw (last_line_some (next_number a.p.lines) a.text.now (length a.out.now) some (omega arith), ← c.number.ensures) c.print_refusal.ensures
