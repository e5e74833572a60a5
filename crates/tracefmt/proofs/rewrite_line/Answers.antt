-- `tracefmt::rewrite_line` meets its contract: by the fault that was found.
use native.Mathlib.Omega.{arith}
use Rattle.tracefmt.proofs.OneLine.{line_stopped, line_spelled}
use Rattle.tracefmt.proofs.rewrite_line.Goals as goal

pub returns-then-is_some : goal.returns-then-is_some
returns-then-is_some c =
    let place = c.next_place-place in
    (place.ensures, line_stopped _ _ place.result place.ensures c.if-is_some.ensures (omega (arith, c.requires)))

pub returns : goal.returns
returns c =
    let place = c.next_place-place in
    (place.ensures, line_spelled _ _ place.result place.ensures c.if-is_some.ensures c.print_answer-end.ensures)
