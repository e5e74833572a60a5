-- `rowcheck::line::print_decimal` meets its contract.
use native.Mathlib.Omega.{arith}
use Rattle.rowcheck.proofs.Lines.{fewest_twenty, decimal_digits}
use Rattle.rowcheck.proofs.line.print_decimal.Goals as goal

pub returns : goal.returns
returns c =
    let d = c.decimal-count in
    let all = decimal_digits c.args.n d.result (fewest_twenty c.args.n d.result (omega (arith, c.ranges.n)) d.ensures.len) d.ensures.len in
    rw (← all, ← d.ensures.digits) c.print_text.ensures
