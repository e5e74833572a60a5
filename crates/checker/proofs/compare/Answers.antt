-- `checker::compare` meets its contract: all at once where all is the same, else byte by byte.
use mathlib.Core.Path.{sym, ◌∙◌}
use native.Mathlib.Omega.{arith}
use lib.ListN.{length-drop}
use Rattle.checker.proofs.Comparison.{same_compared}
use Rattle.checker.proofs.compare.Goals as goal

pub lines_ended-requires : goal.lines_ended-requires
lines_ended-requires c =
    let s = c.stands_at.ensures c.if-stands_at.true in
    (s.few, omega (arith, s.enough, length-drop c.args.from c.args.given.now, c.requires.1, c.requires.0))

pub returns-then-stands_at : goal.returns-then-stands_at
returns-then-stands_at c =
    let s = c.stands_at.ensures c.if-stands_at.true in
    c.lines_ended.ensures ∙ sym (same_compared _ _ _ s.enough s.same)
