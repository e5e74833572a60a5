-- `rowcheck::tell_answer` meets its contract: a line is written exactly where there is an answer.
use mathlib.Core.Path.{sym}
use native.Mathlib.Omega.{arith}
use Rattle.rowcheck.proofs.Lines.{line_none, line_some}
use Rattle.rowcheck.proofs.tell_answer.Goals as goal

pub returns-then-end-eq0 : goal.returns-then-end-eq0
returns-then-end-eq0 c =
    let p = c.answer_line-end.ensures in
    sym (line_none c.args.k (omega (arith, p.behind, c.if-end-eq0.true)))

pub returns-in-Err : goal.returns-in-Err
returns-in-Err c =
    let p = c.answer_line-end.ensures in
    sym (line_some c.args.k (omega (arith, p.behind, c.if-end-eq0.false)))

pub returns-in_default : goal.returns-in_default
returns-in_default c =
    let p = c.answer_line-end.ensures in
    sym (line_some c.args.k (omega (arith, p.behind, c.if-end-eq0.false)))
