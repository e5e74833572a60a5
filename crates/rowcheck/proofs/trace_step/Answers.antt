-- `rowcheck::trace_step` meets its contract: a read of the trace passes over no line.
use Rattle.rowcheck.proofs.Steps.{trace_lines}
use Rattle.rowcheck.proofs.trace_step.Goals as goal

pub returns-clause-carried_in : goal.returns-clause-carried_in
returns-clause-carried_in c = (c.next_turn-turn.ensures.carried_in, rw c.behind_trace.ensures (trace_lines c.args.from.check _))
