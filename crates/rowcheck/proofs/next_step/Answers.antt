-- `rowcheck::next_step` meets its contract: by the file that it reads.
use mathlib.Core.Path.{refl, sym, ◌∙◌}
use Rattle.rowcheck.specs.Turns.{wants_trace, of_trace}
use Rattle.rowcheck.proofs.Steps.{listing_stepped, turn_alike}
use Rattle.rowcheck.proofs.next_step.Goals as goal

pub returns-then-wants_trace-clause-stepped_in : goal.returns-then-wants_trace-clause-stepped_in
unfolding wants_trace
returns-then-wants_trace-clause-stepped_in c =
    let t = c.trace_step.ensures.turn_stepped in
    of_trace (sym c.wants_trace.ensures ∙ c.if-wants_trace.true) t.0 t.1 refl

pub returns-clause-stepped_in : goal.returns-clause-stepped_in
unfolding wants_trace
returns-clause-stepped_in c =
    let l = c.listing_step.ensures in
    listing_stepped (sym c.wants_trace.ensures ∙ c.if-wants_trace.false) (turn_alike _ _ _ l.turn_value.0) l.listing_checked
