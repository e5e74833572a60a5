-- `tracker::next_event` meets its contract.
use native.Mathlib.Omega.{arith}
use borrow.Author.Tests.{eq-eqb, ne_eqb}
use Rattle.tracker.specs.Calls.{next_event, ends_window}
use Rattle.tracker.proofs.next_event.Goals as goal

pub returns-then-e-s : goal.returns-then-e-s
unfolding next_event ends_window
returns-then-e-s c = rw (eq-eqb _ _ c.if-e-s.true)

pub returns-else-e-s : goal.returns-else-e-s
unfolding next_event ends_window
returns-else-e-s c = rw (ne_eqb _ _ c.if-e-s.false) (omega arith)
