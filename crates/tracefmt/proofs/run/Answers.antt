-- `tracefmt::run` meets its contract. The invariant: the steps so far are a chain from the first on.
use mathlib.Core.Path.{sym, ◌∙◌}
use mathlib.Core.List.{[]}
use native.Mathlib.Omega.{arith}
use Rattle.laws.proofs.Cases.{clash}
use Rattle.input.proofs.Runs.{ran_unwritten}
use Rattle.tracefmt.specs.Turns.{first_state, none_yet, more_in}
use Rattle.input.proofs.ReadsOn.{more, no_more}
use Rattle.tracefmt.proofs.Runs.{carried_first, goes_further, goes_no_further}
use Rattle.tracefmt.proofs.run.Goals as goal

pub reads-init : goal.reads-init
unfolding first_state
reads-init c =
    rw c.first_turn-turn.ensures
    (record {
      carried = carried_first c.requires.0 c.requires.1;
      steps = record { reads = 0; parts = []; out = []; chain = none_yet; few = omega arith };
    })

pub next_turn-turn-requires : goal.next_turn-turn-requires
next_turn-turn-requires c = c.reads.invariant.carried

pub returns-in-Err : goal.returns-in-Err
returns-in-Err c =
    ran_unwritten more_in
    (goes_further c.reads.invariant c.reads-test.true (more _ (sym c.ne.ensures ∙ c.if-ne.false)) c.next_turn-turn.ensures.carried_in c.next_turn-turn.ensures.stepped).steps

pub reads-preserved : goal.reads-preserved
reads-preserved c =
    goes_further c.reads.invariant c.reads-test.true (more _ (sym c.ne.ensures ∙ c.if-ne.false)) c.next_turn-turn.ensures.carried_in c.next_turn-turn.ensures.stepped

pub returns-after-reads : goal.returns-after-reads
returns-after-reads c = goes_no_further c.reads.invariant (λ on. omega arith)

pub returns-then-ne : goal.returns-then-ne
returns-then-ne c =
    goes_no_further c.reads.invariant (λ on. clash (sym on ∙ no_more _ (sym c.ne.ensures ∙ c.if-ne.true)))
