-- `rowcheck::run` meets its contract. The invariant: the memory is a listing's, the steps so far are a chain from the first on, and no more lines are passed
-- over than bytes that the reads can bring.
use mathlib.Core.Path.{sym, ◌∙◌}
use mathlib.Core.List.{[]}
use native.Mathlib.Omega.{arith}
use Rattle.laws.proofs.Cases.{clash}
use Rattle.turns.proofs.Turns.{carried_first}
use Rattle.turns.specs.Turns.{first_turned}
use Rattle.rowcheck.specs.Turns.{first_step, first_state, none_yet}
use Rattle.rowcheck.proofs.Chains.{steps_on, ran}
use Rattle.rowcheck.proofs.run.Goals as goal
use Rattle.rowcheck.proofs.run.Goals.{else-reads-test, then-reads-test+then-not-is_open}

pub reads-init : goal.reads-init
unfolding first_step first_state first_turned
reads-init c =
    rw c.first_step-step.ensures
    (record {
      carried = carried_first c.requires.0 c.requires.1 c.requires.2 c.requires.3;
      given_long = c.requires.4;
      few_lines = omega arith;
      steps = record { parts = []; given = []; chain = none_yet };
    })

pub reads-preserved : goal.reads-preserved
reads-preserved c =
    let l = c.reads in
    let n = c.next_step-step in
    record {
      carried = n.ensures.carried_in.0;
      given_long = n.auto.given ∙ l.invariant.given_long;
      few_lines = omega (arith, n.ensures.carried_in.1, l.invariant.few_lines);
      steps = steps_on l.invariant.steps (sym c.is_open.ensures ∙ c.if-not-is_open.false) n.ensures.stepped_in;
    }

pub returns-clause-ran_in : goal.returns-clause-ran_in
returns-clause-ran_in c =
    ran c.reads.invariant.steps
    (elim c.reads-test.branch [
      | else-reads-test w ↦ λ on. omega arith
      | then-reads-test+then-not-is_open w ↦ λ on. clash (sym on ∙ sym w.is_open.ensures ∙ w.if-not-is_open.true)
    ])
