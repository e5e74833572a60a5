-- `steps::line::list_settings` meets its contract: by the settings' tests.
use mathlib.Core.Path.{sym, ◌∙◌}
use native.Mathlib.Omega.{arith}
use borrow.Author.Tests.{eqb-true}
use Rattle.device.proofs.Acceptance.{accepted_settings}
use Rattle.bound.proofs.Answers.{small_bound_answer}
use Rattle.steps.specs.Memory.{tracker_in}
use Rattle.steps.proofs.Steps.SettingsLine.{bound_given, settings_printed, settings_leave}
use Rattle.steps.proofs.line.list_settings.Goals as goal

pub print_settings-end-requires : goal.print_settings-end-requires
print_settings-end-requires c = (omega (arith, c.requires.2), rw c.bound-answer.ensures (small_bound_answer c.args.s))

pub returns : goal.returns
returns c =
    let b = c.bound-answer in
    let k = c.is_ok-active.ensures.value ∙ bound_given c.args.s b.result b.ensures in
    let e = c.clear-tally in
    let none = e.ensures 0 0 (omega arith) in
    let t = tracker_in c.args.p c.args.counts.now in record {
      lists_line = record {
        printed = settings_printed c.args.p.loaded c.requires.0.loadable c.args.line c.args.s t b.result b.ensures c.print_settings-end.ensures;
        left = settings_leave c.args.p.loaded c.requires.0.loadable c.args.line c.args.s t _ e.result _ k none.holds;
      };
      banked_in = record {
        marked = none.bank.kept.marked;
        bounds_long = none.bank.capped.nested.bounds_long;
        bank = λ on. (e.ensures c.args.s.rows c.args.s.counters (accepted_settings c.args.s (eqb-true _ 0 (sym k ∙ on))).others.rows.most).bank;
      };
    }
