-- `checker::check_in` meets its contract. The invariant: how far the check has come, with tables that are a listing's.
use mathlib.Core.Path.{◌≡◌, sym, ◌∙◌}
use mathlib.Core.Bool.{true}
use mathlib.Core.List.{List}
use mathlib.Core.Option.{some}
use Rattle.std.specs.Prelude.{Result, Ok, Err, IsErrAnd}
use Prim.Native.Nat.{ℕ, ◌<◌}
use native.Mathlib.Omega.{arith}
use Rattle.laws.proofs.Cases.{split, clash}
use Rattle.steps.specs.Memory.{Memory}
use Rattle.steps.proofs.Memory.Zeros.{banked_start}
use Rattle.checker.specs.declared.Checking.{Checking}
use Rattle.checker.specs.declared.Departure.{Departure}
use Rattle.checker.specs.Comparison.{verdict_of}
use Rattle.checker.specs.InnerContracts.{Reaches, Onward}
use Rattle.checker.proofs.Checks.{reaches_start, reached_last}
use Rattle.checker.proofs.check_in.Invariants.{left}
use Rattle.checker.proofs.check_in.Goals as goal

left_less : {trace given : List ℕ} {m : Memory} {k k' : Checking} → Reaches trace given m k' → Onward trace k k' → k.more ≡ true → left trace k' < left trace k
left_less {trace} {k = k} {k' = k'} r o on =
    rw on (split k'.more (λ more. rw more (omega (arith, o.more more, r.taken))) (λ done. rw done (omega arith)))

-- a departure that is handed on
told : {A : Type 0} (r : Result A Departure) (d : Departure) → IsErrAnd r (λ x. x ≡ d) → verdict_of r ≡ some d.line
unfolding verdict_of
told (Ok x) d h = absurd h
told (Err e) d h = rw h

pub loop-k-init : goal.loop-k-init
loop-k-init c =
    rw c.first-k.ensures
    (record {
      reaches = reaches_start c.args.trace.now c.args.given.now c.args.counts.now;
      banked = banked_start c.requires.0 c.requires.1;
      last = λ off. clash off;
    })

pub check_part-requires : goal.check_part-requires
check_part-requires c = let l = c.loop-k.invariant in (l.reaches, l.banked)

pub loop-k-smaller : goal.loop-k-smaller
loop-k-smaller c = let on = c.in_ok-k.ensures.goes_on in left_less on.0 on.1 c.loop-k-test.true

pub loop-k-preserved : goal.loop-k-preserved
loop-k-preserved c = let on = c.in_ok-k.ensures.goes_on in record { reaches = on.0; banked = on.2; last = on.1.last }

pub returns-in_err-k : goal.returns-in_err-k
returns-in_err-k c = told c.from_residual.result c.in_err-k.field-0.0 c.from_residual.ensures.1 ∙ sym c.in_err-k.ensures.departs

pub check_rest-requires : goal.check_rest-requires
check_rest-requires c = let r = c.loop-k.invariant.reaches in (r.taken, r.passed, r.few)

pub returns : goal.returns
returns c = let l = c.loop-k.invariant in c.check_rest.ensures ∙ reached_last l.reaches (l.last c.loop-k-test.false)
