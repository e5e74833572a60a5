-- `listing::list_part` meets its contract. The invariant: what is left to do from `at` on is what was to be done at the start.
use mathlib.Core.Path.{◌∙◌, sym, ap}
use mathlib.Core.Bool.{true}
use Prim.Native.Nat.{◌+◌, ◌≤◌}
use native.Mathlib.Omega.{arith}
use lib.ListN.{length}
use Rattle.trace.specs.Reading.{Reading, said}
use Rattle.trace.proofs.Texts.NextLine.{place_within}
use Rattle.listing.specs.Chunks.{part}
use Rattle.listing.proofs.Chunks.PartLoop.{ended_inside, turning_start, turning_run, turning_step, going_unended, going_short}
use Rattle.listing.proofs.list_part.Goals as goal

pub loop-out-init : goal.loop-out-init
loop-out-init c = (turning_start _ _ c.requires.0, c.requires.1)

pub returns-in_default : goal.returns-in_default
unfolding part
returns-in_default c =
    let l = c.loop-out in
    let run = c.run_activations-run in
    let room : l.end + 200 ≤ length l.out = omega (arith, l.invariant.0.fits, c.loop-out-test.true) in
    let ran = turning_run l.invariant.0 run.ensures.runs_on room in
    record { out_value = going_unended ran (sym c.in_default.ensures.is_ended); banked_in = run.ensures.banked_in }

pub loop-out-smaller : goal.loop-out-smaller
unfolding said
loop-out-smaller c =
    let run = c.run_activations-run in
    let inside = ended_inside c.args.text.now run.result.taken (sym c.in-Some.ensures.is_ended) in
    omega (arith, ap (λ (r : Reading). r.place) c.in-Some.ensures.says, place_within c.args.text.now run.result.taken inside, run.ensures.runs_on.onward)

pub loop-out-preserved : goal.loop-out-preserved
unfolding said
loop-out-preserved c =
    let l = c.loop-out in
    let room : l.end + 200 ≤ length l.out = omega (arith, l.invariant.0.fits, c.loop-out-test.true) in
    let ran = turning_run l.invariant.0 c.run_activations-run.ensures.runs_on room in
    let line = c.list_line-listed.ensures in
    let says = c.in-Some.ensures.says in (
      rw (ap (λ (r : Reading). r.place) says) (turning_step ran (sym c.in-Some.ensures.is_ended) room (rw (ap (λ (r : Reading). r.outcome) says) at line.lists_line)),
      line.banked_in,
    )

pub returns : goal.returns
unfolding part
returns c = let l = c.loop-out in record { out_value = going_short l.invariant.0 (omega (arith, l.invariant.0.fits, c.loop-out-test.false)); banked_in = l.invariant.1 }
