-- `listing::ended_line` meets its contract: by the byte in front of the place behind the line.
use mathlib.Core.Path.{◌≡◌, sym, ap}
use Prim.Native.Nat.{◌-◌, ◌<◌}
use native.Mathlib.Omega.{arith}
use borrow.Author.Tests.{eqb-true, eqb-false}
use lib.Dec.{eqb}
use lib.ListN.{length, get_or, length-drop}
use Rattle.laws.proofs.Cases.{split}
use Rattle.trace.specs.Reading.{Reading, said}
use Rattle.trace.proofs.Texts.NextLine.{place_within, ends_with, ends_without}
use Rattle.listing.proofs.Chunks.Lines.{none_ended}
use Rattle.listing.proofs.ended_line.Goals as goal

pub returns-then-at-text-clause-is_ended : goal.returns-then-at-text-clause-is_ended
returns-then-at-text-clause-is_ended c = sym (none_ended _ (omega (arith, length-drop c.args.at c.args.text.now)))

pub overflow_sub-line : goal.overflow_sub-line
unfolding said
overflow_sub-line c =
    let inside : c.args.at < length c.args.text.now = omega arith in
    omega (arith, ap (λ (r : Reading). r.place) c.read_line-line.ensures, place_within c.args.text.now c.args.at inside)

pub bounds-text-line : goal.bounds-text-line
unfolding said
bounds-text-line c =
    let inside : c.args.at < length c.args.text.now = omega arith in
    omega (arith, ap (λ (r : Reading). r.place) c.read_line-line.ensures, place_within c.args.text.now c.args.at inside)

pub returns-clause-is_ended : goal.returns-clause-is_ended
unfolding said
returns-clause-is_ended c =
    let text = c.args.text.now in
    let inside : c.args.at < length text = omega arith in
    let place = ap (λ (r : Reading). r.place) c.read_line-line.ensures in
    let last = get_or text (c.read_line-line.result.place - 1) 0 in
    rw c.then_some.ensures
    (split (eqb last 10)
    (λ on. rw on (sym (ends_with text c.args.at _ place inside (eqb-true last 10 on))))
    (λ off. rw off (sym (ends_without text c.args.at _ place inside (eqb-false last 10 off)))))
