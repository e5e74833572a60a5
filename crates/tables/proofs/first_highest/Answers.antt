-- `tables::first_highest` meets its contract. The invariant: the places from i on, after the best so far, give what all the places give.
use mathlib.Core.Path.{sym, ◌∙◌}
use native.Mathlib.Omega.{arith}
use borrow.Author.Tests.{lt-ltb, le-ltb}
use lib.ListN.{get_or, take}
use lib.Seq.{get_or-take, length-take-le}
use Rattle.tables.specs.InnerContracts.{highest_from}
use Rattle.tables.proofs.Searches.{highest_place_start, highest_from_next}
use Rattle.tables.proofs.Scans.{left_none}
use Rattle.tables.proofs.first_highest.Goals.{then-t-place, else-t-place}
use Rattle.tables.proofs.first_highest.Goals as goal

pub loop-i-init : goal.loop-i-init
loop-i-init c =
    let t = c.args.t.now in
    let used = c.args.used in
    (rw (← get_or-take used t 0 0 c.requires.0) (highest_place_start (take used t) (omega (arith, c.requires.0, length-take-le used t c.requires.1))), c.requires.0)

pub loop-i-preserved : goal.loop-i-preserved
loop-i-preserved c =
    let t = c.args.t.now in
    let used = c.args.used in
    let l = c.loop-i in
    let less = c.loop-i-test.true in
    let on = rw (get_or-take used t l.i 0 less) at (highest_from_next (take used t) l.place (get_or t l.place 0) l.i (omega (arith, less, length-take-le used t c.requires.1))) in
    elim c.if-t-place.branch [
      | then-t-place w ↦ rw w.place-is (sym (rw (lt-ltb (get_or t l.place 0) (get_or t l.i 0) (omega (arith, w.if-t-place.true))) at on) ∙ l.invariant.0, less)
      | else-t-place w ↦ rw w.place-is (sym (rw (le-ltb (get_or t l.place 0) (get_or t l.i 0) (omega (arith, w.if-t-place.false))) at on) ∙ l.invariant.0, l.invariant.1)
    ]

pub returns : goal.returns
unfolding highest_from
returns c = rw (left_none c.args.t.now c.args.used c.loop-i.i c.requires.1 c.loop-i-test.false) at c.loop-i.invariant.0
