-- `checker::compare_bytes` meets its contract. The invariant: what comparing the rest comes to is what comparing all comes to.
use mathlib.Core.Path.{◌≡◌, refl, sym, ◌∙◌, ap}
use Rattle.std.specs.Prelude.{Ok, Err}
use mathlib.Core.List.{List}
use Prim.Native.Nat.{ℕ, ◌+◌, ◌≤◌, ◌<◌}
use native.Mathlib.Numerals.{add-one}
use native.Mathlib.Omega.{arith}
use borrow.Author.Tests.{eq-eqb, ne_eqb}
use mir.Val.{bool_byte}
use lib.Dec.{eqb}
use lib.ListN.{length, get_or, drop, drop_of_length-le}
use lib.Seq.{drop-cons}
use Rattle.checker.specs.Comparison.{counted, compared}
use Rattle.checker.proofs.Comparison.{one_more, one_most}
use Rattle.checker.proofs.compare_bytes.Invariants.{Left}
use Rattle.checker.proofs.compare_bytes.Goals as goal

module _ {required given : List ℕ} {from lines at i ended : ℕ} (l : Left required given from lines at i ended) where
  whole : length required ≤ i → Ok ended ≡ compared lines required (drop from given)
  unfolding compared
  whole h = rw (drop_of_length-le required {i = i} h) at l.same

  module _ (h : i < length required) where
    short : at ≡ length given → Err ended ≡ compared lines required (drop from given)
    unfolding compared
    short e = rw (drop-cons required i 0 h, drop_of_length-le given {i = at} (omega arith)) at l.same

    before_end : (at ≡ length given → ⊥) → at < length given
    before_end e = omega (arith, l.within)

    module _ (inside : at < length given) where
      differs : (get_or required i 0 ≡ get_or given at 0 → ⊥) → Err ended ≡ compared lines required (drop from given)
      unfolding compared
      differs e = rw (drop-cons required i 0 h, drop-cons given at 0 inside, ne_eqb (get_or required i 0) (get_or given at 0) e) at l.same

      counted_fits : ended + 1 ≤ 18446744073709551615
      counted_fits = omega (arith, l.fits)

      further : get_or required i 0 ≡ get_or given at 0 → compared (counted ended (get_or required i 0)) (drop (i + 1) required) (drop (at + 1) given) ≡ compared lines required (drop from given)
      unfolding compared
      further e =
          rw (add-one i, add-one at) (rw (drop-cons required i 0 h, drop-cons given at 0 inside, eq-eqb (get_or required i 0) (get_or given at 0) e) at l.same)

      next : get_or required i 0 ≡ get_or given at 0 → Left required given from lines (at + 1) (i + 1) (ended + bool_byte (eqb (get_or required i 0) 10))
      unfolding counted
      next e =
          let ends = eqb (get_or required i 0) 10 in
          record {
            within = omega arith;
            fits = omega (arith, l.fits, one_most ends);
            same =
                ap (λ (n : ℕ). compared n (drop (i + 1) required) (drop (at + 1) given)) (sym (one_more ended ends)) ∙ further e;
          }

pub loop-b-init : goal.loop-b-init
loop-b-init c = record { within = c.requires.0; fits = c.requires.1; same = refl }

pub returns-then-at-given : goal.returns-then-at-given
returns-then-at-given c = short c.loop-b.invariant (omega arith) c.if-at-given.true

pub bounds-given-at : goal.bounds-given-at
bounds-given-at c = before_end c.loop-b.invariant (omega arith) c.if-at-given.false

pub returns-then-b-given : goal.returns-then-b-given
returns-then-b-given c =
    let l = c.loop-b.invariant in
    let h : c.loop-b.b-index < length c.args.required.now = omega arith in
    differs l h (before_end l h c.if-at-given.false) (λ same. omega (arith, same, c.if-b-given.true))

pub overflow_cast-ended : goal.overflow_cast-ended
overflow_cast-ended c = tt

pub overflow_add-ended : goal.overflow_add-ended
overflow_add-ended c =
    let l = c.loop-b.invariant in
    let h : c.loop-b.b-index < length c.args.required.now = omega arith in
    record { fits = omega (arith, counted_fits l h (before_end l h c.if-at-given.false), one_most (eqb (get_or c.args.required.now c.loop-b.b-index 0) 10)) }

pub overflow_add-at : goal.overflow_add-at
overflow_add-at c =
    let l = c.loop-b.invariant in
    let h : c.loop-b.b-index < length c.args.required.now = omega arith in
    record { fits = omega (arith, before_end l h c.if-at-given.false, c.well_formed) }

pub loop-b-preserved : goal.loop-b-preserved
loop-b-preserved c =
    let l = c.loop-b.invariant in
    let h : c.loop-b.b-index < length c.args.required.now = omega arith in
    next l h (before_end l h c.if-at-given.false) (omega (arith, c.if-b-given.false))

pub returns : goal.returns
returns c = whole c.loop-b.invariant c.loop-b-test.false
