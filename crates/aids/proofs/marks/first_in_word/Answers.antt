-- `aids::marks::first_in_word` meets its contract. The invariant: no row before the one looked at is at the count, and what is left of the word shows
-- those from it on. The measure is how many those are.
use Prim.Native.Nat.{◌<◌}
use native.Mathlib.Omega.{arith}
use lib.Count.{count_trailing_zeros}
use Rattle.aids.proofs.Bits.{few_zeros}
use Rattle.aids.proofs.Shown.{lowest_inside, rest, rest_less}
use Rattle.aids.proofs.Searches.{clear_on, clear_skipped, clear_end}
use Rattle.aids.proofs.marks.first_in_word.Goals as goal

pub loop-left-init : goal.loop-left-init
loop-left-init c = record { shows = c.requires.2; clear = c.requires.3; fits = omega arith }

pub overflow_cast-row : goal.overflow_cast-row
overflow_cast-row c = let l = c.loop-left in omega (arith, lowest_inside l.invariant.shows (omega (arith, c.loop-left-test.true)))

pub overflow_add-row : goal.overflow_add-row
overflow_add-row c = let l = c.loop-left in omega (arith, lowest_inside l.invariant.shows (omega (arith, c.loop-left-test.true)))

pub offset_bounds-counts-row : goal.offset_bounds-counts-row
offset_bounds-counts-row c = let l = c.loop-left in omega (arith, lowest_inside l.invariant.shows (omega (arith, c.loop-left-test.true)))

pub bounds-counts-row : goal.bounds-counts-row
bounds-counts-row c = let l = c.loop-left in omega (arith, lowest_inside l.invariant.shows (omega (arith, c.loop-left-test.true)))

pub returns-then-counts-row : goal.returns-then-counts-row
returns-then-counts-row c =
    let l = c.loop-left in
    let some : 0 < l.left = omega (arith, c.loop-left-test.true) in
    (omega (arith, lowest_inside l.invariant.shows some), c.if-counts-row.true, clear_skipped l.invariant.shows l.invariant.clear some)

pub overflow_add-row-in-loop-left : goal.overflow_add-row-in-loop-left
overflow_add-row-in-loop-left c = let l = c.loop-left in omega (arith, lowest_inside l.invariant.shows (omega (arith, c.loop-left-test.true)))

pub overflow_cast-left : goal.overflow_cast-left
overflow_cast-left c = let l = c.loop-left in omega (arith, lowest_inside l.invariant.shows (omega (arith, c.loop-left-test.true)))

pub overflow_shr-left : goal.overflow_shr-left
overflow_shr-left c = let l = c.loop-left in few_zeros 64 l.left 64 (omega (arith, c.loop-left-test.true)) l.invariant.fits

pub loop-left-smaller : goal.loop-left-smaller
loop-left-smaller c = let l = c.loop-left in omega (arith, lowest_inside l.invariant.shows (omega (arith, c.loop-left-test.true)))

pub loop-left-preserved : goal.loop-left-preserved
loop-left-preserved c =
    let l = c.loop-left in
    let some : 0 < l.left = omega (arith, c.loop-left-test.true) in
    record {
      shows = rest l.invariant.shows some;
      clear = clear_on (clear_skipped l.invariant.shows l.invariant.clear some) c.if-counts-row.false;
      fits = omega (arith, l.invariant.fits, rest_less l.left (count_trailing_zeros 64 l.left));
    }

pub returns : goal.returns
returns c = let l = c.loop-left in clear_end l.invariant.shows l.invariant.clear (omega (arith, c.loop-left-test.false))
