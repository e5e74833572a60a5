-- `aids::marks::first_in_words` meets its contract. The invariant: no row before those of the word looked at is at the count, and what is left of the
-- word of words shows those from it on. The measure is how many those are.
use Prim.Native.Nat.{◌+◌, ◌*◌, ◌<◌}
use native.Mathlib.Omega.{arith}
use lib.Count.{count_trailing_zeros}
use Rattle.aids.proofs.Bits.{few_zeros}
use Rattle.aids.proofs.Shown.{lowest_inside, rest, rest_less, rows_of_word}
use Rattle.aids.proofs.Searches.{clear_less, clear_words_skipped, clear_words_end}
use Rattle.aids.proofs.marks.first_in_words.Goals as goal

pub loop-left-init : goal.loop-left-init
loop-left-init c = record { shows = c.requires.3; clear = c.requires.4; fits = omega arith }

pub overflow_cast-w : goal.overflow_cast-w
overflow_cast-w c = let l = c.loop-left in omega (arith, lowest_inside l.invariant.shows (omega (arith, c.loop-left-test.true)))

pub overflow_add-w : goal.overflow_add-w
overflow_add-w c = let l = c.loop-left in omega (arith, lowest_inside l.invariant.shows (omega (arith, c.loop-left-test.true)))

pub offset_bounds-marks-w : goal.offset_bounds-marks-w
offset_bounds-marks-w c = let l = c.loop-left in omega (arith, lowest_inside l.invariant.shows (omega (arith, c.loop-left-test.true)))

pub bounds-marks-w : goal.bounds-marks-w
bounds-marks-w c = let l = c.loop-left in omega (arith, lowest_inside l.invariant.shows (omega (arith, c.loop-left-test.true)), c.requires.0.marks_long)

pub overflow_mul-w : goal.overflow_mul-w
overflow_mul-w c = let l = c.loop-left in omega (arith, lowest_inside l.invariant.shows (omega (arith, c.loop-left-test.true)))

pub overflow_mul-w-in-loop-left : goal.overflow_mul-w-in-loop-left
overflow_mul-w-in-loop-left c = let l = c.loop-left in omega (arith, lowest_inside l.invariant.shows (omega (arith, c.loop-left-test.true)))

pub overflow_add-w-in-loop-left : goal.overflow_add-w-in-loop-left
overflow_add-w-in-loop-left c = let l = c.loop-left in omega (arith, lowest_inside l.invariant.shows (omega (arith, c.loop-left-test.true)))

pub first_in_word-requires : goal.first_in_word-requires
first_in_word-requires c =
    let l = c.loop-left in
    let some : 0 < l.left = omega (arith, c.loop-left-test.true) in
    let w = l.w + count_trailing_zeros 64 l.left in
    let inside = lowest_inside l.invariant.shows some in
    (c.requires.0.counts_long, omega arith, rows_of_word c.requires.0 c.requires.1 w (omega (arith, c.type_inv.marks w)), clear_words_skipped c.requires.0 c.requires.1 l.invariant.shows l.invariant.clear some)

pub returns-in-Some : goal.returns-in-Some
returns-in-Some c = c.in-Some.ensures

pub overflow_add-w-in-loop-left-2 : goal.overflow_add-w-in-loop-left-2
overflow_add-w-in-loop-left-2 c = let l = c.loop-left in omega (arith, lowest_inside l.invariant.shows (omega (arith, c.loop-left-test.true)))

pub overflow_cast-left : goal.overflow_cast-left
overflow_cast-left c = let l = c.loop-left in omega (arith, lowest_inside l.invariant.shows (omega (arith, c.loop-left-test.true)))

pub overflow_shr-left : goal.overflow_shr-left
overflow_shr-left c = let l = c.loop-left in few_zeros 64 l.left 64 (omega (arith, c.loop-left-test.true)) l.invariant.fits

pub loop-left-smaller : goal.loop-left-smaller
loop-left-smaller c = let l = c.loop-left in omega (arith, lowest_inside l.invariant.shows (omega (arith, c.loop-left-test.true)))

pub loop-left-preserved : goal.loop-left-preserved
loop-left-preserved c =
    let l = c.loop-left in
    let some : 0 < l.left = omega (arith, c.loop-left-test.true) in
    let w = l.w + count_trailing_zeros 64 l.left in
    record {
      shows = rest l.invariant.shows some;
      clear = clear_less (c.in_default.ensures) ((w + 1) * 64) (omega arith);
      fits = omega (arith, l.invariant.fits, rest_less l.left (count_trailing_zeros 64 l.left));
    }

pub returns : goal.returns
returns c =
    let l = c.loop-left in
    clear_words_end c.requires.0 c.requires.1 l.invariant.shows l.invariant.clear (omega (arith, c.loop-left-test.false))
