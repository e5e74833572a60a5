-- `aids::marks::first_at` meets its contract. The invariant: no row before those of the next word is at the count, and no word is behind the last.
use Prim.Native.Nat.{◌+◌, ◌/◌}
use native.Mathlib.Omega.{arith}
use Rattle.aids.specs.Marks.{row_words}
use Rattle.aids.proofs.Shown.{rows_from, words_from}
use Rattle.aids.proofs.Searches.{clear_less, found_first, found_none}
use Rattle.aids.proofs.marks.first_at.Goals as goal

pub returns-then-rows-from : goal.returns-then-rows-from
returns-then-rows-from c = found_none c.requires.1 c.requires.4 c.requires.3 c.if-rows-from.true

pub bounds-marks-w : goal.bounds-marks-w
bounds-marks-w c = omega (arith, c.requires.0.marks_long)

pub first_in_word-requires : goal.first_in_word-requires
first_in_word-requires c = (c.requires.0.counts_long, omega arith, rows_from c.requires.0 c.requires.1 c.args.from (omega (arith, c.type_inv.marks (c.args.from / 64))), c.requires.4)

pub returns-in-Some : goal.returns-in-Some
returns-in-Some c = found_first c.requires.0.counts_long (c.in-Some.ensures)

pub loop-next-init : goal.loop-next-init
loop-next-init c = record { clear = clear_less (c.in_default.ensures) _ (omega arith); most = omega arith }

pub bounds-marks-next : goal.bounds-marks-next
bounds-marks-next c = omega (arith, c.requires.0.marks_long)

pub first_in_words-requires : goal.first_in_words-requires
first_in_words-requires c =
    let l = c.loop-next in
    (c.requires.0, c.requires.1, omega arith, words_from c.requires.0 l.next (omega arith) (omega (arith, c.type_inv.marks (row_words + l.next / 64))), l.invariant.clear)

pub returns-in-Some-first_in_words : goal.returns-in-Some-first_in_words
returns-in-Some-first_in_words c = found_first c.requires.0.counts_long (c.in-Some-first_in_words.ensures)

pub loop-next-preserved : goal.loop-next-preserved
loop-next-preserved c = record { clear = c.in_default-first_in_words.ensures; most = omega arith }

pub returns : goal.returns
returns c = found_none c.requires.1 c.loop-next.invariant.clear c.requires.3 c.loop-next-test.false
