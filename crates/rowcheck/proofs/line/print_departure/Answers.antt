-- `rowcheck::line::print_departure` meets its contract: three texts, one behind the other.
use native.Mathlib.Omega.{arith}
use Rattle.columns.proofs.Output.{prints_long}
use Rattle.rowcheck.specs.Answers.{departs_words}
use Rattle.rowcheck.proofs.Lines.{decimal_within, departure_printed}
use Rattle.rowcheck.proofs.line.print_departure.Goals as goal

pub print_text-requires : goal.print_text-requires
print_text-requires c =
    let words = c.print_text-number.ensures in
    let number = c.print_decimal-end.ensures in
    omega (arith, c.requires.1, words.behind, prints_long words, decimal_within _ number, prints_long number)

pub returns : goal.returns
unfolding departs_words
returns c = departure_printed _ c.args.lines c.print_text-number.ensures c.print_decimal-end.ensures c.print_text.ensures (omega arith)
