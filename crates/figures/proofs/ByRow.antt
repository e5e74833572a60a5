-- The table of figures of single rows passes its test, by computing.
use lib.Dec.{T}
use Rattle.laws.specs.Same.{same}
use Rattle.device.specs.Refusal.{first_failed, unless, refuse, tested}
use Rattle.device.specs.Acceptance.{within, rows_allowed_to, diameter_allowed, block_allowed, settings_tests_with, settings_tests_to}
use Rattle.device.specs.Remap.{own_remap, occurs_in, all_occur, remap_allowed, physical}
use Rattle.bound.specs.Totals.{size, total, disturbers, bound_at, bound_of}
use Rattle.bound.specs.Answers.{settings_of}
use Rattle.limit.specs.ByRow.{own_event, first_figure, carried_most, second_figure, row_figure}
use Rattle.rowlimit.specs.Answers.{row_limit_tests, row_limit_answer, position_of as at_position}
use Rattle.figures.specs.Table.{numbers, shown, traced}
use Rattle.figures.specs.Remaps.{identity, reverse, doubled}
use Rattle.figures.specs.ByRow.{row_figure_at, row_figure_under, at_four, by_block, by_window, by_large_window, by_refusal, by_row}
use Rattle.figures.proofs.Tests.{every}

pub by_row_pass : T (every by_row)
unfolding
    every same by_row by_block by_window by_large_window by_refusal at_four row_figure_under row_figure_at numbers shown traced settings_of
    identity reverse doubled at_position
    first_failed unless refuse tested within rows_allowed_to diameter_allowed block_allowed settings_tests_with settings_tests_to
    own_remap occurs_in all_occur remap_allowed physical
    size total disturbers bound_at bound_of own_event first_figure carried_most second_figure row_figure row_limit_tests row_limit_answer
by_row_pass = tt
