-- The table of figures of agreement passes its test, by computing.
use lib.Dec.{T}
use Rattle.laws.specs.Same.{same}
use Rattle.device.specs.Refusal.{first_failed, unless, refuse, tested}
use Rattle.device.specs.Acceptance.{within, rows_allowed_to, diameter_allowed, block_allowed, settings_tests_with, settings_tests_to}
use Rattle.device.specs.Remap.{own_remap, occurs_in, all_occur, remap_allowed}
use Rattle.device.specs.Victims.{rows_from, rows_between, within_reach, victims}
use Rattle.summary.specs.Entries.{rows_of, counts_of, has, count_or, without, without_all, raised, entered, has_count, without_count, top, picks}
use Rattle.summary.specs.Steps.{empty, estimate, in_rows, disturb, disturb_each, drop_rows, spread, besides, picked, taken_out, cleared_if, sources, event}
use Rattle.summary.specs.Tables.{table, entries_of, read}
use Rattle.state.specs.State.{summary_of, state_of, zeros, ascending, counts_allowed, valid, tables_long}
use Rattle.tracker.specs.Calls.{victims_in, block_rows, ends_window, next_event, refresh_tests_to, kept_unless, refresh_to}
use Rattle.agreement.specs.Calls.{same_settings, same_position, same_tracked, agreement_tests_to, agreement_to, estimates_tests_to, same_estimates, estimates_to}
use Rattle.bound.specs.Answers.{settings_of}
use Rattle.figures.specs.Table.{state_numbers, shown}
use Rattle.figures.specs.Edges.{small, two_places, untracked, event_numbers, event_figure}
use Rattle.figures.specs.Remaps.{identity, doubled}
use Rattle.figures.specs.Agreements.{one_place, agreement_numbers, agreement_between, agreement_under, agreement_figure, tracking, beside_nine, compared_figures, refused_figures, parting_figures, agreements}
use Rattle.figures.proofs.Tests.{every}

pub agreements_pass : T (every agreements)
unfolding
    every same agreements compared_figures refused_figures one_place agreement_numbers agreement_between agreement_under agreement_figure tracking beside_nine parting_figures
    state_numbers shown settings_of small two_places untracked event_numbers event_figure identity doubled
    first_failed unless refuse tested within rows_allowed_to diameter_allowed block_allowed settings_tests_with settings_tests_to
    own_remap occurs_in all_occur remap_allowed rows_from rows_between within_reach victims
    rows_of counts_of has count_or without without_all raised entered has_count without_count top picks
    empty estimate in_rows disturb disturb_each drop_rows spread besides picked taken_out cleared_if sources event
    table entries_of read summary_of state_of zeros ascending counts_allowed valid
    victims_in block_rows ends_window next_event tables_long refresh_tests_to kept_unless refresh_to
    same_settings same_position same_tracked agreement_tests_to agreement_to estimates_tests_to same_estimates estimates_to
agreements_pass = tt
