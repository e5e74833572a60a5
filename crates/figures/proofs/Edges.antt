-- The table of edges passes its test, by computing.
use lib.Dec.{T}
use Rattle.laws.specs.Same.{same}
use Rattle.device.specs.Refusal.{first_failed, unless, refuse, tested}
use Rattle.device.specs.Acceptance.{within, rows_allowed_to, diameter_allowed, block_allowed, settings_tests_with, settings_tests_to}
use Rattle.device.specs.Remap.{own_remap, occurs_in, all_occur, remap_allowed, physical}
use Rattle.device.specs.Hold.{hold_allowed, repeated}
use Rattle.device.specs.Victims.{rows_from, rows_between, within_reach, victims}
use Rattle.summary.specs.Entries.{rows_of, counts_of, has, count_or, without, without_all, raised, entered, has_count, without_count, top, picks}
use Rattle.summary.specs.Steps.{empty, in_rows, disturb, disturb_each, drop_rows, spread, activation, besides, picked, taken_out, cleared_if, sources, event}
use Rattle.summary.specs.Tables.{table, entries_of, read}
use Rattle.state.specs.State.{summary_of, state_of, zeros, ascending, counts_allowed, valid, tables_long}
use Rattle.tracker.specs.Calls.{victims_in, block_rows, ends_window, next_event, set_up_tests_to, activation_tests_to, refresh_tests_to, kept_unless, set_up_to, activation_to, refresh_to}
use Rattle.bound.specs.Answers.{settings_of}
use Rattle.figures.specs.Table.{state_numbers, shown}
use Rattle.figures.specs.Edges.{small, whole, two_places, untracked, refusal_of, set_up_numbers, activation_numbers, event_numbers, set_up_under, set_up_figure, held_under, activation_under, activation_figure, event_figure, set_up_edges, activation_edges, event_edges, wide, fresh, wide_figure, across, behind_all, tracks_one, subarray_edges, large, large_figure, large_edges, edges}
use Rattle.figures.proofs.Tests.{every}

pub edges_pass : T (every edges)
unfolding
    every same edges set_up_edges activation_edges event_edges subarray_edges large_edges shown state_numbers settings_of
    small whole two_places untracked refusal_of set_up_numbers activation_numbers event_numbers
    set_up_under set_up_figure held_under activation_under activation_figure event_figure wide fresh wide_figure across behind_all tracks_one large large_figure
    first_failed unless refuse tested within rows_allowed_to diameter_allowed block_allowed settings_tests_with settings_tests_to
    own_remap occurs_in all_occur remap_allowed physical hold_allowed repeated rows_from rows_between within_reach victims
    rows_of counts_of has count_or without without_all raised entered has_count without_count top picks
    empty in_rows disturb disturb_each drop_rows spread activation besides picked taken_out cleared_if sources event
    table entries_of read summary_of state_of zeros ascending counts_allowed valid
    victims_in block_rows ends_window next_event tables_long set_up_tests_to activation_tests_to refresh_tests_to kept_unless
    set_up_to activation_to refresh_to
edges_pass = tt
