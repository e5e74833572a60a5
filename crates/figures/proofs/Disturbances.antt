-- The table of figures of the exact disturbance, of departures and of the silicon passes its test, by computing.
use mathlib.Core.Option.{bind}
use lib.Dec.{T}
use Rattle.laws.specs.Same.{same}
use Rattle.device.specs.Refusal.{first_failed, unless, refuse, tested}
use Rattle.device.specs.Acceptance.{within, rows_allowed_to, diameter_allowed, block_allowed, settings_tests_with, settings_tests_to}
use Rattle.device.specs.Remap.{own_remap, occurs_in, all_occur, remap_allowed, physical}
use Rattle.device.specs.Hold.{hold_allowed, repeated}
use Rattle.device.specs.Victims.{rows_from, rows_between, within_reach, victims}
use Rattle.summary.specs.Entries.{rows_of, counts_of, has, count_or, without, without_all, raised, entered, has_count, without_count, top, picks}
use Rattle.summary.specs.Steps.{empty, in_rows, disturb, disturb_each, drop_rows, spread, activation, besides, picked, taken_out, cleared_if, sources, event}
use Rattle.summary.specs.Tables.{table, entries_of, read}
use Rattle.state.specs.State.{summary_of, state_of, zeros, ascending, counts_allowed, valid, tables_long}
use Rattle.tracker.specs.Calls.{victims_in, block_rows, ends_window, next_event, set_up_tests_to, activation_tests_to, refresh_tests_to, kept_unless, set_up_to, activation_to, refresh_to}
use Rattle.limit.specs.Exact.{at_rest, zeroed, one_more, disturbed_by, once, restored, renewed, one_event_more, after, after_all, exact}
use Rattle.limit.specs.Example.{numbers_from, held_by, up_to_line_4, up_to_line_5}
use Rattle.limit.specs.Run.{left_by, told_by, happened}
use Rattle.columns.specs.Numbers.{is_digit, digits, number, field, fields, digit_or_blank, columns_before, printed}
use Rattle.trace.specs.Lines.{line, ended, extent}
use Rattle.trace.specs.Records.{as_settings, numbered, settings, as_sixteen, sixteen_of, remap as remap_record, activation as activation_record, as_activation, held_activation, refresh as refresh_record, record_of}
use Rattle.trace.specs.Reading.{or_refused, reading_by, reading}
use Rattle.columns.specs.Output.{number_columns, refusal_line}
use Rattle.trace.specs.Texts.{in_front, lines, read as read_line, outcomes}
use Rattle.steps.specs.Output.{bound_line, refresh_line}
use Rattle.steps.specs.Steps.{start, refused_step, set_up_step, answered, remap_step, activation_step, refresh_step, record_step_to, line_step_to, loaded_by, loaded_behind, step_to, next_to}
use Rattle.listing.specs.Texts.{listed_to, listing_to}
use Rattle.bound.specs.Totals.{size, total, disturbers, bound_at, bound_of}
use Rattle.bound.specs.Answers.{settings_of}
use Rattle.checker.specs.Departure.{departure_from, departing, departure}
use Rattle.silicon.specs.EventLines.{is_event_line, event_lines_of, event_lines, or_none, rows_named}
use Rattle.silicon.specs.Silicon.{stopped, set_up_by, takes, activated_by, refreshed_by, begin, event_by, record_by, behind, walked, silicon_after}
use Rattle.figures.specs.Table.{position_of, begun, traced, calls_to_4, trace_input, trace_output, shown}
use Rattle.figures.specs.Edges.{small, wide, large}
use Rattle.figures.specs.Remaps.{identity, reverse, rotated, loaded_input, loaded_output}
use Rattle.figures.specs.Holds.{longer, holds_input, holds_output}
use Rattle.figures.specs.Disturbances.{counted, counted_from, counted_behind, held, one, naming, event_counts, whole_window, sixes, window_counts, turned_back, call_counts, edge_counts, other_output, stopped_input, stopped_output, departure_numbers, departure_figure, departures, silicon_numbers, silicon_figure, silicon_counts, disturbances}
use Rattle.figures.proofs.Tests.{every}

pub disturbances_pass : T (every disturbances)
unfolding
    every same disturbances event_counts window_counts call_counts edge_counts departures silicon_counts
    counted counted_from counted_behind held one naming whole_window sixes turned_back
    other_output stopped_input stopped_output departure_numbers departure_figure silicon_numbers silicon_figure
    position_of begun traced calls_to_4 trace_input trace_output shown small wide large identity reverse rotated loaded_input loaded_output longer holds_input holds_output
    at_rest zeroed one_more disturbed_by once restored renewed one_event_more after after_all exact numbers_from held_by up_to_line_4 up_to_line_5 left_by told_by happened
    first_failed unless refuse tested within rows_allowed_to diameter_allowed block_allowed settings_tests_with settings_tests_to settings_of
    own_remap occurs_in all_occur remap_allowed physical hold_allowed repeated rows_from rows_between within_reach victims
    size total disturbers bound_at bound_of
    rows_of counts_of has count_or without without_all raised entered has_count without_count top picks
    empty in_rows disturb disturb_each drop_rows spread activation besides picked taken_out cleared_if sources event
    table entries_of read summary_of state_of zeros ascending counts_allowed valid
    victims_in block_rows ends_window next_event tables_long set_up_tests_to activation_tests_to refresh_tests_to kept_unless set_up_to activation_to refresh_to
    is_digit digits number field fields digit_or_blank columns_before printed line ended extent
    bind as_settings numbered settings as_sixteen sixteen_of remap_record activation_record as_activation held_activation refresh_record record_of or_refused reading_by reading
    bound_line number_columns refresh_line refusal_line
    start refused_step set_up_step answered remap_step activation_step refresh_step record_step_to line_step_to loaded_by loaded_behind step_to next_to
    in_front lines read_line outcomes listed_to listing_to
    departure_from departing departure is_event_line event_lines_of event_lines or_none rows_named
    stopped set_up_by takes activated_by refreshed_by begin event_by record_by behind walked silicon_after
disturbances_pass = tt
