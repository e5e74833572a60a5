-- The table of document 01's figures passes its test, by computing.
use mathlib.Core.Option.{bind}
use lib.Dec.{T}
use Rattle.laws.specs.Same.{same}
use Rattle.device.specs.Refusal.{first_failed, unless, refuse, tested}
use Rattle.device.specs.Acceptance.{within, rows_allowed_to, diameter_allowed, block_allowed, settings_tests_with, settings_tests_to, settings_tests_but_counters_to}
use Rattle.device.specs.Remap.{own_remap, occurs_in, all_occur, remap_allowed, physical}
use Rattle.device.specs.Hold.{hold_allowed, repeated}
use Rattle.device.specs.Victims.{rows_from, rows_between, within_reach, victims}
use Rattle.summary.specs.Entries.{rows_of, counts_of, has, count_or, without, without_all, raised, entered, has_count, without_count, top, picks}
use Rattle.summary.specs.Steps.{empty, in_rows, disturb, disturb_each, drop_rows, spread, activation, besides, picked, taken_out, cleared_if, sources, event}
use Rattle.summary.specs.Tables.{table, entries_of, read}
use Rattle.state.specs.State.{summary_of, state_of, zeros, ascending, counts_allowed, valid, tables_long}
use Rattle.tracker.specs.Calls.{victims_in, block_rows, ends_window, next_event, set_up_tests_to, activation_tests_to, refresh_tests_to, kept_unless, set_up_to, activation_to, refresh_to}
use Rattle.columns.specs.Numbers.{is_digit, digits, number, field, fields, digit_or_blank, columns_before, printed}
use Rattle.trace.specs.Lines.{line, ended, extent}
use Rattle.trace.specs.Records.{as_settings, numbered, settings, activation as activation_record, refresh as refresh_record, record_of}
use Rattle.trace.specs.Reading.{or_refused, reading_by, reading}
use Rattle.columns.specs.Output.{number_columns, refusal_line}
use Rattle.steps.specs.Output.{bound_line, refresh_line}
use Rattle.steps.specs.Steps.{start, refused_step, set_up_step, answered, activation_step, refresh_step, record_step_to, line_step_to, loaded_behind, step_to, next_to}
use Rattle.trace.specs.Texts.{in_front, lines, read as read_line, outcomes}
use Rattle.listing.specs.Texts.{listed_to, listing_to}
use Rattle.limit.specs.Run.{left_by, state_after}
use Rattle.bound.specs.Totals.{size, total, disturbers, bound_at, bound_of}
use Rattle.bound.specs.Least.{with_counters, meets, or_else, first_from, least_of}
use Rattle.bound.specs.Answers.{bound_answer_to, least_answer_to, settings_of}
use Rattle.figures.specs.Table.{numbers, remap_figure, bound_figure, least_figure, position_of, begun, state_numbers, traced, calls_to_4, line_4, line_5, line_6, activations, trace_input, trace_output, shown, figures}
use Rattle.figures.proofs.Tests.{every}

pub figures_pass : T (every figures)
unfolding
    every same figures numbers remap_figure bound_figure least_figure position_of begun state_numbers traced calls_to_4 line_4 line_5 line_6 activations trace_input trace_output shown
    first_failed unless refuse tested within rows_allowed_to diameter_allowed block_allowed settings_tests_with settings_tests_to settings_tests_but_counters_to
    own_remap occurs_in all_occur remap_allowed physical hold_allowed repeated rows_from rows_between within_reach victims
    size total disturbers bound_at bound_of with_counters meets or_else first_from least_of bound_answer_to least_answer_to settings_of
    rows_of counts_of has count_or without without_all raised entered has_count without_count top picks
    empty in_rows disturb disturb_each drop_rows spread activation besides picked taken_out cleared_if sources event
    table entries_of read summary_of state_of zeros ascending counts_allowed valid
    victims_in block_rows ends_window next_event tables_long set_up_tests_to activation_tests_to refresh_tests_to kept_unless set_up_to activation_to refresh_to
    left_by state_after
    is_digit digits number field fields digit_or_blank columns_before printed line ended extent
    bind as_settings numbered settings activation_record refresh_record record_of or_refused reading_by reading
    bound_line number_columns refresh_line refusal_line
    start refused_step set_up_step answered activation_step refresh_step record_step_to line_step_to loaded_behind step_to next_to
    in_front lines read_line outcomes listed_to listing_to
figures_pass = tt
