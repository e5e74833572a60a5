-- The table of figures of rows held open passes its test, by computing.
use mathlib.Core.Option.{bind}
use lib.Dec.{T}
use Rattle.laws.specs.Same.{same}
use Rattle.device.specs.Refusal.{first_failed, unless, refuse, tested}
use Rattle.device.specs.Acceptance.{within, rows_allowed_to, diameter_allowed, block_allowed, settings_tests_with, settings_tests_to}
use Rattle.device.specs.Remap.{own_remap, occurs_in, all_occur, remap_allowed, physical}
use Rattle.device.specs.Hold.{hold_allowed, repeated}
use Rattle.device.specs.Victims.{rows_from, rows_between, within_reach, victims}
use Rattle.summary.specs.Entries.{rows_of, counts_of, has, count_or, without, without_all, raised, entered, has_count, without_count, top, picks}
use Rattle.summary.specs.Steps.{empty, in_rows, disturb, disturb_each, drop_rows, spread, activation, besides, picked, taken_out, cleared_if, sources, event}
use Rattle.summary.specs.Tables.{table, entries_of, read}
use Rattle.state.specs.State.{summary_of, state_of, zeros, ascending, counts_allowed, valid, tables_long}
use Rattle.tracker.specs.Calls.{victims_in, block_rows, ends_window, next_event, set_up_tests_to, activation_tests_to, refresh_tests_to, kept_unless, set_up_to, activation_to, refresh_to}
use Rattle.columns.specs.Numbers.{is_digit, digits, number, field, fields, digit_or_blank, columns_before, printed, written}
use Rattle.trace.specs.Lines.{line, ended, extent}
use Rattle.trace.specs.Records.{as_settings, numbered, settings, activation as activation_record, as_activation, held_activation, refresh as refresh_record, record_of}
use Rattle.trace.specs.Reading.{or_refused, reading_by, reading}
use Rattle.columns.specs.Output.{number_columns, refusal_line}
use Rattle.canonical.specs.Spelling.{settings_numbers, spelled_line, activation_spelling, record_spelling, answer_spelling, spelling}
use Rattle.canonical.specs.Writing.{standing_behind, activation_fault, fault_to, first_fault_to, room_fault, writing_fault_to, writing_by, writing_to}
use Rattle.trace.specs.Texts.{in_front, lines, read as read_line, outcomes}
use Rattle.steps.specs.Output.{bound_line, refresh_line}
use Rattle.steps.specs.Steps.{start, refused_step, set_up_step, answered, activation_step, refresh_step, record_step_to, line_step_to, loaded_behind, step_to, next_to}
use Rattle.listing.specs.Texts.{listed_to, listing_to}
use Rattle.bound.specs.Totals.{size, total, disturbers, bound_at, bound_of}
use Rattle.bound.specs.Answers.{settings_of}
use Rattle.figures.specs.Table.{numbers, state_numbers, shown}
use Rattle.figures.specs.Edges.{small, two_places, untracked, activation_numbers, held_under}
use Rattle.figures.specs.Spellings.{set, held, row, set_16, writing_figure, refused_figure}
use Rattle.figures.specs.Remaps.{doubled}
use Rattle.figures.specs.Holds.{longer, held_figure, hold_calls, holds_input, holds_output, held_input, held_output, hold_writing, holds}
use Rattle.figures.proofs.Tests.{every}

pub holds_pass : T (every holds)
unfolding
    every same holds hold_calls hold_writing longer held_figure holds_input holds_output held_input held_output doubled
    numbers state_numbers shown small two_places untracked activation_numbers held_under set held row set_16 writing_figure refused_figure
    first_failed unless refuse tested within rows_allowed_to diameter_allowed block_allowed settings_tests_with settings_tests_to settings_of
    own_remap occurs_in all_occur remap_allowed physical hold_allowed repeated rows_from rows_between within_reach victims
    size total disturbers bound_at bound_of
    rows_of counts_of has count_or without without_all raised entered has_count without_count top picks
    empty in_rows disturb disturb_each drop_rows spread activation besides picked taken_out cleared_if sources event
    table entries_of read summary_of state_of zeros ascending counts_allowed valid
    victims_in block_rows ends_window next_event tables_long set_up_tests_to activation_tests_to refresh_tests_to kept_unless set_up_to activation_to refresh_to
    is_digit digits number field fields digit_or_blank columns_before printed written line ended extent
    bind as_settings numbered settings activation_record as_activation held_activation refresh_record record_of or_refused reading_by reading
    number_columns settings_numbers spelled_line activation_spelling record_spelling answer_spelling spelling
    standing_behind activation_fault fault_to first_fault_to room_fault writing_fault_to writing_by writing_to
    bound_line refresh_line refusal_line
    start refused_step set_up_step answered activation_step refresh_step record_step_to line_step_to loaded_behind step_to next_to
    in_front lines read_line outcomes listed_to listing_to
holds_pass = tt
