-- The table of the writer's figures passes its test, by computing.
use mathlib.Core.Option.{bind}
use lib.Dec.{T}
use Rattle.laws.specs.Same.{same}
use Rattle.device.specs.Refusal.{first_failed, unless, refuse}
use Rattle.device.specs.Acceptance.{within, rows_allowed_to, diameter_allowed, block_allowed, settings_tests_with, settings_tests_to}
use Rattle.device.specs.Hold.{hold_allowed}
use Rattle.columns.specs.Numbers.{is_digit, digits, number, field, fields, digit_or_blank, columns_before, printed, written}
use Rattle.trace.specs.Lines.{line, ended, extent}
use Rattle.trace.specs.Records.{as_settings, numbered, settings, activation, refresh, record_of}
use Rattle.trace.specs.Reading.{or_refused, reading_by, reading}
use Rattle.trace.specs.Texts.{in_front, lines, read, outcomes}
use Rattle.columns.specs.Output.{number_columns}
use Rattle.canonical.specs.Spelling.{settings_numbers, spelled_line, activation_spelling, record_spelling, answer_spelling, spelling}
use Rattle.canonical.specs.Writing.{standing_behind, activation_fault, event_fault, fault_to, first_fault_to, before_fault_to, room_fault, writing_fault_to, writing_by, writing_to}
use Rattle.bound.specs.Answers.{settings_of}
use Rattle.figures.specs.Table.{numbers, shown}
use Rattle.figures.specs.Spellings.{respelled_input, respelled_output, set, held, row, event, blank, set_16, writing_figure, refused_figure, spellings}
use Rattle.figures.proofs.Tests.{every}

pub spellings_pass : T (every spellings)
unfolding
    every same spellings numbers shown respelled_input respelled_output set held row event blank set_16 writing_figure refused_figure
    first_failed unless refuse hold_allowed within rows_allowed_to diameter_allowed block_allowed settings_tests_with settings_tests_to settings_of
    is_digit digits number field fields digit_or_blank columns_before printed written line ended extent
    bind as_settings numbered settings activation refresh record_of or_refused reading_by reading in_front lines read outcomes
    number_columns settings_numbers spelled_line activation_spelling record_spelling answer_spelling spelling
    standing_behind activation_fault event_fault fault_to first_fault_to before_fault_to room_fault writing_fault_to writing_by writing_to
spellings_pass = tt
