-- The example of specs/Example.antt, by computing: the older yes, the no, and the rows that are named after it.
use mathlib.Core.Path.{refl}
use Rattle.laws.specs.Same.{same}
use Rattle.device.specs.Refusal.{first_failed, unless, refuse, tested}
use Rattle.device.specs.Acceptance.{within, rows_allowed_to, diameter_allowed, block_allowed, settings_tests_with, settings_tests_to}
use Rattle.device.specs.Remap.{own_remap, occurs_in, all_occur, remap_allowed, physical}
use Rattle.device.specs.Hold.{hold_allowed, repeated}
use Rattle.device.specs.Victims.{rows_from, rows_between, within_reach, victims}
use Rattle.summary.specs.Entries.{rows_of, counts_of, has, count_or, without, without_all, entered, has_count, top, picks}
use Rattle.summary.specs.Steps.{empty, estimate, disturb, disturb_each, drop_rows, activation, picked}
use Rattle.summary.specs.Tables.{table, entries_of, read}
use Rattle.state.specs.State.{summary_of, state_of, zeros, ascending, counts_allowed, valid, tables_long, given}
use Rattle.tracker.specs.Calls.{victims_in, set_up_tests_to, activation_tests_to, refresh_tests_to, kept_unless, set_up_to, activation_to, refresh_to}
use Rattle.agreement.specs.Calls.{same_settings, same_position, same_tracked, agreement_tests_to, agreement_to, estimates_tests_to, same_estimates, estimates_to}
use Rattle.agreement.specs.Example.{one_counter, one_place, once_activated, event_after}
use Rattle.agreement.specs.Later.{settings_by, remap_by, answer_to, position_after, memory_after, memory_behind}
use Rattle.agreement.specs.Claims.{OlderNotEnough}

pub told_by_computing : OlderNotEnough
unfolding
    OlderNotEnough one_counter one_place once_activated event_after memory_behind memory_after answer_to position_after settings_by remap_by given
    first_failed unless refuse tested within rows_allowed_to diameter_allowed block_allowed settings_tests_with settings_tests_to
    own_remap occurs_in all_occur remap_allowed physical hold_allowed repeated rows_from rows_between within_reach victims
    rows_of counts_of has count_or without without_all entered has_count top picks
    empty estimate disturb disturb_each drop_rows activation picked
    table entries_of read summary_of state_of zeros ascending counts_allowed valid
    victims_in tables_long set_up_tests_to activation_tests_to refresh_tests_to kept_unless set_up_to activation_to refresh_to
    same same_settings same_position same_tracked same_estimates agreement_tests_to agreement_to estimates_tests_to estimates_to
told_by_computing = (refl, refl, refl, refl, refl, refl, refl, refl, refl)
