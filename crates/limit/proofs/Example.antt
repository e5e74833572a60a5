-- The example of specs/Example.antt, by computing.
use mathlib.Core.Path.{refl}
use Rattle.device.specs.Remap.{own_remap, physical}
use Rattle.device.specs.Hold.{repeated}
use Rattle.device.specs.Victims.{rows_from, rows_between, within_reach, victims}
use Rattle.summary.specs.Steps.{in_rows, besides}
use Rattle.tracker.specs.Calls.{victims_in, block_rows}
use Rattle.limit.specs.Exact.{at_rest, zeroed, one_more, disturbed_by, once, restored, renewed, one_event_more, after, after_all, exact}
use Rattle.limit.specs.Example.{numbers_from, held_by, sixteen_rows, up_to_line_4, up_to_line_5}
use Rattle.limit.specs.Claims.{ExampleCounted}

pub counted_by_computing : ExampleCounted
unfolding
    ExampleCounted numbers_from held_by sixteen_rows up_to_line_4 up_to_line_5
    at_rest zeroed one_more disturbed_by once restored renewed one_event_more after after_all exact
    own_remap physical repeated rows_from rows_between within_reach victims in_rows besides victims_in block_rows
counted_by_computing = (refl, refl)
