-- The claims of specs/Claims.antt, each under its own name.
use Rattle.summary.specs.Steps.{estimate, picked}
use Rattle.summary.specs.Claims.{Beats, PicksAreHighest}
use Rattle.summary.proofs.Entries.Highest.{picks_are_tracked, picks_above_others, picks_in_order, length_picks}

pub picks_are_highest : PicksAreHighest
unfolding PicksAreHighest Beats estimate picked
picks_are_highest high volume s o =
    record {
      tracked = picks_are_tracked volume s.entries;
      above_others = picks_above_others s.spillover volume s.entries o;
      in_order = picks_in_order s.spillover volume s.entries o;
      as_many = length_picks volume s.entries;
    }
