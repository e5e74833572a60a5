-- The claims of specs/Claims.antt, each under its own name.
use mathlib.Core.Bool.{true}
use Rattle.device.specs.Acceptance.{most_counters, within, settings_tests_to, settings_tests_but_counters_to}
use Rattle.device.specs.Claims.{SettingsStay, VictimsAreNeighbours, SmallBanksUncut, RemapIsPermutation, OwnRemapAllowed}
use Rattle.device.proofs.Acceptance.{rows_small_alike, rows_large_alike, settings_above, but_counters_above, settings_alike, but_counters_alike, accepted_stays}
use Rattle.device.proofs.Victims.{victim_near, near_victim, victims_ascend, ascends_at, length_victims_le, victims_uncut}
use Rattle.device.proofs.Remap.{physical_below, physical_distinct, own_allowed}

pub settings_stay : SettingsStay
unfolding SettingsStay settings_tests_to settings_tests_but_counters_to
settings_stay most h s =
    let counters = within s.volume most_counters s.counters in (
      record {
        accepted_stays = accepted_stays most h counters s;
        same_tests = settings_alike most s;
        above_refused = settings_above most s;
      },
      record {
        accepted_stays = accepted_stays most h true s;
        same_tests = but_counters_alike most s;
        above_refused = but_counters_above most s;
      },
      rows_small_alike most s.rows h,
      rows_large_alike most s.rows h,
    )

pub victims_are_neighbours : VictimsAreNeighbours
unfolding VictimsAreNeighbours
victims_are_neighbours rows diameter row h =
    record {
      only_near = victim_near rows diameter row h;
      all_near = near_victim rows diameter row;
      ascending = ascends_at (victims_ascend rows diameter row h);
      at_most = length_victims_le rows diameter row;
    }

pub small_banks_uncut : SmallBanksUncut
unfolding SmallBanksUncut
small_banks_uncut rows diameter row small h = victims_uncut rows diameter row small h

pub remap_is_permutation : RemapIsPermutation
unfolding RemapIsPermutation
remap_is_permutation remap ok rows whole =
    record { stays = λ row h. physical_below remap ok rows row whole h; differs = physical_distinct remap ok }

pub own_remap_allowed : OwnRemapAllowed
unfolding OwnRemapAllowed
own_remap_allowed = own_allowed
