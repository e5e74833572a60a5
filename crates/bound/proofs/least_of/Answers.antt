-- `bound::least_of` meets its contract: 2 × H is below the threshold exactly if the total is below the room that the threshold leaves.
use mathlib.Core.Path.{◌≡◌, ◌∙◌}
use Prim.Native.Nat.{ℕ, ◌+◌, ◌-◌, ◌*◌, ◌/◌}
use native.Mathlib.Omega.{arith}
use lib.Dec.{ltb}
use Rattle.laws.proofs.Cases.{tests_same}
use Rattle.device.specs.declared.Settings.{Settings}
use Rattle.device.proofs.Acceptance.{accepted_but_counters}
use Rattle.bound.specs.Totals.{size, total, disturbers, bound_at, bound_of}
use Rattle.bound.specs.Least.{with_counters, meets, least_of}
use Rattle.bound.specs.InnerContracts.{ends_below}
use Rattle.bound.proofs.Totals.Bound.{added_le}
use Rattle.bound.proofs.Least.{first_from_same}
use Rattle.bound.proofs.least_of.Goals as goal

-- twice a total with T' is below the threshold exactly if the total is below the room
halved : (t d threshold : ℕ) → ltb t ((threshold + 1) / 2 - d) ≡ ltb (2 * (t + d)) threshold
halved t d threshold = tests_same t ((threshold + 1) / 2 - d) (2 * (t + d)) threshold (λ h. omega arith) (λ h. omega arith)

same : (s : Settings) (threshold c : ℕ) →
    ends_below s.volume (s.blast_diameter * disturbers s) (s.window - 1) ((threshold + 1) / 2 - disturbers s) c ≡ meets s threshold c
unfolding ends_below meets bound_of bound_at with_counters disturbers
same s threshold c = halved (total (size s.volume c) (s.blast_diameter * disturbers s) (s.window - 1) 0) (disturbers s) threshold

pub overflow_sub-s : goal.overflow_sub-s
overflow_sub-s c = (accepted_but_counters c.args.s c.requires).window.least

pub least_below-requires : goal.least_below-requires
least_below-requires c =
    let ok = accepted_but_counters c.args.s c.requires in (
      ok.volume.least,
      ok.volume.most,
      rw c.added_of-added.ensures (added_le c.args.s ok),
      omega (arith, ok.window.most),
    )

pub returns : goal.returns
unfolding least_of
returns c =
    let a = c.args in
    let room = c.room_below-room.ensures in
    let disturbers_told = c.disturbers_of.ensures in
    let added = c.added_of-added.ensures in
    let told = rw (added, room, disturbers_told) at c.least_below.ensures in
    told ∙ first_from_same (same a.s a.threshold) (2049 - a.s.volume) a.s.volume
