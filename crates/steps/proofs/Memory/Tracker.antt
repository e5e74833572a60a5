-- The tracker that a place and a table of counts hold, by whether one stands; and a line that leaves tracker and tables as they were.
use mathlib.Core.Path.{◌≡◌}
use mathlib.Core.Bool.{true, false}
use mathlib.Core.List.{List}
use mathlib.Core.Option.{none, some}
use Prim.Native.Nat.{ℕ}
use Rattle.device.specs.Remap.{remap_allowed}
use Rattle.limit.specs.Reachable.{Reached}
use Rattle.columns.specs.Output.{Prints}
use Rattle.steps.specs.declared.Place.{Place}
use Rattle.steps.specs.Memory.{memory, state_in, tracker_in, Running, Banked}
use Rattle.steps.specs.InnerContracts.{Leaves, at_line}

module _ (p : Place) (counts : List ℕ) where
  pub tracker_active : p.active ≡ true → tracker_in p counts ≡ some (record { settings = p.settings; remap = p.remap; state = state_in p counts })
  unfolding tracker_in
  tracker_active e = rw e

  pub tracker_inactive : p.active ≡ false → tracker_in p counts ≡ none
  unfolding tracker_in
  tracker_inactive e = rw e

  pub reached_active : p.active ≡ true → Running (tracker_in p counts) → Reached p.settings (state_in p counts) × (remap_allowed p.remap ≡ true)
  unfolding Running
  reached_active e r = rw (tracker_active e) at r

  -- the tracker, if one stands, is as it was, and so are the tables
  module _ {p' : Place} {loaded : List ℕ} {line : ℕ} (same : p' ≡ at_line p loaded line) where
    pub leaves_unmoved : {before after : List ℕ} {at end : ℕ} (text : List ℕ) → Prints before at text after end → Leaves (record { prints = text; tracker = tracker_in p counts }) loaded line (memory p' counts) before at after end
    unfolding tracker_in
    leaves_unmoved text printed = record { printed = printed; left = rw same }

    pub banked_unmoved : {marks bounds : List ℕ} → Banked p counts marks bounds → Banked p' counts marks bounds
    banked_unmoved b = rw same (record { marked = b.marked; bounds_long = b.bounds_long; bank = b.bank })
