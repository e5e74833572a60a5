-- `event`: its steps one after the other. What each leaves is what the next begins with, and together they are the event.
use mathlib.Core.Path.{◌≡◌, refl}
use mathlib.Core.List.{List, ◌++◌}
use mathlib.Core.Bool.{Bool, true, false}
use Prim.Native.Nat.{ℕ, ◌≤◌}
use native.Mathlib.Nat.{sub-zero}
use native.Mathlib.Omega.{arith}
use lib.ListN.{length, replicate, take, drop}
use lib.Seq.{take_at}
use Rattle.device.specs.Acceptance.{most_rows}
use Rattle.summary.specs.Steps.{Summary, spread, besides, drop_rows, picked, taken_out, empty, cleared_if, sources, event}
use Rattle.summary.specs.Rules.{Room, Below, below_none, below_more, bare, Ordered, RoomFor}
use Rattle.summary.specs.Tables.{table, read}
use Rattle.summary.specs.InnerContracts.{Holds, PickedFrom}
use Rattle.summary.specs.Entries.{rows_of, counts_of, picks}
use Rattle.summary.proofs.Steps.Event.{without_append}
use Rattle.summary.proofs.Rules.Sound.{sound_empty}
use Rattle.summary.proofs.InnerContracts.Holds.{held_read, long_rows}
use Rattle.summary.proofs.Rules.Room.{room_more, room_drop}
use Rattle.summary.proofs.Entries.Picks.{picks_below, length_picks_le}
use Rattle.tracker.proofs.Steps.Spread.{spread_append, room_spread}

-- picked rows out, then the block's
pub taken_out_split : (volume : ℕ) (block : List ℕ) (sum : Summary) → taken_out volume block sum ≡ drop_rows block (drop_rows (picks volume sum.entries) sum)
unfolding taken_out picked drop_rows
taken_out_split volume block sum = rw (without_append (picks volume sum.entries) block sum.entries)

pub room_taken_out : {most : ℕ} (volume : ℕ) (block : List ℕ) {sum : Summary} → Room most sum → Room most (taken_out volume block sum)
unfolding taken_out
room_taken_out volume block {sum} r = room_drop (picked volume sum ++ block) r

pub room_cleared : {most : ℕ} (last : Bool) {sum : Summary} → Room most sum → Room most (cleared_if last sum)
unfolding cleared_if empty
room_cleared true r = record { counts = bare; spillover_le = omega arith }
room_cleared false r = r

-- rows below a number are below every higher one
pub below_higher : {high high' : ℕ} {rows : List ℕ} → Below high rows → high ≤ high' → Below high' rows
below_higher below_none h = below_none
below_higher (below_more row b l) h = below_more row (below_higher b h) (omega arith)

module _ {volume : ℕ} {sum : Summary} {list₀ list : List ℕ} {count : ℕ} (p : PickedFrom volume sum list₀ list count) where
  -- the rows that were named
  pub take_picked : take count list ≡ picked volume sum
  unfolding picked
  take_picked =
      rw (p.named, p.counted)
      (take_at (picks volume sum.entries) (drop (length (picks volume sum.entries)) list₀) (length (picks volume sum.entries)) refl)

  pub count_picked_le : count ≤ volume
  count_picked_le = rw p.counted (length_picks_le volume sum.entries)

  pub take_picked_below : {high : ℕ} → Ordered high 0 sum.entries → Below high (take count list)
  unfolding picked
  take_picked_below o = rw take_picked (picks_below volume sum.entries o)

-- the steps one after the other are the event
pub event_split : (counters : ℕ) (victims_of : ℕ → List ℕ) (volume : ℕ) (block : List ℕ) (last : Bool) (sum : Summary) {names : List ℕ} → names ≡ picked volume sum → spread counters victims_of (besides names block) (spread counters victims_of names (cleared_if last (taken_out volume block sum))) ≡ event counters victims_of volume block last sum
unfolding event sources
event_split counters victims_of volume block last sum {names} named =
    rw (← named, spread_append counters victims_of names (besides names block) (cleared_if last (taken_out volume block sum)))
