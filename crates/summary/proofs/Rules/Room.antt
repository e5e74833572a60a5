-- Room for more disturbances: no count and no spillover above a number, which a disturbance raises by at most 1 and a drop does not.
use mathlib.Core.List.{List, [], ◌∷◌}
use Prim.Native.Nat.{ℕ, ◌+◌, ◌≤◌}
use native.Mathlib.Omega.{arith}
use lib.ListN.{length}
use Rattle.summary.specs.Steps.{Summary, disturb, disturb_each, drop_rows}
use Rattle.summary.specs.Rules.{Ceiling, Room}
use Rattle.summary.proofs.Rules.Ceiling.{ceiling_higher, ceiling_raised, ceiling_entered, ceiling_without_count, ceiling_without_all}
use Rattle.summary.proofs.Steps.Disturb.{by_cases}

pub room_more : {most most' : ℕ} {s : Summary} → Room most s → most ≤ most' → Room most' s
room_more r h = record { counts = ceiling_higher r.counts h; spillover_le = omega (arith, r.spillover_le) }

pub room_drop : {most : ℕ} (rows : List ℕ) {s : Summary} → Room most s → Room most (drop_rows rows s)
unfolding drop_rows
room_drop rows r = record { counts = ceiling_without_all rows r.counts; spillover_le = r.spillover_le }

pub room_disturb : {most : ℕ} (counters row : ℕ) (s : Summary) → Room most s → Room (most + 1) (disturb counters row s)
room_disturb {most} counters row s r =
    by_cases (λ made. Room (most + 1) made) counters row s
    (λ tracked. record { counts = ceiling_raised row r.counts; spillover_le = more })
    (λ untracked free. record { counts = ceiling_entered row (s.spillover + 1) higher raised_spill; spillover_le = more })
    (λ untracked full low. record { counts = ceiling_entered row (s.spillover + 1) (ceiling_without_count s.spillover higher) raised_spill; spillover_le = more })
    (λ untracked full high. record { counts = higher; spillover_le = raised_spill })
  where
    more : s.spillover ≤ most + 1
    more = omega (arith, r.spillover_le)

    raised_spill : s.spillover + 1 ≤ most + 1
    raised_spill = omega (arith, r.spillover_le)

    higher : Ceiling (most + 1) s.entries
    higher = ceiling_higher r.counts (omega arith)

pub room_each : {most : ℕ} (counters : ℕ) (rows : List ℕ) (s : Summary) → Room most s → Room (most + length rows) (disturb_each counters rows s)
unfolding disturb_each
room_each {most = most} counters [] s r = room_more r (omega arith)
room_each {most = most} counters (row ∷ rows) s r = room_more (room_each {most = most + 1} counters rows (disturb counters row s) (room_disturb counters row s r)) (omega arith)
