-- A disturbance by its four cases: what holds of the summary that each case makes holds of the disturbed one, and which one each case makes.
use mathlib.Core.Path.{◌≡◌}
use mathlib.Core.Bool.{true, false}
use Prim.Native.Nat.{ℕ, ◌≤◌, ◌<◌}
use borrow.Author.Tests.{ltb-true, ltb-false, lt-ltb, le-ltb}
use lib.Dec.{ltb}
use lib.ListN.{length}
use Rattle.laws.proofs.Cases.{split}
use Rattle.summary.specs.Entries.{has, has_count}
use Rattle.summary.specs.Steps.{Summary, raise, enter, make_room, spill, disturb}

module _ (P : Summary → Type 0) (counters row : ℕ) (s : Summary) where
  pub by_cases :
      (has row s.entries ≡ true → P (raise row s)) →
      (has row s.entries ≡ false → length s.entries < counters → P (enter row s)) →
      (has row s.entries ≡ false → counters ≤ length s.entries → has_count s.spillover s.entries ≡ true → P (enter row (make_room s))) →
      (has row s.entries ≡ false → counters ≤ length s.entries → has_count s.spillover s.entries ≡ false → P (spill s)) →
      P (disturb counters row s)
  unfolding disturb
  by_cases tracked free low high =
      split (has row s.entries)
      (λ e. rw e (tracked e))
      (λ e.
      split (ltb (length s.entries) counters)
      (λ f. rw (e, f) (free e (ltb-true (length s.entries) counters f)))
      (λ f.
      let full = ltb-false (length s.entries) counters f in
      split (has_count s.spillover s.entries)
      (λ l. rw (e, f, l) (low e full l))
      (λ l. rw (e, f, l) (high e full l))))

-- the four cases of a disturbance
module _ (counters row : ℕ) (sum : Summary) where
  pub disturb_raise : has row sum.entries ≡ true → disturb counters row sum ≡ raise row sum
  unfolding disturb
  disturb_raise e = rw e

  pub disturb_enter : has row sum.entries ≡ false → length sum.entries < counters → disturb counters row sum ≡ enter row sum
  unfolding disturb
  disturb_enter e free = rw (e, lt-ltb (length sum.entries) counters free)

  pub disturb_exchange : has row sum.entries ≡ false → counters ≤ length sum.entries → has_count sum.spillover sum.entries ≡ true → disturb counters row sum ≡ enter row (make_room sum)
  unfolding disturb
  disturb_exchange e full low = rw (e, le-ltb (length sum.entries) counters full, low)

  pub disturb_spill : has row sum.entries ≡ false → counters ≤ length sum.entries → has_count sum.spillover sum.entries ≡ false → disturb counters row sum ≡ spill sum
  unfolding disturb
  disturb_spill e full up = rw (e, le-ltb (length sum.entries) counters full, up)
