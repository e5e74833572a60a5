-- The rules of a summary's own, as predicates: counts at least the spillover and at least 1, rows ascending below the bank's end, no more
-- than there are places; and how high counts may be.
use Rattle.std.specs.Prelude.{ℕ, suc, ◌-◌, ◌≤◌, ◌<◌, List, [], ◌∷◌, length}
use Rattle.summary.specs.Entries.{Entry}
use Rattle.summary.specs.Steps.{Summary}

-- every count is at least low
pub data Floor (low : ℕ) : List Entry → Type 0 where
  floor_none : Floor low []
  floor_more : (x : Entry) {xs : List Entry} → Floor low xs → low ≤ x.count → Floor low (x ∷ xs)

-- every count is at most high
pub data Ceiling (high : ℕ) : List Entry → Type 0 where
  bare : Ceiling high []
  under : (x : Entry) {xs : List Entry} → Ceiling high xs → x.count ≤ high → Ceiling high (x ∷ xs)

-- rows from low on and below high, each above the one before
pub data Ordered (high : ℕ) : ℕ → List Entry → Type 0 where
  ordered_none : {low : ℕ} → Ordered high low []
  ordered_more : (low : ℕ) (x : Entry) {xs : List Entry} → Ordered high (suc x.row) xs → low ≤ x.row → x.row < high → Ordered high low (x ∷ xs)

-- rows that are all below the bank's end
pub data Below (high : ℕ) : List ℕ → Type 0 where
  below_none : Below high []
  below_more : (row : ℕ) {rows : List ℕ} → Below high rows → row < high → Below high (row ∷ rows)

-- a summary that breaks no rule
pub record Sound (high counters : ℕ) (s : Summary) : Type 0 where
  pub floor : Floor s.spillover s.entries
  pub positive : Floor 1 s.entries
  pub ordered : Ordered high 0 s.entries
  pub fits : length s.entries ≤ counters

-- no count and no spillover above a number
pub record Room (most : ℕ) (s : Summary) : Type 0 where
  pub counts : Ceiling most s.entries
  pub spillover_le : s.spillover ≤ most

-- room for so many more disturbances in numbers of 32 bits: each raises no count, and not the spillover, by more than 1
abbrev pub RoomFor : ℕ → Summary → Type 0
RoomFor more s = Room (4294967295 - more) s
