-- Upper bounds of counts: one for each block of 64 rows, and behind these one for each group of 64 blocks. A bound may be too high.
use Rattle.std.specs.Prelude.{ℕ, ◌+◌, ◌/◌, ◌≤◌, ◌<◌, ◌≡◌, List, [], ◌∷◌, length, get_or, Option, Some, None}
use Rattle.device.specs.Acceptance.{most_rows}

-- the blocks, and all bounds: theirs, and one for each 64 of them
abbrev pub blocks : ℕ
blocks = 4096

abbrev pub all_bounds : ℕ
all_bounds = 4160

-- no block's bound is above its group's
pub record Nested (bounds : List ℕ) : Type 0 where
  pub bounds_long : length bounds ≡ all_bounds
  pub under : (b : ℕ) → b < blocks → get_or bounds b 0 ≤ get_or bounds (blocks + b / 64) 0

-- and no count is above its block's
pub record Capped (counts bounds : List ℕ) : Type 0 where
  pub nested : Nested bounds
  pub most : (row : ℕ) → get_or counts row 0 ≤ get_or bounds (row / 64) 0

-- the bounds rose to a row's count
pub record Covers (bounds bounds' : List ℕ) (row count : ℕ) : Type 0 where
  pub nested : Nested bounds'
  pub rise : (b : ℕ) → get_or bounds b 0 ≤ get_or bounds' b 0
  pub here : count ≤ get_or bounds' (row / 64) 0

-- the highest number of those from one place on and below another
pub record Highest (xs : List ℕ) (from to best : ℕ) : Type 0 where
  pub place : ℕ
  pub onward : from ≤ place
  pub inside : place < to
  pub there : get_or xs place 0 ≡ best
  pub above : (i : ℕ) → from ≤ i → i < to → get_or xs i 0 ≤ best

-- its first place
pub record Top (xs : List ℕ) (from to place : ℕ) : Type 0 where
  pub onward : from ≤ place
  pub inside : place < to
  pub highest : (i : ℕ) → from ≤ i → i < to → get_or xs i 0 ≤ get_or xs place 0
  pub first : (i : ℕ) → from ≤ i → i < place → get_or xs i 0 < get_or xs place 0

-- all numbers together
unfoldable pub total : List ℕ → ℕ
total [] = 0
total (x ∷ xs) = x + total xs

-- what a try for the highest count came to: the row, or none where a bound was too high and was lowered
abbrev pub Tried : List ℕ → List ℕ → List ℕ → Option ℕ → Type 0
Tried counts bounds bounds' (Some row) = Capped counts bounds' × Top counts 0 most_rows row
Tried counts bounds bounds' None = Capped counts bounds' × (total bounds' < total bounds)
