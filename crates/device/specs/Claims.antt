-- What is claimed of the device, besides the functions' contracts. proofs/Claims.antt proves each under the same name.
use Rattle.std.specs.Prelude.{ℕ, ◌+◌, ◌-◌, ◌/◌, ◌%◌, ◌≤◌, ◌<◌, ◌≡◌, true, length, get_or}
use mathlib.Core.List.{List, Memᴰ}
use Rattle.device.specs.declared.Settings.{Settings}
use Rattle.device.specs.Refusal.{Test, first_failed}
use Rattle.device.specs.Acceptance.{most_rows, rows_allowed_to, rows_allowed, settings_tests_to, settings_tests_but_counters_to}
use Rattle.device.specs.Remap.{own_remap, remap_allowed, physical}
use Rattle.device.specs.Victims.{within_reach, subarray_rows, subarray, victims}

-- N is allowed, or not, as it is where it may be up to another most
abbrev pub Alike : ℕ → Settings → Type 0
Alike most s = rows_allowed_to most s.rows ≡ rows_allowed s.rows

-- tests of settings beside the same with another most: what that accepts is accepted, and N judged alike; where N is judged alike the tests are the same; N above
-- that most is refused with 1
pub record Stays (tests : ℕ → Settings → List Test) (most : ℕ) (s : Settings) : Type 0 where
  pub accepted_stays : first_failed (tests most s) ≡ 0 → (first_failed (tests most_rows s) ≡ 0) × Alike most s
  pub same_tests : Alike most s → tests most s ≡ tests most_rows s
  pub above_refused : most < s.rows → first_failed (tests most s) ≡ 1

-- 'settings that were valid' where N went up to less, to 65,536 in document 01, are valid, with a C and where none is given; and nothing but N from there to
-- `most_rows` is judged otherwise
unfoldable pub SettingsStay : Type 0
SettingsStay =
    (most : ℕ) → most ≤ most_rows → (s : Settings) →
    Stays settings_tests_to most s × Stays settings_tests_but_counters_to most s ×
    (s.rows ≤ most → Alike most s) × (most_rows < s.rows → Alike most s)

-- the distance of two rows
abbrev pub distance : ℕ → ℕ → ℕ
distance a b = (a - b) + (b - a)

-- 'neighbours at distance 1 to B/2 that exist (0 to N − 1), ascending', 'those in the same 512-row part': those, all of them, and each above the
-- one before, so none twice
pub record Neighbours (rows diameter row : ℕ) (list : List ℕ) : Type 0 where
  pub only_near : (v : ℕ) → Memᴰ v list → (v < rows) × (subarray v ≡ subarray row) × (1 ≤ distance v row) × (distance v row ≤ diameter / 2)
  pub all_near : (v : ℕ) → v < rows → subarray v ≡ subarray row → 1 ≤ distance v row → distance v row ≤ diameter / 2 → Memᴰ v list
  pub ascending : (i j : ℕ) → i < j → j < length list → get_or list i 0 < get_or list j 0
  pub at_most : length list ≤ diameter

-- the victims of a row are exactly the other rows of its subarray, in the bank and within reach, ascending and at most B
unfoldable pub VictimsAreNeighbours : Type 0
VictimsAreNeighbours = (rows diameter row : ℕ) → row < rows → Neighbours rows diameter row (victims rows diameter row)

-- 'banks of 512 rows or fewer see no difference': their rows have the victims that the bank's ends alone leave
unfoldable pub SmallBanksUncut : Type 0
SmallBanksUncut =
    (rows diameter row : ℕ) → rows ≤ subarray_rows → row < rows → victims rows diameter row ≡ within_reach 0 rows (diameter / 2) row

-- a permutation of the bank's rows: rows of the bank stay in the bank, and different rows stay different
pub record Permutation (remap : List ℕ) (rows : ℕ) : Type 0 where
  pub stays : (row : ℕ) → row < rows → physical remap row < rows
  pub differs : (row other : ℕ) → physical remap row ≡ physical remap other → row ≡ other

-- every remap that is accepted is a permutation of the bank
unfoldable pub RemapIsPermutation : Type 0
RemapIsPermutation = (remap : List ℕ) → remap_allowed remap ≡ true → (rows : ℕ) → rows % 16 ≡ 0 → Permutation remap rows

-- our own is accepted
unfoldable pub OwnRemapAllowed : Type 0
OwnRemapAllowed = remap_allowed own_remap ≡ true
