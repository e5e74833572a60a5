-- 'Settings, in this order': what is allowed of each, and the tests with their numbers. The most that N may be is an argument of what rests on it, so that
-- Claims.antt can say of settings of a smaller range that they get what they got.
use Rattle.std.specs.Prelude.{ℕ, ◌*◌, ◌%◌, Bool, true, ◌&&◌, ◌||◌, List, [], ◌∷◌, leb, eqb}
use Rattle.device.specs.declared.Settings.{Settings}
use Rattle.device.specs.Refusal.{Test, unless}

-- the most rows in a bank, 'N may now be any multiple of 16 up to 262,144'
abbrev pub most_rows : ℕ
most_rows = 262144

-- the most counters, 'C .. V to 2,048'
abbrev pub most_counters : ℕ
most_counters = 2048

-- 'low to high'
unfoldable pub within : ℕ → ℕ → ℕ → Bool
within low high x = leb low x && leb x high

-- N: a multiple of 16, from 16 up to the most
unfoldable pub rows_allowed_to : ℕ → ℕ → Bool
rows_allowed_to most n = within 16 most n && eqb (n % 16) 0

-- B: 2 or 4
unfoldable pub diameter_allowed : ℕ → Bool
diameter_allowed b = eqb b 2 || eqb b 4

-- P: 1 to 64, with P × n at least N
unfoldable pub block_allowed : ℕ → ℕ → ℕ → Bool
block_allowed p n rows = within 1 64 p && leb rows (p * n)

-- 'Settings are tested first': 1 N, 2 B, 3 V, 4 C, 5 T, 6 n, 7 P; the most that N may be, and whether C is allowed, are said apart
unfoldable pub settings_tests_with : ℕ → Bool → Settings → List Test
settings_tests_with most counters_allowed s =
    unless (rows_allowed_to most s.rows) 1 ∷
    unless (diameter_allowed s.blast_diameter) 2 ∷
    unless (within 1 16 s.volume) 3 ∷
    unless counters_allowed 4 ∷
    unless (within 1 4096 s.interval) 5 ∷
    unless (within 1 8192 s.window) 6 ∷
    unless (block_allowed s.block s.window s.rows) 7 ∷ []

-- the tests of all seven settings; C: V to 2,048
unfoldable pub settings_tests_to : ℕ → Settings → List Test
settings_tests_to most s = settings_tests_with most (within s.volume most_counters s.counters) s

-- the tests where no C is given ('skips 4')
unfoldable pub settings_tests_but_counters_to : ℕ → Settings → List Test
settings_tests_but_counters_to most s = settings_tests_with most true s

-- the same with N up to `most_rows`
abbrev pub rows_allowed : ℕ → Bool
rows_allowed n = rows_allowed_to most_rows n

abbrev pub settings_tests : Settings → List Test
settings_tests s = settings_tests_to most_rows s

abbrev pub settings_tests_but_counters : Settings → List Test
settings_tests_but_counters s = settings_tests_but_counters_to most_rows s
