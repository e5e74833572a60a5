-- What it says of the settings that they are accepted, as facts about numbers; their refusals are 1 to 7.
use mathlib.Core.Path.{◌≡◌, refl, sym, ap, ◌∙◌}
use mathlib.Core.Bool.{Bool, true, false, ◌&&◌, ◌||◌, not, and-false}
use mathlib.Core.Logic.{◌⊎◌, inl, inr, ⊎_map, ⊎_elim}
use mathlib.Core.List.{List, ◌++◌}
use Prim.Native.Nat.{ℕ, ◌*◌, ◌%◌, ◌≤◌, ◌<◌}
use native.Mathlib.Omega.{arith}
use borrow.Author.Tests.{leb-true, eqb-true, le-leb, lt-leb}
use lib.Dec.{leb, eqb, lit≤}
use Rattle.laws.proofs.Cases.{and_both, le_or_lt, zero_one}
use Rattle.device.specs.declared.Settings.{Settings}
use Rattle.device.specs.Refusal.{Test, first_failed, unless}
use Rattle.device.specs.Acceptance.{most_rows, most_counters, within, rows_allowed_to, rows_allowed, diameter_allowed, block_allowed, settings_tests_with, settings_tests_to, settings_tests_but_counters_to, settings_tests, settings_tests_but_counters}
use Rattle.device.specs.Claims.{Alike}
use Rattle.device.proofs.Tests.{refuse_passed, refuse_failed, refuse_le, or_later, later_refuse}

-- a number from low to high
pub record Between (low high x : ℕ) : Type 0 where
  pub least : low ≤ x
  pub most : x ≤ high

-- accepted settings, whatever the counter count
pub record InRange (s : Settings) : Type 0 where
  pub rows : Between 16 most_rows s.rows
  pub rows_whole : s.rows % 16 ≡ 0
  pub diameter : (s.blast_diameter ≡ 2) ⊎ (s.blast_diameter ≡ 4)
  pub volume : Between 1 16 s.volume
  pub interval : Between 1 4096 s.interval
  pub window : Between 1 8192 s.window
  pub block : Between 1 64 s.block
  pub covered : s.rows ≤ s.block * s.window

-- accepted settings
pub record Accepted (s : Settings) : Type 0 where
  pub others : InRange s
  pub counters : Between s.volume most_counters s.counters

or_true_either : (a b : Bool) → (a || b) ≡ true → (a ≡ true) ⊎ (b ≡ true)
or_true_either true b e = inl refl
or_true_either false b e = inr e

pub within_between : (low high x : ℕ) → within low high x ≡ true → Between low high x
unfolding within
within_between low high x e =
    let parts = and_both (leb low x) (leb x high) e in
    record { least = leb-true low x parts.0; most = leb-true x high parts.1 }

diameter_of : (b : ℕ) → diameter_allowed b ≡ true → (b ≡ 2) ⊎ (b ≡ 4)
unfolding diameter_allowed
diameter_of b e = ⊎_map (eqb-true b 2) (eqb-true b 4) (or_true_either (eqb b 2) (eqb b 4) e)

tests_passed : (counters_allowed : Bool) (s : Settings) → first_failed (settings_tests_with most_rows counters_allowed s) ≡ 0 → (counters_allowed ≡ true) × InRange s
unfolding first_failed unless settings_tests_with rows_allowed_to block_allowed
tests_passed counters_allowed s e =
    let p1 = refuse_passed (rows_allowed s.rows) 0 _ e in
    let p2 = refuse_passed (diameter_allowed s.blast_diameter) 1 _ p1.1 in
    let p3 = refuse_passed (within 1 16 s.volume) 2 _ p2.1 in
    let p4 = refuse_passed counters_allowed 3 _ p3.1 in
    let p5 = refuse_passed (within 1 4096 s.interval) 4 _ p4.1 in
    let p6 = refuse_passed (within 1 8192 s.window) 5 _ p5.1 in
    let p7 = refuse_passed (block_allowed s.block s.window s.rows) 6 _ p6.1 in
    let whole = and_both (within 16 most_rows s.rows) (eqb (s.rows % 16) 0) p1.0 in
    let regular = and_both (within 1 64 s.block) (leb s.rows (s.block * s.window)) p7.0 in (
      p4.0,
      record {
        rows = within_between 16 most_rows s.rows whole.0;
        rows_whole = eqb-true (s.rows % 16) 0 whole.1;
        diameter = diameter_of s.blast_diameter p2.0;
        volume = within_between 1 16 s.volume p3.0;
        interval = within_between 1 4096 s.interval p5.0;
        window = within_between 1 8192 s.window p6.0;
        block = within_between 1 64 s.block regular.0;
        covered = leb-true s.rows (s.block * s.window) regular.1;
      },
    )

pub accepted_settings : (s : Settings) → first_failed (settings_tests s) ≡ 0 → Accepted s
unfolding settings_tests_to
accepted_settings s e =
    let parts = tests_passed (within s.volume most_counters s.counters) s e in
    record { others = parts.1; counters = within_between s.volume most_counters s.counters parts.0 }

pub accepted_but_counters : (s : Settings) → first_failed (settings_tests_but_counters s) ≡ 0 → InRange s
unfolding settings_tests_but_counters_to
accepted_but_counters s e = (tests_passed true s e).1

-- accepted settings pass the tests that skip the counter count
pub accepted_skipping : (s : Settings) → first_failed (settings_tests s) ≡ 0 → first_failed (settings_tests_but_counters s) ≡ 0
unfolding settings_tests_to settings_tests_but_counters_to
accepted_skipping s e = rw (tests_passed (within s.volume most_counters s.counters) s e).0 at e

-- the settings' refusals-le are 1 to 7
refusals_with_le : (counters_allowed : Bool) (s : Settings) → first_failed (settings_tests_with most_rows counters_allowed s) ≤ 7
unfolding first_failed unless settings_tests_with
refusals_with_le counters_allowed s =
    refuse_le (not (rows_allowed s.rows)) 1 (lit≤ tt)
    (refuse_le (not (diameter_allowed s.blast_diameter)) 2 (lit≤ tt)
    (refuse_le (not (within 1 16 s.volume)) 3 (lit≤ tt)
    (refuse_le (not counters_allowed) 4 (lit≤ tt)
    (refuse_le (not (within 1 4096 s.interval)) 5 (lit≤ tt)
    (refuse_le (not (within 1 8192 s.window)) 6 (lit≤ tt)
    (refuse_le (not (block_allowed s.block s.window s.rows)) 7 (lit≤ tt) (lit≤ tt)))))))

pub refusals_le : (s : Settings) → first_failed (settings_tests s) ≤ 7
unfolding settings_tests_to
refusals_le s = refusals_with_le (within s.volume most_counters s.counters) s

pub refusals_but_counters_le : (s : Settings) → first_failed (settings_tests_but_counters s) ≤ 7
unfolding settings_tests_but_counters_to
refusals_but_counters_le s = refusals_with_le true s

-- tests behind the settings' are heard where the settings are accepted-settings
pub settings_then : (s : Settings) (later : List Test) → first_failed (settings_tests s ++ later) ≡ or_later (first_failed (settings_tests s)) (first_failed later)
unfolding first_failed unless settings_tests_to settings_tests_with or_later
settings_then s later =
    simp (
      later_refuse (not (rows_allowed s.rows)) 0,
      later_refuse (not (diameter_allowed s.blast_diameter)) 1,
      later_refuse (not (within 1 16 s.volume)) 2,
      later_refuse (not (within s.volume most_counters s.counters)) 3,
      later_refuse (not (within 1 4096 s.interval)) 4,
      later_refuse (not (within 1 8192 s.window)) 5,
      later_refuse (not (block_allowed s.block s.window s.rows)) 6,
    )

-- N up to another most: not above it, judged alike up to a smaller one and above `most_rows`
within_above : (low high x : ℕ) → high < x → within low high x ≡ false
unfolding within
within_above low high x h = rw (lt-leb x high h) (and-false (leb low x))

rows_above : (most n : ℕ) → most < n → rows_allowed_to most n ≡ false
unfolding rows_allowed_to
rows_above most n h = ap (λ (b : Bool). b && eqb (n % 16) 0) (within_above _ most n h)

pub rows_small_alike : (most n : ℕ) → most ≤ most_rows → n ≤ most → rows_allowed_to most n ≡ rows_allowed n
unfolding rows_allowed_to within
rows_small_alike most n h small = rw (le-leb n most small, le-leb n most_rows (omega arith))

pub rows_large_alike : (most n : ℕ) → most ≤ most_rows → most_rows < n → rows_allowed_to most n ≡ rows_allowed n
rows_large_alike most n h large = rows_above most n (omega arith) ∙ sym (rows_above most_rows n large)

-- N above the most is refused with 1, whatever is tested behind it; so accepted settings have none
above_refused : (most : ℕ) (counters_allowed : Bool) (s : Settings) → most < s.rows → first_failed (settings_tests_with most counters_allowed s) ≡ 1
unfolding first_failed unless settings_tests_with
above_refused most counters_allowed s h = refuse_failed (rows_allowed_to most s.rows) 1 _ (rows_above most s.rows h)

pub above_then : (most : ℕ) (s : Settings) → most < s.rows → (later : List Test) → first_failed (settings_tests_to most s ++ later) ≡ 1
unfolding first_failed unless settings_tests_to settings_tests_with
above_then most s h later = refuse_failed (rows_allowed_to most s.rows) 1 _ (rows_above most s.rows h)

pub settings_above : (most : ℕ) (s : Settings) → most < s.rows → first_failed (settings_tests_to most s) ≡ 1
unfolding settings_tests_to
settings_above most s h = above_refused most (within s.volume most_counters s.counters) s h

pub but_counters_above : (most : ℕ) (s : Settings) → most < s.rows → first_failed (settings_tests_but_counters_to most s) ≡ 1
unfolding settings_tests_but_counters_to
but_counters_above most s h = above_refused most true s h

accepted_rows_le : (most : ℕ) (counters_allowed : Bool) (s : Settings) → first_failed (settings_tests_with most counters_allowed s) ≡ 0 → s.rows ≤ most
accepted_rows_le most counters_allowed s e =
    ⊎_elim (λ l. l) (λ h. zero_one (sym e ∙ above_refused most counters_allowed s h)) (le_or_lt s.rows most)

-- where N is judged alike, the tests are the same
pub tests_alike : (most : ℕ) (counters_allowed : Bool) (s : Settings) → Alike most s → settings_tests_with most counters_allowed s ≡ settings_tests_with most_rows counters_allowed s
unfolding settings_tests_with
tests_alike most counters_allowed s alike = rw alike

pub settings_alike : (most : ℕ) (s : Settings) → Alike most s → settings_tests_to most s ≡ settings_tests s
unfolding settings_tests_to
settings_alike most s alike = tests_alike most (within s.volume most_counters s.counters) s alike

pub but_counters_alike : (most : ℕ) (s : Settings) → Alike most s → settings_tests_but_counters_to most s ≡ settings_tests_but_counters s
unfolding settings_tests_but_counters_to
but_counters_alike most s alike = tests_alike most true s alike

-- accepted settings stay accepted, whether a C is given or not
pub accepted_stays : (most : ℕ) → most ≤ most_rows → (counters_allowed : Bool) (s : Settings) → first_failed (settings_tests_with most counters_allowed s) ≡ 0 → (first_failed (settings_tests_with most_rows counters_allowed s) ≡ 0) × Alike most s
accepted_stays most h counters_allowed s e =
    let alike = rows_small_alike most s.rows h (accepted_rows_le most counters_allowed s e) in
    (sym (ap first_failed (tests_alike most counters_allowed s alike)) ∙ e, alike)
