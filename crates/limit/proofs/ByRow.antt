-- Each row's figures: where its own block lies, and the limit by row from the invariant.
use mathlib.Core.Path.{◌≡◌, refl, sym}
use mathlib.Core.Bool.{cond}
use mathlib.Core.List.{Memᴰ}
use Prim.Native.Nat.{ℕ, suc, ◌+◌, ◌-◌, ◌*◌, ◌%◌, ◌≤◌, ◌<◌, min}
use native.Mathlib.Nat.{le_trans, mul-le-mul_left, div-mul-le_self, div-lt_iff_lt-mul, lt-div-mul-add, div-eq_of_lt-le}
use native.Mathlib.Omega.{arith}
use borrow.Author.Tests.{ltb-true}
use lib.Dec.{ltb}
use Rattle.laws.proofs.Cases.{split}
use Rattle.device.specs.declared.Settings.{Settings}
use Rattle.device.proofs.Acceptance.{Accepted}
use Rattle.device.proofs.Victims.{in_between, between_in}
use Rattle.bound.specs.Totals.{disturbers, bound_of}
use Rattle.bound.proofs.Totals.Bound.{bound_grows}
use Rattle.summary.specs.Steps.{Summary}
use Rattle.tracker.specs.Calls.{block_rows}
use Rattle.limit.specs.Exact.{Exact}
use Rattle.limit.specs.ByRow.{own_event, first_figure, carried_most, second_figure, row_figure, RowLimited}
use Rattle.limit.proofs.Recent.{Recent}
use Rattle.limit.proofs.Invariant.{Inv, inv_present}

-- what a window brings, and what is carried into it
within_both : {d cur old first most later : ℕ} → d ≤ cur + old → cur ≤ first → old ≤ most → old ≤ later → d ≤ first + min most later
within_both parts window small carried = omega arith

-- a row of block b, with k events behind it in a window
within_events : (n block b k row : ℕ) → n ≡ b + suc k → b * block ≤ row → n * block ≤ row + suc k * block
within_events n block b k row e h = rw e (omega arith)

module _ (s : Settings) (ok : Accepted s) (row : ℕ) (inside : row < s.rows) where
  -- every row has its event in a window
  pub own_early : own_event s row < s.window
  unfolding own_event
  own_early = (div-lt_iff_lt-mul ok.others.block.least).1 (omega (arith, ok.others.covered))

  -- and stands in that event's block
  pub own_holds : Memᴰ row (block_rows s (own_event s row))
  unfolding own_event block_rows
  own_holds =
      let b : ℕ = own_event s row in
      between_in (b * s.block) (min (b * s.block + s.block) s.rows) row (div-mul-le_self row s.block)
      (omega (arith, lt-div-mul-add {a = row} ok.others.block.least))

  -- and in no other's
  pub own_only : (e : ℕ) → Memᴰ row (block_rows s e) → e ≡ own_event s row
  unfolding own_event block_rows
  own_only e m =
      let r = in_between (e * s.block) (min (e * s.block + s.block) s.rows) row m in
      sym (div-eq_of_lt-le s.block r.0 (omega arith))

  -- what it carries, in terms of its event
  carried_own : {e g : ℕ} {cur old : ℕ → ℕ} → Recent s e g cur old → old row ≤ disturbers s * (s.window - 1 - own_event s row)
  unfolding own_event
  carried_own r =
      let b : ℕ = own_event s row in
      let k : ℕ = s.window - 1 - b in
      let early : b < s.window = own_early in
      let last : s.window ≡ b + suc k = omega arith in
      r.carried row k inside (within_events s.window s.block b k row last (div-mul-le_self row s.block))

  -- an event that has passed
  own_passed : (e : ℕ) → own_event s row < e → row < e * s.block
  unfolding own_event
  own_passed e h = (div-lt_iff_lt-mul ok.others.block.least).0 h

  -- the limit by row, where every event is a regular one
  pub inv_row_limited : {e a : ℕ} {sum : Summary} {x y : Exact} → Inv s s.window e e a sum x y → RowLimited s x row
  unfolding first_figure carried_most second_figure bound_of
  inv_row_limited {e} {a} {sum} {x} {y} i =
      let carry = i.carry in
      let parts = carry.split row inside in
      let window : y.disturbance row ≤ first_figure s e = le_trans (inv_present s ok i row) (bound_grows s (omega arith)) in
      let at : x.refreshes % s.window ≡ e = i.counted in
      record {
        in_first = λ first. rw at (omega (arith, carry.first first row inside));
        passed = λ gone. let behind : own_event s row < e = omega (arith, gone) in rw at (omega (arith, carry.passed row inside (own_passed e behind)));
        otherwise =
            rw at
            (within_both parts window (carry.small row inside)
            (le_trans (carried_own (i.recent refl)) (mul-le-mul_left (disturbers s) (omega arith))));
      }

-- the first of two figures where b is below e, else the second
either_figure : (b e first second : ℕ) {d : ℕ} → d ≤ second → (b < e → d ≤ first) → d ≤ cond (ltb b e) first second
either_figure b e first second otherwise passed =
    split (ltb b e) (λ on. rw on (passed (ltb-true b e on))) (λ off. rw off otherwise)

-- whichever of its figures it is, the row's disturbance is at most that
pub row_limited_figure : (s : Settings) (x : Exact) (row : ℕ) → RowLimited s x row → x.disturbance row ≤ row_figure s (x.refreshes % s.window) row
unfolding row_figure
row_limited_figure s x row l =
    either_figure (own_event s row) _ (first_figure s (x.refreshes % s.window)) (second_figure s (x.refreshes % s.window) row)
    l.otherwise
    (λ gone. l.passed (omega (arith, gone)))

-- H(e + 1) is at most H(n)
pub first_figure_le : (s : Settings) {e : ℕ} → e < s.window → first_figure s e ≤ bound_of s
unfolding first_figure bound_of
first_figure_le s early = bound_grows s (omega arith)

pub carried_most_le : (s : Settings) (row : ℕ) → carried_most s row ≤ bound_of s
unfolding carried_most
carried_most_le s row = omega arith

both_figures_le : (b e first second : ℕ) {most : ℕ} → first ≤ most → second ≤ most → cond (ltb b e) first second ≤ most
both_figures_le b e first second one other = split (ltb b e) (λ on. rw on one) (λ off. rw off other)

pub row_figure_le : (s : Settings) {e : ℕ} (row : ℕ) → e < s.window → row_figure s e row ≤ 2 * bound_of s
unfolding row_figure second_figure
row_figure_le s {e} row early =
    let first : first_figure s e ≤ 2 * bound_of s = omega (arith, first_figure_le s early) in
    let second : second_figure s e row ≤ 2 * bound_of s = omega (arith, first_figure_le s early, carried_most_le s row) in
    both_figures_le (own_event s row) _ (first_figure s e) (second_figure s e row) first second
