-- What holds between calls, whatever the kinds of events: the window's invariant ties the summary to the disturbance of the window, and what is
-- carried ties that to the exact disturbance. It holds at rest, activations and events keep it, and the limit follows from it.
use mathlib.Core.Path.{◌≡◌, refl}
use mathlib.Core.Bool.{true, false}
use mathlib.Core.List.{List, [], ◌∷◌, ◌++◌}
use Prim.Native.Nat.{ℕ, zero, suc, ◌+◌, ◌-◌, ◌*◌, ◌%◌, ◌≤◌, ◌<◌}
use native.Mathlib.Nat.{add-zero, add-suc, le_trans, suc-mod, mod-eq_of_lt, mod_self, mod-le, zero-mod}
use native.Mathlib.Numerals.{add-one}
use native.Mathlib.Omega.{arith}
use borrow.Author.Tests.{eqb-true, eqb-false}
use lib.ListN.{length}
use Rattle.device.specs.declared.Settings.{Settings}
use Rattle.device.specs.Hold.{repeated}
use Rattle.device.proofs.Acceptance.{Accepted}
use Rattle.device.proofs.Victims.{Ascends}
use Rattle.bound.specs.Totals.{disturbers, bound_at}
use Rattle.bound.proofs.Totals.Bound.{bound_grows}
use Rattle.summary.specs.Steps.{Summary, empty, besides, activation, picked, sources, event}
use Rattle.summary.proofs.Entries.Picks.{picks_distinct}
use Rattle.summary.specs.Rules.{below_none, below_more}
use Rattle.summary.proofs.Steps.Sources.{sources_below, length_sources_le}
use Rattle.tracker.specs.Calls.{block_rows, ends_window, victims_in}
use Rattle.tracker.proofs.Calls.SoundTests.{Held}
use Rattle.limit.specs.Exact.{Exact, at_rest, renewed, one_event_more, restored, once}
use Rattle.limit.specs.Present.{cleared}
use Rattle.limit.proofs.Exact.{renewed_cases, renewed_from_zero, once_sources}
use Rattle.limit.proofs.Window.{Window, Renewed, window_empty, window_activation, window_event, window_last_event}
use Rattle.limit.proofs.Block.{block_ascends, block_below, block_length_le}
use Rattle.limit.proofs.SchemeOf.{scheme_of, since_le, present_le, window_held}
use Rattle.limit.proofs.Carry.{Carry, carry_at_rest, carry_renewed, carry_event, carry_last_event}
use Rattle.limit.proofs.Recent.{Recent, recent_at_rest, recent_renewed, recent_event, recent_last_event}

-- e regular events and k events of every kind so far in a window that may have `all` of them; a: at least the units of activations since the last event
-- of any kind. x: the exact disturbance, y: that of the present window
pub record Inv (s : Settings) (all e k a : ℕ) (sum : Summary) (x y : Exact) : Type 0 where
  -- the rows that have disturbed since the last event of any kind
  pub since : ℕ
  -- what each row carries over
  pub old : ℕ → ℕ
  pub window : Window (scheme_of s all) k since y.disturbance sum
  pub few : since ≤ s.volume + s.block + a
  pub within : a ≤ s.interval
  pub early : e < s.window
  -- the events besides the regular ones are at most those that the window may have
  pub regular : e ≤ k
  pub room : k + s.window ≤ all + e
  pub counted : x.refreshes % s.window ≡ e
  pub together : y.refreshes ≡ x.refreshes
  pub carry : Carry s (bound_at s all) x.refreshes e x.disturbance y.disturbance old
  -- what rows have gathered since their own blocks, in a window that has no events but the regular ones
  pub recent : all ≡ s.window → Recent s e since y.disturbance old

pub inv_begins : (s : Settings) (all : ℕ) → Accepted s → s.window ≤ all → Inv s all 0 0 0 empty at_rest at_rest
unfolding at_rest
inv_begins s all ok enough =
    record {
      since = 0;
      old = λ v. 0;
      window = window_empty (scheme_of s all);
      few = omega arith;
      within = omega arith;
      early = ok.others.window.least;
      regular = omega arith;
      room = omega arith;
      counted = zero-mod s.window;
      together = refl;
      carry = carry_at_rest s (bound_at s all);
      recent = λ plain. recent_at_rest s;
    }

-- f modulo n, one event further
mod_next_within : (f : ℕ) {n e : ℕ} → f % n ≡ e → suc e < n → (f + 1) % n ≡ suc e
mod_next_within f {n} {e} same less = rw (add-one f, suc-mod f n, same) (mod-eq_of_lt less)

mod_next_whole : (f : ℕ) {n e : ℕ} → f % n ≡ e → suc e ≡ n → (f + 1) % n ≡ 0
mod_next_whole f {n} {e} same whole = rw (add-one f, suc-mod f n, same, whole) (mod_self n)

rows_covered : (s : Settings) {e : ℕ} → suc e ≡ s.window → s.block * s.window ≡ suc e * s.block
rows_covered s {e} whole = rw (← whole) (omega arith)

module _ (s : Settings) (ok : Accepted s) {all e k a : ℕ} {sum : Summary} {x y : Exact} (i : Inv s all e k a sum x y) where
  inv_room : k < all
  inv_room = omega (arith, i.room, i.early)

  -- no more rows have disturbed since the last event than T'
  inv_since : i.since ≤ disturbers s
  inv_since = since_le s i.window i.few i.within

  pub inv_held : all ≤ 16384 → Held s e a sum
  inv_held few = window_held s i.window i.few i.within ok i.early inv_room few

  -- a row's disturbance in the window is at most H of the events so far, and of all that the window may have
  pub inv_present : (v : ℕ) → y.disturbance v ≤ bound_at s (k + 1)
  inv_present = present_le s i.window i.few i.within

  inv_window : (v : ℕ) → y.disturbance v ≤ bound_at s all
  inv_window v = le_trans (inv_present v) (bound_grows s (omega (arith, inv_room)))

  -- what every row's exact disturbance is at most, and while the first window lasts
  pub inv_limit : (v : ℕ) → v < s.rows → x.disturbance v ≤ 2 * bound_at s all
  inv_limit v h = omega (arith, i.carry.split v h, i.carry.small v h, inv_window v)

  pub inv_first : x.refreshes < s.window → (v : ℕ) → v < s.rows → x.disturbance v ≤ bound_at s all
  inv_first first v h = omega (arith, i.carry.split v h, i.carry.first first v h, inv_window v)

  -- a unit of an activation of a physical row
  inv_unit : (row : ℕ) → row < s.rows → a < s.interval → Inv s all e k (a + 1) (activation s.counters (victims_in s) row sum) (renewed s (row ∷ []) [] x) (renewed s (row ∷ []) [] y)
  unfolding renewed once besides Renewed
  inv_unit row h free =
      record {
        since = i.since + 1;
        old = restored (row ∷ []) [] i.old;
        window = window_activation (scheme_of s all) row h i.window (renewed_cases s (row ∷ []) [] (row ∷ []) y.disturbance);
        few = omega (arith, i.few);
        within = omega arith;
        early = i.early;
        regular = i.regular;
        room = i.room;
        counted = i.counted;
        together = i.together;
        carry = carry_renewed s (row ∷ []) (row ∷ []) i.carry [];
        recent = λ plain. recent_renewed s (row ∷ []) (i.recent plain) [] (below_more row below_none h);
      }

  -- the rows that an event with any ascending block renews, each once, are the summary's sources
  once_picked : {low high : ℕ} {block : List ℕ} → Ascends low high block → once (picked s.volume sum ++ block) ≡ sources s.volume block sum
  unfolding picked sources
  once_picked ascends = once_sources (picks_distinct s.volume sum.entries i.window.sound.ordered) ascends

  -- a regular event within a window; a': what it leaves of a
  pub inv_refreshed : (a' : ℕ) → a' ≤ s.interval → ends_window s e ≡ false → Inv s all (e + 1) (k + 1) a' (event s.counters (victims_in s) s.volume (block_rows s e) false sum) (one_event_more (renewed s (picked s.volume sum) (block_rows s e) x)) (one_event_more (renewed s (picked s.volume sum) (block_rows s e) y))
  unfolding renewed one_event_more ends_window Renewed
  inv_refreshed a' lower goes_on =
      let later = eqb-false e (s.window - 1) goes_on in
      let named = picked s.volume sum in
      let block = block_rows s e in
      let rows = sources s.volume block sum in
      let more : suc e < s.window = omega (arith, i.early) in
      rw (add-one e, add-one k, once_picked (block_ascends s e))
      (record {
        since = length rows;
        old = restored named block i.old;
        window =
            window_event (scheme_of s all) (block_below s e) i.window
            inv_since
            (omega (arith, i.room))
            (renewed_cases s named block rows y.disturbance);
        few = omega (arith, length_sources_le s.volume block sum, block_length_le s e);
        within = lower;
        early = more;
        regular = omega (arith, i.regular);
        room = omega (arith, i.room);
        counted = mod_next_within x.refreshes i.counted more;
        together = rw i.together;
        carry = carry_event s named rows i.carry;
        recent = λ plain.
            recent_event s named (i.recent plain) inv_since
            (sources_below s.volume sum i.window.sound.ordered (block_below s e));
      })

  -- the regular event that ends a window
  pub inv_ended : (a' : ℕ) → a' ≤ s.interval → ends_window s e ≡ true → Inv s all 0 0 a' (event s.counters (victims_in s) s.volume (block_rows s e) true sum) (one_event_more (renewed s (picked s.volume sum) (block_rows s e) x)) (one_event_more (renewed s (picked s.volume sum) (block_rows s e) (cleared y)))
  unfolding renewed one_event_more cleared ends_window
  inv_ended a' lower ends =
      let last = eqb-true e (s.window - 1) ends in
      let named = picked s.volume sum in
      let block = block_rows s e in
      let rows = sources s.volume block sum in
      let whole : suc e ≡ s.window = omega (arith, i.early) in
      let covered : s.rows ≤ suc e * s.block = omega (arith, ok.others.covered, rows_covered s whole) in
      rw (once_picked (block_ascends s e))
      (record {
        since = length rows;
        old = restored named block y.disturbance;
        window =
            window_last_event (scheme_of s all) (block_below s e) i.window
            (λ v. omega (arith, renewed_from_zero s named block rows v));
        few = omega (arith, length_sources_le s.volume block sum, block_length_le s e);
        within = lower;
        early = omega arith;
        regular = omega arith;
        room = omega (arith, i.regular, i.room);
        counted = mod_next_whole x.refreshes i.counted whole;
        together = rw i.together;
        carry =
            carry_last_event s named rows i.carry covered
            (omega (arith, mod-le x.refreshes s.window, i.counted))
            inv_window;
        recent = λ plain. recent_last_event s named (i.recent plain) inv_since covered whole rows;
      })

-- no unit of an activation, one more, and all of them
inv_no_unit : (s : Settings) (all e k a : ℕ) (sum : Summary) (x y : Exact) → Inv s all e k a sum x y → Inv s all e k (a + 0) sum x y
inv_no_unit s all e k a sum x y i = rw (add-zero a) i

inv_unit_more : (s : Settings) (ok : Accepted s) (all e k a units : ℕ) (sum : Summary) (x y : Exact) → Inv s all e k (a + units) sum x y → (row : ℕ) → row < s.rows → a + suc units ≤ s.interval → Inv s all e k (a + suc units) (activation s.counters (victims_in s) row sum) (renewed s (row ∷ []) [] x) (renewed s (row ∷ []) [] y)
inv_unit_more s ok all e k a units sum x y i row h spare =
    rw (add-suc a units, ← add-one (a + units)) (inv_unit s ok i row h (omega arith))

pub inv_units : (s : Settings) → Accepted s → {all e k a : ℕ} {sum : Summary} {x y : Exact} → Inv s all e k a sum x y → (row : ℕ) → row < s.rows → (units : ℕ) → a + units ≤ s.interval → Inv s all e k (a + units) (repeated units (activation s.counters (victims_in s) row) sum) (repeated units (renewed s (row ∷ []) []) x) (repeated units (renewed s (row ∷ []) []) y)
unfolding repeated
inv_units s ok {all} {e} {k} {a} {sum} {x} {y} i row h zero spare = inv_no_unit s all e k a sum x y i
inv_units s ok {all} {e} {k} {a} {sum} {x} {y} i row h (suc units) spare =
    inv_unit_more s ok all e k a units _ _ _ (inv_units s ok i row h units (omega arith)) row h spare
