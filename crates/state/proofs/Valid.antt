-- `valid`: from the tests of a valid state to facts. Its tables hold the summary that is read from them.
use mathlib.Core.Path.{◌≡◌, refl, ap, ◌∙◌, sym}
use mathlib.Core.Bool.{true, ◌&&◌}
use mathlib.Core.List.{List, [], ◌∷◌, ◌++◌}
use Prim.Native.Nat.{ℕ, zero, suc, ◌-◌, ◌≤◌, ◌<◌}
use native.Mathlib.Omega.{arith}
use borrow.Author.Tests.{ltb-true, leb-true, eqb-true}
use lib.Dec.{leb, ltb, eqb}
use lib.ListN.{length, take, drop, replicate, take-append-drop, length-drop}
use lib.Seq.{length-take-le}
use Rattle.laws.proofs.Cases.{and_both}
use Rattle.device.specs.declared.Settings.{Settings}
use Rattle.summary.specs.Entries.{Entry, rows_of, counts_of}
use Rattle.summary.specs.Tables.{table, entries_of, read}
use Rattle.summary.specs.InnerContracts.{Holds}
use Rattle.summary.specs.Rules.{Floor, floor_none, floor_more, Ceiling, bare, under, Ordered, ordered_none, ordered_more, Room}
use Rattle.summary.proofs.Entries.Lengths.{length_rows}
use Rattle.state.specs.State.{State, summary_of, zeros, ascending, counts_allowed, position_allowed, valid, most_count, tables_long}
use Rattle.state.proofs.PositionAllowed.{position_facts}

-- what is read from the front of two tables
rows_read : (k : ℕ) (rows counts : List ℕ) → k ≤ length rows → k ≤ length counts → rows_of (entries_of k rows counts) ≡ take k rows
unfolding rows_of entries_of
rows_read zero rows counts h h' = refl
rows_read (suc k) [] counts h h' = absurd (omega arith)
rows_read (suc k) (row ∷ rows) [] h h' = absurd (omega arith)
rows_read (suc k) (row ∷ rows) (count ∷ counts) h h' = rw (rows_read k rows counts (omega arith) (omega arith))

counts_read : (k : ℕ) (rows counts : List ℕ) → k ≤ length rows → k ≤ length counts → counts_of (entries_of k rows counts) ≡ take k counts
unfolding counts_of entries_of
counts_read zero rows counts h h' = refl
counts_read (suc k) [] counts h h' = absurd (omega arith)
counts_read (suc k) (row ∷ rows) [] h h' = absurd (omega arith)
counts_read (suc k) (row ∷ rows) (count ∷ counts) h h' = rw (counts_read k rows counts (omega arith) (omega arith))

length_read : (k : ℕ) (rows counts : List ℕ) → k ≤ length rows → k ≤ length counts → length (entries_of k rows counts) ≡ k
length_read k rows counts h h' =
    sym (length_rows (entries_of k rows counts)) ∙ ap length (rows_read k rows counts h h') ∙ length-take-le k rows h

zeros_are : (t : List ℕ) → zeros t ≡ true → t ≡ replicate (length t) 0
unfolding zeros
zeros_are [] e = refl
zeros_are (x ∷ xs) e =
    let parts = and_both (eqb x 0) (zeros xs) e in
    cc (eqb-true x 0 parts.0, zeros_are xs parts.1)

-- a table with only zeros behind its front
table_front : (places k : ℕ) (t : List ℕ) → length t ≡ places → k ≤ places → zeros (drop k t) ≡ true → t ≡ table places (take k t)
unfolding table
table_front places k t long h e =
    let fits : k ≤ length t = omega arith in
    let left : length (drop k t) ≡ places - length (take k t) = omega (arith, length-drop k t, length-take-le k t fits) in
    sym (take-append-drop k t) ∙ ap (λ (behind : List ℕ). take k t ++ behind) (zeros_are (drop k t) e ∙ ap (λ (n : ℕ). replicate n 0) left)

-- the rules of the entries that are read
ordered_read : (high low k : ℕ) (rows counts : List ℕ) → ascending low high (take k rows) ≡ true → Ordered high low (entries_of k rows counts)
unfolding ascending entries_of
ordered_read high low zero rows counts e = ordered_none
ordered_read high low (suc k) [] counts e = ordered_none
ordered_read high low (suc k) (row ∷ rows) [] e = ordered_none
ordered_read high low (suc k) (row ∷ rows) (count ∷ counts) e =
    let parts = and_both (leb low row && ltb row high) (ascending (suc row) high (take k rows)) e in
    let this = and_both (leb low row) (ltb row high) parts.0 in
    ordered_more low (record { row = row; count = count }) (ordered_read high (suc row) k rows counts parts.1)
    (leb-true low row this.0) (ltb-true row high this.1)

record Allowed (spillover : ℕ) (es : List Entry) : Type 0 where
  floor : Floor spillover es
  positive : Floor 1 es
  ceiling : Ceiling most_count es

allowed_read : (spillover k : ℕ) (rows counts : List ℕ) → counts_allowed spillover (take k counts) ≡ true → Allowed spillover (entries_of k rows counts)
unfolding counts_allowed entries_of
allowed_read spillover zero rows counts e = record { floor = floor_none; positive = floor_none; ceiling = bare }
allowed_read spillover (suc k) [] counts e = record { floor = floor_none; positive = floor_none; ceiling = bare }
allowed_read spillover (suc k) (row ∷ rows) [] e = record { floor = floor_none; positive = floor_none; ceiling = bare }
allowed_read spillover (suc k) (row ∷ rows) (count ∷ counts) e =
    let x : Entry = record { row = row; count = count } in
    let p3 = and_both (leb 1 count && leb spillover count && leb count most_count) (counts_allowed spillover (take k counts)) e in
    let p2 = and_both (leb 1 count && leb spillover count) (leb count most_count) p3.0 in
    let p1 = and_both (leb 1 count) (leb spillover count) p2.0 in
    let rest = allowed_read spillover k rows counts p3.1 in
    record {
      floor = floor_more x rest.floor (leb-true spillover count p1.1);
      positive = floor_more x rest.positive (leb-true 1 count p1.0);
      ceiling = under x rest.ceiling (leb-true count most_count p2.1);
    }

-- what the test of the tables' lengths says
pub tables_long_fit : (s : Settings) (rows counts : List ℕ) → tables_long s rows counts ≡ true → (length rows ≡ s.counters) × (length counts ≡ s.counters)
unfolding tables_long
tables_long_fit s rows counts long =
    let each = and_both (eqb (length rows) s.counters) (eqb (length counts) s.counters) long in
    (eqb-true (length rows) s.counters each.0, eqb-true (length counts) s.counters each.1)

-- what the tests of a valid state say
pub record Facts (s : Settings) (st : State) : Type 0 where
  pub early : st.position.events < s.window
  pub within : st.position.activations ≤ s.interval
  pub holds : Holds s.counters s.rows (summary_of st) st.rows st.counts st.position.tracked st.position.spillover
  pub room : Room most_count (summary_of st)

pub valid_facts : (s : Settings) (st : State) → tables_long s st.rows st.counts ≡ true → valid s st ≡ true → Facts s st
unfolding valid summary_of read
valid_facts s st long e =
    let fit = tables_long_fit s st.rows st.counts long in
    let k = st.position.tracked in
    let p4 = and_both _ (counts_allowed st.position.spillover (take k st.counts)) e in
    let p3 = and_both _ (zeros (drop k st.counts)) p4.0 in
    let p2 = and_both _ (zeros (drop k st.rows)) p3.0 in
    let p1 = and_both (position_allowed s st.position) (ascending 0 s.rows (take k st.rows)) p2.0 in
    let q = position_facts s st.position p1.0 in
    let in_rows : k ≤ length st.rows = omega (arith, q.fits, fit.0) in
    let in_counts : k ≤ length st.counts = omega (arith, q.fits, fit.1) in
    let read_length = length_read k st.rows st.counts in_rows in_counts in
    let allowed = allowed_read st.position.spillover k st.rows st.counts p4.1 in
    record {
      early = q.early;
      within = q.within;
      holds = record {
        rows_laid = rw (rows_read k st.rows st.counts in_rows in_counts) (table_front s.counters k st.rows fit.0 q.fits p2.1);
        counts_laid = rw (counts_read k st.rows st.counts in_rows in_counts) (table_front s.counters k st.counts fit.1 q.fits p3.1);
        tracked_is = sym read_length;
        spillover_is = refl;
        sound = record {
          floor = allowed.floor;
          positive = allowed.positive;
          ordered = ordered_read s.rows 0 k st.rows st.counts p1.1;
          fits = omega arith;
        };
      };
      room = record { counts = allowed.ceiling; spillover_le = q.spillover_le };
    }
