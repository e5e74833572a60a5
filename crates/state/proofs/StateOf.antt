-- `state_of`, the state that holds a summary: it is read back as that summary, its tables are as long as they should be, it breaks no rule,
-- and tables that hold the summary are that state.
use mathlib.Core.Path.{◌≡◌, refl}
use mathlib.Core.Bool.{true}
use mathlib.Core.List.{List}
use Prim.Native.Nat.{ℕ, zero, suc, ◌-◌, ◌≤◌, ◌<◌}
use native.Mathlib.Omega.{arith}
use borrow.Author.Tests.{lt-ltb, le-leb, eq-eqb}
use lib.ListN.{length, replicate}
use lib.Seq.{take_at, drop_at}
use Rattle.device.specs.declared.Settings.{Settings}
use Rattle.summary.specs.Entries.{Entry, rows_of, counts_of}
use Rattle.summary.specs.Steps.{Summary}
use Rattle.summary.specs.Tables.{table, read}
use Rattle.summary.specs.InnerContracts.{Holds}
use Rattle.summary.proofs.Entries.Lengths.{length_rows, length_counts}
use Rattle.summary.proofs.Tables.{length_table, entries_back}
use Rattle.summary.specs.Rules.{Floor, Ceiling, bare, under, Ordered, ordered_none, ordered_more, Sound}
use Rattle.summary.proofs.Rules.Floor.{floor_parts}
use Rattle.state.specs.State.{summary_of, state_of, zeros, ascending, counts_allowed, valid, most_count, tables_long, given}
use Rattle.state.proofs.PositionAllowed.{facts_position}

-- what was laid out is read back
pub read_back : (s : Settings) (e a : ℕ) (sum : Summary) → summary_of (state_of s e a sum) ≡ sum
unfolding summary_of state_of read table
read_back s e a sum = rw (entries_back sum.entries (replicate (s.counters - length (rows_of sum.entries)) 0) (replicate (s.counters - length (counts_of sum.entries)) 0))

pub tables_long_state_of : (s : Settings) (e a : ℕ) (sum : Summary) → length sum.entries ≤ s.counters → tables_long s (state_of s e a sum).rows (state_of s e a sum).counts ≡ true
unfolding tables_long state_of
tables_long_state_of s e a sum h =
    rw
    (eq-eqb (length (table s.counters (rows_of sum.entries))) s.counters (length_table s.counters (rows_of sum.entries) (omega (arith, length_rows sum.entries))))
    (eq-eqb (length (table s.counters (counts_of sum.entries))) s.counters (length_table s.counters (counts_of sum.entries) (omega (arith, length_counts sum.entries))))

ascending_entries : {high low : ℕ} {es : List Entry} → Ordered high low es → ascending low high (rows_of es) ≡ true
unfolding ascending rows_of
ascending_entries ordered_none = refl
ascending_entries {high} (ordered_more low x o l b) = rw (le-leb low x.row l, lt-ltb x.row high b) (ascending_entries o)

zeros_replicate : (k : ℕ) → zeros (replicate k 0) ≡ true
unfolding zeros
zeros_replicate zero = refl
zeros_replicate (suc k) = zeros_replicate k

counts_allowed_entries : {spill : ℕ} {es : List Entry} → Ceiling most_count es → Floor spill es → Floor 1 es → counts_allowed spill (counts_of es) ≡ true
unfolding counts_allowed counts_of
counts_allowed_entries bare f p = refl
counts_allowed_entries {spill} (under x c h) f p =
    rw
    (le-leb 1 x.count (floor_parts p).0, le-leb spill x.count (floor_parts f).0, le-leb x.count most_count h)
    (counts_allowed_entries c (floor_parts f).1 (floor_parts p).1)

-- the rules hold
pub valid_state_of : (s : Settings) (e a : ℕ) (sum : Summary) → Sound s.rows s.counters sum → e < s.window → a ≤ s.interval → Ceiling most_count sum.entries → sum.spillover ≤ most_count → valid s (state_of s e a sum) ≡ true
unfolding valid state_of table
valid_state_of s e a sum k he ha ceiling spillover_le =
    let rows = rows_of sum.entries in
    let counts = counts_of sum.entries in
    rw (
      facts_position s (state_of s e a sum).position (record { early = he; within = ha; fits = k.fits; spillover_le = spillover_le }),
      take_at rows (replicate (s.counters - length rows) 0) (length sum.entries) (length_rows sum.entries),
      drop_at rows (replicate (s.counters - length rows) 0) (length sum.entries) (length_rows sum.entries),
      take_at counts (replicate (s.counters - length counts) 0) (length sum.entries) (length_counts sum.entries),
      drop_at counts (replicate (s.counters - length counts) 0) (length sum.entries) (length_counts sum.entries),
      ascending_entries k.ordered,
      zeros_replicate (s.counters - length rows),
      zeros_replicate (s.counters - length counts),
    )
    (counts_allowed_entries ceiling k.floor k.positive)

-- tables that hold a summary, with its position, are the state of that summary
pub state_of_holds : {high : ℕ} (s : Settings) (e a : ℕ) {sum : Summary} {rows counts : List ℕ} {k spill : ℕ} → Holds s.counters high sum rows counts k spill → given rows counts (record { events = e; activations = a; tracked = k; spillover = spill }) ≡ state_of s e a sum
unfolding given state_of
state_of_holds s e a h =
    λ i. record {
      rows = h.rows_laid i;
      counts = h.counts_laid i;
      position = record { events = e; activations = a; tracked = h.tracked_is i; spillover = h.spillover_is i };
    }
