-- Two tables that hold a summary: the summary is read back from them, their used parts, and an entry taken out, put in or stored to.
use mathlib.Core.Path.{◌≡◌, ap, sym, ◌∙◌}
use mathlib.Core.List.{List}
use Prim.Native.Nat.{ℕ, ◌+◌, ◌-◌, ◌≤◌, ◌<◌}
use native.Mathlib.Omega.{arith}
use lib.ListN.{length, replicate, get_or, take, set}
use Rattle.tables.specs.InnerContracts.{Rising, put_in, taken_at}
use Rattle.summary.specs.Entries.{rows_of, counts_of}
use Rattle.summary.specs.Steps.{Summary}
use Rattle.summary.specs.Tables.{table, read}
use Rattle.summary.specs.InnerContracts.{Holds, Held}
use Rattle.summary.specs.Rules.{Sound}
use Rattle.summary.proofs.Entries.Lengths.{length_rows, length_counts}
use Rattle.summary.proofs.Tables.{length_table, entries_back, take_table, getD_table, set_table, put_in_table, taken_at_table}
use Rattle.summary.proofs.Entries.Columns.{out, inside, rising_rows, length_inside, length_out}

-- what two tables hold is what is read from them
pub held_read : {places high : ℕ} {sum : Summary} {rows counts : List ℕ} {tracked spillover : ℕ} → Holds places high sum rows counts tracked spillover → read rows counts tracked spillover ≡ sum
unfolding read table
held_read {places} {sum = sum} h =
    rw (
      h.rows_laid,
      h.counts_laid,
      h.tracked_is,
      h.spillover_is,
      entries_back sum.entries (replicate (places - length (rows_of sum.entries)) 0) (replicate (places - length (counts_of sum.entries)) 0),
    )

module _ {places high : ℕ} {sum : Summary} {rows counts : List ℕ} {k spill : ℕ} (h : Holds places high sum rows counts k spill) where
  rows_long : k ≡ length (rows_of sum.entries)
  rows_long = h.tracked_is ∙ sym (length_rows sum.entries)

  counts_long : k ≡ length (counts_of sum.entries)
  counts_long = h.tracked_is ∙ sym (length_counts sum.entries)

  pub tracked_le : k ≤ places
  tracked_le = omega (arith, h.tracked_is, h.sound.fits)

  pub long_rows : length rows ≡ places
  long_rows = rw h.rows_laid (length_table places (rows_of sum.entries) (omega (arith, rows_long, tracked_le)))

  pub long_counts : length counts ≡ places
  long_counts = rw h.counts_laid (length_table places (counts_of sum.entries) (omega (arith, counts_long, tracked_le)))

  -- the used part of each table
  pub used_rows : take k rows ≡ rows_of sum.entries
  used_rows = rw (h.rows_laid, rows_long) (take_table places (rows_of sum.entries))

  pub used_counts : take k counts ≡ counts_of sum.entries
  used_counts = rw (h.counts_laid, counts_long) (take_table places (counts_of sum.entries))

  pub used_rising : Rising (take k rows)
  used_rising = rw used_rows (rising_rows h.sound.ordered)

  pub row_at_place : (i : ℕ) → i < k → get_or rows i 0 ≡ get_or (rows_of sum.entries) i 0
  row_at_place i less = rw h.rows_laid (getD_table places (rows_of sum.entries) i (omega (arith, rows_long)))

  pub count_at_place : (i : ℕ) → i < k → get_or counts i 0 ≡ get_or (counts_of sum.entries) i 0
  count_at_place i less = rw h.counts_laid (getD_table places (counts_of sum.entries) i (omega (arith, counts_long)))

  module _ (sum' : Summary) (sound : Sound high places sum') (same : sum'.spillover ≡ sum.spillover) where
    pub holds_taken : (at : ℕ) → at < k → rows_of sum'.entries ≡ out at (rows_of sum.entries) → counts_of sum'.entries ≡ out at (counts_of sum.entries) → Holds places high sum' (taken_at rows k at) (taken_at counts k at) (k - 1) spill
    holds_taken at less rs cs =
        record {
          rows_laid = rw (h.rows_laid, rows_long, rs) (taken_at_table places (rows_of sum.entries) at (omega (arith, rows_long)) (omega (arith, rows_long, tracked_le)));
          counts_laid = rw (h.counts_laid, counts_long, cs) (taken_at_table places (counts_of sum.entries) at (omega (arith, counts_long)) (omega (arith, counts_long, tracked_le)));
          tracked_is =
              omega
              (arith, rows_long, length_out at (rows_of sum.entries) (omega (arith, rows_long)), ap length rs, length_rows sum'.entries);
          spillover_is = h.spillover_is ∙ sym same;
          sound = sound;
        }

    pub holds_put : (at row count : ℕ) → at ≤ k → k < places → rows_of sum'.entries ≡ inside at row (rows_of sum.entries) → counts_of sum'.entries ≡ inside at count (counts_of sum.entries) → Holds places high sum' (put_in rows k at row) (put_in counts k at count) (k + 1) spill
    holds_put at row count less room rs cs =
        record {
          rows_laid = rw (h.rows_laid, rows_long, rs) (put_in_table places (rows_of sum.entries) at row (omega (arith, rows_long)) (omega (arith, rows_long)));
          counts_laid = rw (h.counts_laid, counts_long, cs) (put_in_table places (counts_of sum.entries) at count (omega (arith, counts_long)) (omega (arith, counts_long)));
          tracked_is =
              omega
              (arith, rows_long, length_inside at row (rows_of sum.entries) (omega (arith, rows_long)), ap length rs, length_rows sum'.entries);
          spillover_is = h.spillover_is ∙ sym same;
          sound = sound;
        }

    pub holds_set : (at v : ℕ) → at < k → rows_of sum'.entries ≡ rows_of sum.entries → counts_of sum'.entries ≡ set (counts_of sum.entries) at v → Holds places high sum' rows (set counts at v) k spill
    holds_set at v less rs cs =
        record {
          rows_laid = rw rs h.rows_laid;
          counts_laid = rw (h.counts_laid, cs) (set_table places (counts_of sum.entries) at v (omega (arith, counts_long)));
          tracked_is = omega (arith, rows_long, ap length rs, length_rows sum'.entries);
          spillover_is = h.spillover_is ∙ sym same;
          sound = sound;
        }

-- tables that hold a summary are as the functions want them
pub held_again : {places : ℕ} {sum : Summary} {rows counts : List ℕ} {k spillover : ℕ} → Holds places 4294967296 sum rows counts k spillover → Held rows counts k spillover
held_again h = rw (held_read h, long_rows h) h
