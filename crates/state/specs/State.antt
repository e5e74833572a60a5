-- The state that the caller lends: two tables and a position, the summary that they hold, and the rules of a valid state.
use Rattle.std.specs.Prelude.{ℕ, suc, Bool, true, ◌&&◌, List, [], ◌∷◌, leb, ltb, eqb, length, take, drop}
use Rattle.device.specs.declared.Settings.{Settings}
use Rattle.summary.specs.Entries.{rows_of, counts_of}
use Rattle.summary.specs.Steps.{Summary}
use Rattle.summary.specs.Tables.{table, read}
use Rattle.state.specs.declared.Position.{Position}

-- 'the caller lends two number tables ..: rows and counts'; the position goes with them
pub record State : Type 0 where
  pub rows : List ℕ
  pub counts : List ℕ
  pub position : Position

-- the state that lent tables make with a position
unfoldable pub given : List ℕ → List ℕ → Position → State
given rows counts p = record { rows = rows; counts = counts; position = p }

-- the same of a call's parameters
abbrev pub lent : List ℕ → List ℕ → Position → State
lent rows counts p = given rows counts p

-- no count and no spillover of a valid state 'exceeds 2,000,000,000'
abbrev pub most_count : ℕ
most_count = 2000000000

-- the summary that a state holds
unfoldable pub summary_of : State → Summary
summary_of st = read st.rows st.counts st.position.tracked st.position.spillover

-- the state that holds a summary, after so many events in the window and units of activations since the last
unfoldable pub state_of : Settings → ℕ → ℕ → Summary → State
state_of s events activations sum =
    record {
      rows = table s.counters (rows_of sum.entries);
      counts = table s.counters (counts_of sum.entries);
      position = record {
        events = events;
        activations = activations;
        tracked = length sum.entries;
        spillover = sum.spillover;
      };
    }

-- 8: 'a lent table is not C places long'
unfoldable pub tables_long : Settings → List ℕ → List ℕ → Bool
tables_long s rows counts = eqb (length rows) s.counters && eqb (length counts) s.counters

-- only zeros
unfoldable pub zeros : List ℕ → Bool
zeros [] = true
zeros (x ∷ xs) = eqb x 0 && zeros xs

-- 'strictly ascending by row': from low on, below high
unfoldable pub ascending : ℕ → ℕ → List ℕ → Bool
ascending low high [] = true
ascending low high (row ∷ rows) = leb low row && ltb row high && ascending (suc row) high rows

-- no count 'is 0 or below the spill' or too high
unfoldable pub counts_allowed : ℕ → List ℕ → Bool
counts_allowed spillover [] = true
counts_allowed spillover (count ∷ counts) =
    leb 1 count && leb spillover count && leb count most_count && counts_allowed spillover counts

-- the rules of a valid state that are about its position: e 'below n', a 'at most T', tracked rows 'at most C', and the spillover
abbrev pub position_allowed : Settings → Position → Bool
position_allowed s p =
    ltb p.events s.window && leb p.activations s.interval && leb p.tracked s.counters && leb p.spillover most_count

-- the rules of a valid state, of which 21 is the breach
unfoldable pub valid : Settings → State → Bool
valid s st =
    position_allowed s st.position &&
    ascending 0 s.rows (take st.position.tracked st.rows) &&
    zeros (drop st.position.tracked st.rows) &&
    zeros (drop st.position.tracked st.counts) &&
    counts_allowed st.position.spillover (take st.position.tracked st.counts)
