-- Inner relations, in which the functions of this crate promise each other what a run of activations did. The public calls' contracts do not name them:
-- those are equations with Chunks.antt.
use Rattle.std.specs.Prelude.{ℕ, zero, suc, ◌+◌, ◌≤◌, ◌≡◌, List, length, drop}
use Rattle.trace.specs.Texts.{lines}
use Rattle.steps.specs.Memory.{Memory, Ready, next_number}
use Rattle.listing.specs.Chunks.{line_room, going}

-- the number of lines behind so many more
unfoldable pub numbers_on : ℕ → ℕ → ℕ
numbers_on lines zero = lines
numbers_on lines (suc count) = next_number (numbers_on lines count)

-- accepted activations passed over lines: what is left to do behind them is what was to be done, however much is printed and whatever room there is
pub record RunsOn (text : List ℕ) (m : Memory) (from : ℕ) (m' : Memory) (to : ℕ) : Type 0 where
  pub ready : Ready m'
  pub within : to ≤ length text
  pub onward : from ≤ to
  pub same : (buffer : List ℕ) (end : ℕ) → end + line_room ≤ length buffer →
      going (record { memory = m; taken = from; buffer = buffer; end = end }) (lines (drop from text)) ≡
      going (record { memory = m'; taken = to; buffer = buffer; end = end }) (lines (drop to text))
