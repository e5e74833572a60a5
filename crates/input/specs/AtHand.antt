-- What a read behind kept bytes comes to, and what it leaves at hand.
use Rattle.std.specs.Prelude.{ℕ, zero, suc, ◌+◌, ◌≤◌, ◌<◌, ◌≡◌, List, [], ◌∷◌, length, take, drop, Result, Ok, Err}
use Rattle.input.specs.declared.Input.{Input}
use Rattle.input.specs.declared.Input.TheVariants.{Bytes, End, Failed}
use Rattle.std.specs.declared.io.Error.{Error}

-- so many bytes more than those kept are at hand; none: the input has ended
unfoldable pub at_hand : ℕ → ℕ → Input
at_hand kept zero = End
at_hand kept (suc more) = Bytes (kept + suc more)

-- what a read's answer says: so many bytes came, or it failed
unfoldable pub input_of : Result ℕ Error → ℕ → Input
input_of (Ok n) kept = at_hand kept n
input_of (Err e) kept = Failed

-- the bytes at hand are more than those kept, and no more than a text has
unfoldable pub Within : Input → ℕ → ℕ → Type 0
Within (Bytes len) kept most = (kept < len) × (len ≤ most)
Within End kept most = Unit {0}
Within Failed kept most = Unit {0}

-- what a read behind the kept bytes leaves: these are as they were
pub record Came (input : Input) (kept : ℕ) (before after : List ℕ) : Type 0 where
  pub front : take kept after ≡ take kept before
  pub within : Within input kept (length after)

-- the part that a read behind kept bytes brought: those behind them, if there are any
unfoldable pub brought : Input → ℕ → List ℕ → List (List ℕ)
brought (Bytes len) kept text = drop kept (take len text) ∷ []
brought End kept text = []
brought Failed kept text = []
