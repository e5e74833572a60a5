-- A trace of one line that is no record, what it requires, and a listing that departs from that.
use Rattle.std.specs.Prelude.{ℕ, List, [], ◌∷◌}

-- `Q` and byte 10
unfoldable pub example_trace : List ℕ
example_trace = 81 ∷ 10 ∷ []

-- `X         1    11` and byte 10: line 1 is refused with 11
unfoldable pub example_listing : List ℕ
example_listing = 88 ∷ 32 ∷ 32 ∷ 32 ∷ 32 ∷ 32 ∷ 32 ∷ 32 ∷ 32 ∷ 32 ∷ 49 ∷ 32 ∷ 32 ∷ 32 ∷ 32 ∷ 49 ∷ 49 ∷ 10 ∷ []

-- the same with another refusal, 12
unfoldable pub other_listing : List ℕ
other_listing = 88 ∷ 32 ∷ 32 ∷ 32 ∷ 32 ∷ 32 ∷ 32 ∷ 32 ∷ 32 ∷ 32 ∷ 49 ∷ 32 ∷ 32 ∷ 32 ∷ 32 ∷ 49 ∷ 50 ∷ 10 ∷ []
