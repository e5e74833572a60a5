-- Inner relations: only the contract of the search, which no caller of the library reaches, says this. Nobody has to believe it: the contract
-- of the least count rests on it.
use Rattle.std.specs.Prelude.{ℕ, Bool, ltb}
use Rattle.bound.specs.Totals.{size, total}

-- the total of so many steps at C = c is below a number
unfoldable pub ends_below : ℕ → ℕ → ℕ → ℕ → ℕ → Bool
ends_below volume added steps end c = ltb (total (size volume c) added steps 0) end
