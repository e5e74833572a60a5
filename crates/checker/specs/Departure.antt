-- 'The number of the first listing line that departs' from what a trace requires.
use Rattle.std.specs.Prelude.{ℕ, suc, cond, List, [], ◌∷◌}
use Rattle.std.proofs.Math.Option.{Option, none, some}
use Rattle.laws.specs.Same.{same}
use Rattle.trace.specs.Texts.{lines}
use Rattle.steps.specs.Steps.{start}
use Rattle.listing.specs.Texts.{listing}

-- required lines and given ones, from a number on: none where they are the same, else the number of the first given line that departs; 'a missing line
-- departs at its number, and so does a surplus one'
unfoldable pub departure_from : ℕ → List (List ℕ) → List (List ℕ) → Option ℕ
departure_from number [] [] = none
departure_from number [] (m ∷ ms) = some number
departure_from number (l ∷ ls) [] = some number
departure_from number (l ∷ ls) (m ∷ ms) = cond (same l m) (departure_from (suc number) ls ms) (some number)

-- the same of two texts, so many lines being passed; a last piece without byte 10 is a line
unfoldable pub departing : ℕ → List ℕ → List ℕ → Option ℕ
departing passed required given = departure_from (suc passed) (lines required) (lines given)

-- a listing held against what a trace requires, which is what the program prints; lines are numbered from 1
unfoldable pub departure : List ℕ → List ℕ → Option ℕ
departure trace given = departing 0 (listing start trace) given
