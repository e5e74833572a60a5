-- Inner relations: only the contracts of the operations on one table of numbers, which no caller of the tracker reaches, say these: where a
-- number stands or belongs, and a place put in or taken out. Nobody has to believe them: the outer contracts rest on them.
use Rattle.std.specs.Prelude.{ℕ, suc, ◌+◌, ◌-◌, ◌<◌, cond, List, [], ◌∷◌, ◌++◌, ltb, eqb, length, get_or, take, drop}

-- strictly ascending numbers
pub record Rising (xs : List ℕ) : Type 0 where
  pub rise : (i j : ℕ) → i < j → j < length xs → get_or xs i 0 < get_or xs j 0

-- how many numbers at the front are below x: where x belongs in ascending numbers
unfoldable pub lower_place : ℕ → List ℕ → ℕ
lower_place x [] = 0
lower_place x (y ∷ ys) = cond (ltb y x) (suc (lower_place x ys)) 0

-- the first place that holds x, or the number of places
unfoldable pub equal_place : ℕ → List ℕ → ℕ
equal_place x [] = 0
equal_place x (y ∷ ys) = cond (eqb y x) 0 (suc (equal_place x ys))

-- the first place of the highest number: the best so far with its place, and the place at which the rest begins
unfoldable pub highest_from : ℕ → ℕ → ℕ → List ℕ → ℕ
highest_from place best at [] = place
highest_from place best at (y ∷ ys) = cond (ltb best y) (highest_from at y (suc at) ys) (highest_from place best (suc at) ys)

-- the same of a whole table; 0 where it is empty
unfoldable pub highest_place : List ℕ → ℕ
highest_place [] = 0
highest_place (y ∷ ys) = highest_from 0 y 1 ys

-- x is put in at a place of the used ones, and those behind it move up by one
unfoldable pub put_in : List ℕ → ℕ → ℕ → ℕ → List ℕ
put_in t used at x = take at t ++ x ∷ take (used - at) (drop at t) ++ drop (used + 1) t

-- a place of the used ones is taken out, those behind it move down by one, and the last of them holds 0
unfoldable pub taken_at : List ℕ → ℕ → ℕ → List ℕ
taken_at t used at = take at t ++ take (used - (at + 1)) (drop (at + 1) t) ++ 0 ∷ drop used t
