-- How many lines a text has.
use Rattle.std.specs.Prelude.{cond, ℕ, suc, List, [], ◌∷◌, eqb}

-- each byte 10 ends a line, and so does the text's end where bytes stand in front of it
unfoldable pub line_count : List ℕ → ℕ
line_count [] = 0
line_count (b ∷ []) = 1
line_count (b ∷ c ∷ bs) = cond (eqb b 10) (suc (line_count (c ∷ bs))) (line_count (c ∷ bs))
