-- The printed lines: a letter, numbers in columns, byte 10.
use Rattle.std.specs.Prelude.{ℕ, ◌*◌, List, [], ◌∷◌, ◌++◌, length}
use Rattle.columns.specs.Numbers.{printed}
use Rattle.columns.specs.Output.{number_columns}

-- '`B`, H and 2 × H, 10 columns each'
unfoldable pub bound_line : ℕ → List ℕ
bound_line h = 66 ∷ printed 10 h ++ printed 10 (2 * h) ++ 10 ∷ []

-- '`R`, its e before the event, the number picked and the picked rows'
unfoldable pub refresh_line : ℕ → List ℕ → List ℕ
refresh_line e picks = 82 ∷ printed 6 e ++ printed 6 (length picks) ++ number_columns picks ++ 10 ∷ []
