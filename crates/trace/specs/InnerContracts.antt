-- Inner relations, in which private functions of this crate promise each other where a byte 10 stands.
use Rattle.std.specs.Prelude.{ℕ, ◌*◌, Bool, ◌&&◌, cond, List, eqb, ltb, length, get_or}
use Rattle.std.proofs.Math.Option.{Option, none}
use Rattle.columns.specs.Numbers.{fields}

-- whether a byte 10 stands behind so many bytes
unfoldable pub ends_after : ℕ → List ℕ → Bool
ends_after width text = ltb width (length text) && eqb (get_or text width 0) 10

-- so many fields, if a byte 10 stands right behind them
unfoldable pub line_fields : ℕ → List ℕ → Option (List ℕ)
line_fields count text = cond (ends_after (6 * count) text) (fields count text) none
