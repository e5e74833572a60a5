-- Lines: the first one of a text.
use Rattle.std.specs.Prelude.{ℕ, suc, Bool, true, false, cond, List, [], ◌∷◌, eqb}

-- 'one line': its bytes, up to its byte 10
unfoldable pub line : List ℕ → List ℕ
line [] = []
line (b ∷ bs) = cond (eqb b 10) [] (b ∷ line bs)

-- 'ends in byte 10'
unfoldable pub ended : List ℕ → Bool
ended [] = false
ended (b ∷ bs) = cond (eqb b 10) true (ended bs)

-- how far the line goes: 'behind its byte 10', or to 'the text's end if it has none'
unfoldable pub extent : List ℕ → ℕ
extent [] = 0
extent (b ∷ bs) = cond (eqb b 10) 1 (suc (extent bs))
