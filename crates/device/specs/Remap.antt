-- 'Bus row and die row': where a logical row lies on the die, by a remap ('fold') of 16 numbers. Of any other list the first 16 places count, with 0 behind
-- its end, so that no definition asks how long it is; the code's remaps have 16.
use Rattle.std.specs.Prelude.{ℕ, zero, suc, ◌+◌, ◌*◌, ◌/◌, ◌%◌, Bool, true, false, ◌&&◌, ◌||◌, List, [], ◌∷◌, eqb, get_or}

-- the fold table, which 'is used until one is loaded'
unfoldable pub own_remap : List ℕ
own_remap = 0 ∷ 1 ∷ 3 ∷ 2 ∷ 4 ∷ 5 ∷ 7 ∷ 6 ∷ 8 ∷ 9 ∷ 11 ∷ 10 ∷ 12 ∷ 13 ∷ 15 ∷ 14 ∷ []

-- a number 'occurs' at one of the first so many places
unfoldable pub occurs_in : ℕ → List ℕ → ℕ → Bool
occurs_in zero remap k = false
occurs_in (suc places) remap k = eqb (get_or remap places 0) k || occurs_in places remap k

-- each number below so many occurs at one of the 16 places
unfoldable pub all_occur : ℕ → List ℕ → Bool
all_occur zero remap = true
all_occur (suc k) remap = occurs_in 16 remap k && all_occur k remap

-- 'a table is accepted exactly when each of 0 to 15 occurs in it'
unfoldable pub remap_allowed : List ℕ → Bool
remap_allowed remap = all_occur 16 remap

-- the physical row ('die row') of a logical row ('bus row'): the quotient by 16 is kept, the remainder replaced through the table
unfoldable pub physical : List ℕ → ℕ → ℕ
physical remap row = row / 16 * 16 + get_or remap (row % 16) 0
