-- `spread`: rows that disturb their victims, one row after the other, and how far counts rise by it.
use mathlib.Core.Path.{◌≡◌, refl, sym, ◌∙◌}
use mathlib.Core.List.{List, [], ◌∷◌, ◌++◌}
use Prim.Native.Nat.{ℕ, zero, suc, ◌+◌, ◌-◌, ◌*◌, ◌≤◌, ◌<◌}
use native.Mathlib.Omega.{arith}
use lib.ListN.{length, get_or}
use Rattle.laws.proofs.Cases.{split}
use Rattle.summary.specs.Steps.{Summary, disturb_each, spread, besides, in_rows}
use Rattle.summary.specs.Rules.{Room, Below, below_none, below_more, RoomFor}
use Rattle.summary.specs.Tables.{read}
use Rattle.summary.specs.InnerContracts.{Holds, Held}
use Rattle.summary.proofs.InnerContracts.Holds.{held_read, long_rows, held_again}
use Rattle.summary.proofs.Rules.Room.{room_more, room_each}

pub spread_append : (counters : ℕ) (victims_of : ℕ → List ℕ) (xs ys : List ℕ) (s : Summary) → spread counters victims_of (xs ++ ys) s ≡ spread counters victims_of ys (spread counters victims_of xs s)
unfolding spread
spread_append counters victims_of [] ys s = refl
spread_append counters victims_of (x ∷ xs) ys s = spread_append counters victims_of xs ys (disturb_each counters (victims_of x) s)

pub room_spread : {most : ℕ} (counters : ℕ) (victims_of : ℕ → List ℕ) → ((row : ℕ) → length (victims_of row) ≤ 4) → (rows : List ℕ) (sum : Summary) → Room most sum → Room (most + 4 * length rows) (spread counters victims_of rows sum)
unfolding spread
room_spread counters victims_of few [] sum r = room_more r (omega arith)
room_spread {most} counters victims_of few (row ∷ rows) sum r =
    room_more
    (room_spread {most = most + 4} counters victims_of few rows (disturb_each counters (victims_of row) sum)
    (room_more (room_each counters (victims_of row) sum r) (omega (arith, few row))))
    (omega arith)

-- a row that is listed is passed over
pub besides_one : (names : List ℕ) (row : ℕ) (rest : List ℕ) (counters : ℕ) (victims_of : ℕ → List ℕ) (sum : Summary) → spread counters victims_of (besides names (row ∷ rest)) sum ≡ spread counters victims_of (besides names rest) (spread counters victims_of (besides names (row ∷ [])) sum)
unfolding besides spread
besides_one names row rest counters victims_of sum =
    split (in_rows row names) (λ on. rw on) (λ off. rw off)

pub room_besides : (names : List ℕ) (row counters : ℕ) (victims_of : ℕ → List ℕ) (sum : Summary) {most : ℕ} → Room most sum → length (victims_of row) ≤ 4 → Room (most + 4) (spread counters victims_of (besides names (row ∷ [])) sum)
unfolding besides spread
room_besides names row counters victims_of sum r few =
    split (in_rows row names)
    (λ on. rw on (room_more r (omega arith)))
    (λ off. rw off (room_more (room_each counters (victims_of row) sum r) (omega arith)))

pub below_at : {high : ℕ} {xs : List ℕ} → Below high xs → (i : ℕ) → i < length xs → get_or xs i 0 < high
below_at below_none i h = absurd (omega arith)
below_at (below_more row b l) zero h = l
below_at (below_more row b l) (suc i) h = below_at b i (omega arith)
