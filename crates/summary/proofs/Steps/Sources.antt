-- The rows that an event refreshes: of the bank, and at most as many as are picked and in the block.
use mathlib.Core.List.{List, [], ◌∷◌, ◌++◌}
use Prim.Native.Nat.{ℕ, ◌+◌, ◌≤◌}
use native.Mathlib.Omega.{arith}
use lib.ListN.{length, length-append}
use Rattle.laws.proofs.Cases.{split}
use Rattle.summary.specs.Entries.{picks}
use Rattle.summary.specs.Steps.{Summary, in_rows, besides, picked, sources}
use Rattle.summary.specs.Rules.{Ordered, Below, below_none, below_more}
use Rattle.summary.proofs.Entries.Picks.{picks_below, length_picks_le}

below_append : {high : ℕ} {xs ys : List ℕ} → Below high xs → Below high ys → Below high (xs ++ ys)
below_append below_none b = b
below_append (below_more row a h) b = below_more row (below_append a b) h

besides_below : {high : ℕ} (rows : List ℕ) {xs : List ℕ} → Below high xs → Below high (besides rows xs)
unfolding besides
besides_below rows below_none = below_none
besides_below rows (below_more row b h) =
    split (in_rows row rows) (λ on. rw on (besides_below rows b)) (λ off. rw off (below_more row (besides_below rows b) h))

length_besides_le : (rows xs : List ℕ) → length (besides rows xs) ≤ length xs
unfolding besides
length_besides_le rows [] = omega arith
length_besides_le rows (x ∷ xs) =
    split (in_rows x rows)
    (λ on. rw on (omega (arith, length_besides_le rows xs)))
    (λ off. rw off (omega (arith, length_besides_le rows xs)))

-- the rows that an event refreshes: of the bank, and at most as many as are picked and in the block
pub sources_below : {high low : ℕ} (volume : ℕ) {block : List ℕ} (s : Summary) → Ordered high low s.entries → Below high block → Below high (sources volume block s)
unfolding sources picked
sources_below volume s o b = below_append (picks_below volume s.entries o) (besides_below (picks volume s.entries) b)

pub length_sources_le : (volume : ℕ) (block : List ℕ) (s : Summary) → length (sources volume block s) ≤ volume + length block
unfolding sources picked
length_sources_le volume block s =
    rw (length-append (picks volume s.entries) (besides (picks volume s.entries) block))
    (omega (arith, length_picks_le volume s.entries, length_besides_le (picks volume s.entries) block))
