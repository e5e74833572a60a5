-- Lines counted one after the other: the text behind the first line has one line fewer, and is shorter.
use mathlib.Core.Path.{◌≡◌}
use Prim.Native.Nat.{ℕ, suc, ◌+◌, ◌<◌, ◌≤◌}
use mathlib.Core.List.{List, [], ◌∷◌}
use native.Mathlib.Nat.{zero-add}
use native.Mathlib.Omega.{arith}
use lib.Dec.{eqb}
use lib.ListN.{length, drop, length-drop}
use Rattle.laws.proofs.Cases.{split}
use Rattle.trace.specs.Lines.{extent}
use Rattle.trace.specs.Reading.{reading, reading_by}
use Rattle.lines.specs.Lines.{line_count}

line_count_first : (b : ℕ) (bs : List ℕ) → line_count (b ∷ bs) ≡ suc (line_count (drop (extent (b ∷ bs)) (b ∷ bs)))
unfolding line_count extent
line_count_first b [] = split (eqb b 10) (λ e. rw e) (λ e. rw e)
line_count_first b (c ∷ bs) = split (eqb b 10) (λ e. rw e) (λ e. rw e (line_count_first c bs))

extent_positive : (b : ℕ) (bs : List ℕ) → 0 < extent (b ∷ bs)
unfolding extent
extent_positive b bs = split (eqb b 10) (λ e. rw e (omega arith)) (λ e. rw e (omega arith))

-- what the line's reading leaves of a text that is not empty
pub record Shorter (text left : List ℕ) : Type 0 where
  pub one_fewer : line_count text ≡ suc (line_count left)
  pub shorter : length left < length text

pub shorter_behind : (text left : List ℕ) → 0 < length text → left ≡ drop (reading text 0).place text → Shorter text left
unfolding reading reading_by
shorter_behind [] left some e = absurd (omega (arith, some))
shorter_behind (b ∷ bs) left some e =
    rw (e, zero-add (extent (b ∷ bs)))
    (record {
      one_fewer = line_count_first b bs;
      shorter = rw (length-drop (extent (b ∷ bs)) (b ∷ bs)) (omega (arith, extent_positive b bs));
    })

-- so many lines of a text are counted, and the rest of it is left
pub record Counted (text left : List ℕ) (count : ℕ) : Type 0 where
  pub all : count + line_count left ≡ line_count text
  pub within : count + length left ≤ length text

pub counted_zero : (text : List ℕ) → Counted text text 0
counted_zero text = record { all = zero-add (line_count text); within = omega arith }

pub counted_first : {text left behind : List ℕ} {count : ℕ} → Counted text left count → Shorter left behind → Counted text behind (count + 1)
counted_first l s = record { all = omega (arith, l.all, s.one_fewer); within = omega (arith, l.within, s.shorter) }

pub line_count_counted : {text left : List ℕ} {count : ℕ} → Counted text left count → length left ≡ 0 → count ≡ line_count text
unfolding line_count
line_count_counted {left = []} l e = omega (arith, l.all)
line_count_counted {left = b ∷ bs} l e = absurd (omega (arith, e))
