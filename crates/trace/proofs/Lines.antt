-- Lines: where one ends, its bytes and the rest, and a line with more text behind it.
use mathlib.Core.Path.{◌≡◌, refl, sym, ap, ◌∙◌}
use mathlib.Core.Bool.{true, false}
use mathlib.Core.Logic.{⊎_elim}
use mathlib.Core.List.{List, [], ◌∷◌, ◌++◌}
use Prim.Native.Nat.{ℕ, suc, ◌+◌, ◌≤◌}
use native.Mathlib.Omega.{arith}
use borrow.Author.Tests.{eqb-true}
use lib.Dec.{eqb}
use lib.ListN.{length, drop, drop_of_length-le}
use Rattle.std.specs.Prelude.{Some, None, position}
use Rattle.std.specs.List.{position_from}
use Rattle.std.proofs.lemmas.Iterator.Adapters.{position_from-zero}
use Rattle.std.proofs.lemmas.List.{take_rest}
use Rattle.laws.proofs.Cases.{split, clash, le_or_lt}
use Rattle.trace.specs.Lines.{line, ended, extent}

-- where the first byte 10 stands, counted from i
extent_from : (bytes : List ℕ) (i k : ℕ) → position_from (λ b. eqb b 10) i bytes ≡ Some k → i + extent bytes ≡ k + 1
unfolding extent
extent_from [] i k e = cc
extent_from (b ∷ bytes) i k e =
    split (eqb b 10)
    (λ s. let found : Some i ≡ Some k = rw s at e in let same : i ≡ k = cc in rw s (omega arith))
    (λ s. rw s (omega (arith, extent_from bytes (i + 1) k (rw s at e))))

extent_of_length : (bytes : List ℕ) (i : ℕ) → position_from (λ b. eqb b 10) i bytes ≡ None → extent bytes ≡ length bytes
unfolding extent
extent_of_length [] i e = refl
extent_of_length (b ∷ bytes) i e =
    split (eqb b 10)
    (λ s. let never : Some i ≡ None = rw s at e in cc)
    (λ s. rw s (ap suc (extent_of_length bytes (i + 1) (rw s at e))))

module _ (bytes : List ℕ) where
  pub extent_at : (k : ℕ) → position (λ b. eqb b 10) bytes ≡ Some k → extent bytes ≡ k + 1
  extent_at k e = omega (arith, extent_from bytes 0 k (sym (position_from-zero (λ b. eqb b 10) bytes) ∙ e))

  pub extent_nowhere : position (λ b. eqb b 10) bytes ≡ None → extent bytes ≡ length bytes
  extent_nowhere e = extent_of_length bytes 0 (sym (position_from-zero (λ b. eqb b 10) bytes) ∙ e)

pub ruleset extents = (take_rest, extent_at, extent_nowhere)

-- bytes without byte 10, then a byte 10: that is the line
module _ (rest : List ℕ) where
  pub line_append_end : (bytes : List ℕ) → ended bytes ≡ false → line (bytes ++ (10 ∷ rest)) ≡ bytes
  unfolding line ended
  line_append_end [] h = refl
  line_append_end (b ∷ bytes) h =
      split (eqb b 10)
      (λ e. clash (rw e at h))
      (λ e. rw (e, line_append_end bytes (rw e at h)))

  pub ended_append_end : (bytes : List ℕ) → ended (bytes ++ (10 ∷ rest)) ≡ true
  unfolding ended
  ended_append_end [] = refl
  ended_append_end (b ∷ bytes) = split (eqb b 10) (λ e. rw e) (λ e. rw e (ended_append_end bytes))

  pub extent_append_end : (bytes : List ℕ) → ended bytes ≡ false → extent (bytes ++ (10 ∷ rest)) ≡ length bytes + 1
  unfolding extent ended
  extent_append_end [] h = refl
  extent_append_end (b ∷ bytes) h =
      split (eqb b 10)
      (λ e. clash (rw e at h))
      (λ e. rw e (omega (arith, extent_append_end bytes (rw e at h))))

-- a line that ended is its bytes, a byte 10 and the rest
pub line_end_rest : (text : List ℕ) → ended text ≡ true → text ≡ line text ++ (10 ∷ drop (extent text) text)
unfolding line ended extent
line_end_rest [] h = clash (sym h)
line_end_rest (b ∷ text) h =
    split (eqb b 10)
    (λ e. rw e (ap (λ (x : ℕ). x ∷ text) (eqb-true b 10 e)))
    (λ e. rw e (ap (λ (xs : List ℕ). b ∷ xs) (line_end_rest text (rw e at h))))

-- the bytes of a line hold no byte 10
pub ended_line : (text : List ℕ) → ended (line text) ≡ false
unfolding line ended
ended_line [] = refl
ended_line (b ∷ text) = split (eqb b 10) (λ e. rw e) (λ e. rw (e, e) (ended_line text))

-- byte 10 in neither of two parts: not in the whole
pub ended_append : (xs ys : List ℕ) → ended xs ≡ false → ended ys ≡ false → ended (xs ++ ys) ≡ false
unfolding ended
ended_append [] ys h k = k
ended_append (b ∷ xs) ys h k =
    split (eqb b 10)
    (λ e. clash (rw e at h))
    (λ e. rw e (ended_append xs ys (rw e at h) k))

-- a line whose end is still to come goes on in what follows
pub line_append : (text more : List ℕ) → ended text ≡ false → line (text ++ more) ≡ text ++ line more
unfolding line ended
line_append [] more h = refl
line_append (b ∷ text) more h =
    split (eqb b 10) (λ e. clash (rw e at h)) (λ e. rw e (ap (λ (t : List ℕ). b ∷ t) (line_append text more (rw e at h))))

pub extent_append : (text more : List ℕ) → ended text ≡ false → extent (text ++ more) ≡ length text + extent more
unfolding extent ended
extent_append [] more h = omega arith
extent_append (b ∷ text) more h =
    split (eqb b 10) (λ e. clash (rw e at h)) (λ e. rw e (omega (arith, extent_append text more (rw e at h))))

-- a line that ends within a text lies within it
pub ended_drop_le : (a : List ℕ) (p : ℕ) → ended (drop p a) ≡ true → p ≤ length a
unfolding ended
ended_drop_le a p h =
    ⊎_elim (λ w. w) (λ w. clash (sym (rw (drop_of_length-le a {i = p} (omega arith)) at h))) (le_or_lt p (length a))

-- no bytes are left
pub ended_drop_length : (k : ℕ) (bytes : List ℕ) → length bytes ≡ k → ended (drop k bytes) ≡ false
unfolding ended
ended_drop_length k bytes h = rw (drop_of_length-le bytes {i = k} (omega arith))
