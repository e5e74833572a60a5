-- A place put in, and a place taken out: the part behind it is copied by one place, and the store does the rest. Done place by place, one store leaves
-- what is to be done the same, and the last store does it.
use mathlib.Core.Path.{◌≡◌, refl, ◌∙◌}
use mathlib.Core.List.{List, [], ◌∷◌, ◌++◌, append_assoc}
use Prim.Native.Nat.{ℕ, suc, ◌+◌, ◌-◌, ◌≤◌, ◌<◌}
use native.Mathlib.Numerals.{add-one}
use native.Mathlib.Omega.{arith}
use lib.ListN.{length, get_or, take, drop, set, length-drop}
use lib.Seq.{paste, take-set-le, drop-set-lt, drop-set-add, set_split, take-suc, drop-cons, take-suc-set, get_or-drop, set_at, length_paste_head}
use lib.Seq.{length-take-le}
use Rattle.laws.proofs.Lists.{drop_set}
use Rattle.tables.specs.InnerContracts.{put_in, taken_at}

pub put_in_copied : (t : List ℕ) (used at x : ℕ) → at ≤ used → used < length t → set (paste t (at + 1) (drop at t) (used - at)) at x ≡ put_in t used at x
unfolding put_in
put_in_copied t used at x inside room =
    let behind : at + 1 + (used - at) ≡ used + 1 = omega arith in
    let rest : List ℕ = take (used - at) (drop at t) ++ drop (used + 1) t in
    rw (behind, add-one at, take-suc t at 0 (omega arith))
    (simp (append_assoc, set_at (take at t) (get_or t at 0) rest x at (length-take-le at t (omega arith))))

pub taken_at_copied : (t : List ℕ) (used at : ℕ) → at < used → used ≤ length t → set (paste t at (drop (at + 1) t) (used - (at + 1))) (used - 1) 0 ≡ taken_at t used at
unfolding taken_at
taken_at_copied t used at inside room =
    let behind : at + (used - (at + 1)) ≡ used - 1 = omega arith in
    let last : suc (used - 1) ≡ used = omega arith in
    let front : length (take at t ++ take (used - (at + 1)) (drop (at + 1) t)) ≡ used - 1 =
    rw (length_paste_head t at (drop (at + 1) t) (used - (at + 1)) (omega arith) (rw length-drop (omega arith))) behind in
    rw (behind, drop-cons t (used - 1) 0 (omega arith), last)
    (set_at (take at t ++ take (used - (at + 1)) (drop (at + 1) t)) (get_or t (used - 1) 0) (drop used t) 0 (used - 1) front)

pub put_in_last : (t : List ℕ) (n x : ℕ) → n < length t → set t n x ≡ put_in t n n x
unfolding put_in
put_in_last t n x h =
    let none : n - n ≡ 0 = omega arith in
    rw (none, add-one, append_assoc) (set_split t n x h)

-- what lies before a store is as it was
before_store : (t : List ℕ) (at k n v : ℕ) → at + k < n → take k (drop at (set t n v)) ≡ take k (drop at t)
before_store t at k n v h = go (n - at) (omega arith) (omega arith)
  where
    go : (m : ℕ) → at + m ≡ n → k ≤ m → take k (drop at (set t n v)) ≡ take k (drop at t)
    go m e l = rw (← e, drop-set-add) (take-set-le k (drop at t) m v l)

-- the elements from a place on, with one more
one_more : (t : List ℕ) (at k : ℕ) → at + k < length t → take (suc k) (drop at t) ≡ take k (drop at t) ++ (get_or t (at + k) 0 ∷ [])
one_more t at k h =
    let inside : k < length (drop at t) = rw length-drop (omega arith) in
    rw (take-suc (drop at t) k 0 inside, get_or-drop) refl

pub put_in_again : (t : List ℕ) (n at x : ℕ) → at < n → n < length t → put_in (set t n (get_or t (n - 1) 0)) (n - 1) at x ≡ put_in t n at x
unfolding put_in
put_in_again t n at x h l =
    let v = get_or t (n - 1) 0 in
    let k = n - 1 - at in
    let one_less : n - 1 + 1 ≡ n = omega arith in
    let wider : n - at ≡ suc k = omega arith in
    let last : at + k ≡ n - 1 = omega arith in
    let more : take (suc k) (drop at t) ≡ take k (drop at t) ++ (v ∷ []) = rw last at (one_more t at k (omega arith)) in
    rw (one_less, drop_set t n v l, before_store t at k n v (omega arith), take-set-le at t n v (omega arith), wider, more, add-one)
    (simp append_assoc)

pub taken_at_last : (t : List ℕ) (n i : ℕ) → i + 1 ≡ n → n ≤ length t → set t i 0 ≡ taken_at t n i
unfolding taken_at
taken_at_last t n i e l =
    let none : n - (i + 1) ≡ 0 = omega arith in
    rw (none, ← e, add-one, append_assoc) (set_split t i 0 (omega arith))

pub taken_at_again : (t : List ℕ) (n i : ℕ) → i + 1 < n → n ≤ length t → taken_at (set t i (get_or t (i + 1) 0)) n (i + 1) ≡ taken_at t n i
unfolding taken_at
taken_at_again t n i h l =
    let v = get_or t (i + 1) 0 in
    let k = n - (i + 1 + 1) in
    let wider : n - (i + 1) ≡ suc k = omega arith in
    let front : (w : ℕ) → take (i + 1) (set t i w) ≡ take i t ++ (w ∷ []) = λ w. rw add-one (take-suc-set t i w (omega arith)) in
    let behind : drop (i + 1 + 1) (set t i v) ≡ drop (i + 1 + 1) t = drop-set-lt (i + 1 + 1) t i v (omega arith) in
    let next : drop (i + 1) t ≡ v ∷ drop (i + 1 + 1) t = drop-cons t (i + 1) 0 (omega arith) ∙ rw (add-one (i + 1)) refl in
    rw (front v, behind, drop-set-lt n t i v (omega arith), wider, next) (simp append_assoc)
