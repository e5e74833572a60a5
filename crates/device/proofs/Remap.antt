-- A remap that is accepted is a permutation of the bank's rows: sixteen places in which each of 0 to 15 occurs hold nothing else, and none of them twice.
use mathlib.Core.Path.{◌≡◌, refl, sym, subst}
use mathlib.Core.Bool.{and-false, Bool, true, false, cond}
use mathlib.Core.List.{List}
use mathlib.Core.Logic.{⊎_elim}
use Prim.Native.Nat.{ℕ, zero, suc, ◌+◌, ◌-◌, ◌%◌, ◌≤◌, ◌<◌}
use native.Mathlib.Nat.{mod-lt, zero-add}
use native.Mathlib.Numerals.{sub-one}
use native.Mathlib.Omega.{arith}
use borrow.Author.Tests.{eq-eqb, ne_eqb, eqb-true, eqb-false, ltb-true, ltb-false, lt-ltb, le-ltb}
use lib.Dec.{eqb, ltb, lit<}
use lib.ListN.{get_or, length}
use Rattle.std.specs.Bool.{MatchBool}
use Rattle.std.specs.List.{AllWithin, HoldsAt, range_with_len}
use Rattle.std.proofs.lemmas.List.FromFn.{get_or-range_with_len, length-range_with_len}
use Rattle.laws.proofs.Cases.{split, clash, and_both, le_or_lt}
use Rattle.device.specs.Remap.{own_remap, occurs_in, all_occur, remap_allowed, physical}
use Rattle.device.proofs.Occurrences.{hit, hit_le}

-- what a search from the last place down finds, by the place it looks at
pub occurs_here : (i k : ℕ) (v : List ℕ) → 0 < i → get_or v (i - 1) 0 ≡ k → occurs_in i v k ≡ true
unfolding occurs_in
occurs_here zero k v h e = absurd (omega arith)
occurs_here (suc i) k v h e = let here : get_or v i 0 ≡ k = rw sub-one at e in rw (eq-eqb _ _ here)

pub occurs_before : (i k : ℕ) (v : List ℕ) → 0 < i → (get_or v (i - 1) 0 ≡ k → ⊥) → occurs_in i v k ≡ occurs_in (i - 1) v k
unfolding occurs_in
occurs_before zero k v h e = absurd (omega arith)
occurs_before (suc i) k v h e = let other : (get_or v i 0 ≡ k → ⊥) = rw sub-one at e in rw (ne_eqb _ _ other, sub-one)

pub occurs_nowhere : (i k : ℕ) (v : List ℕ) → i ≡ 0 → occurs_in i v k ≡ false
unfolding occurs_in
occurs_nowhere i k v e = rw e

-- what `all` says of each number below n
all_there : (n : ℕ) (v : List ℕ) → ((k : ℕ) → k < n → occurs_in 16 v k ≡ true) → all_occur n v ≡ true
unfolding all_occur
all_there zero v there = refl
all_there (suc n) v there = rw (there n (omega arith)) (all_there n v (λ k h. there k (omega arith)))

one_missing : (n k : ℕ) (v : List ℕ) → k < n → occurs_in 16 v k ≡ false → all_occur n v ≡ false
unfolding all_occur
one_missing zero k v h missing = absurd (omega arith)
one_missing (suc n) k v h missing =
    ⊎_elim
    (λ last. let same : k ≡ n = omega arith in rw (rw same at missing))
    (λ before. rw (one_missing n k v before missing) (and-false (occurs_in 16 v n)))
    (le_or_lt n k)

-- the test from the highest number down
pub all_missing : (n : ℕ) (v : List ℕ) → 0 < n → occurs_in 16 v (n - 1) ≡ false → all_occur n v ≡ false
all_missing n v h e = one_missing n (n - 1) v (omega arith) e

pub all_before : (n : ℕ) (v : List ℕ) → 0 < n → occurs_in 16 v (n - 1) ≡ true → all_occur n v ≡ all_occur (n - 1) v
unfolding all_occur
all_before zero v h e = absurd (omega arith)
all_before (suc n) v h e = let here : occurs_in 16 v n ≡ true = rw sub-one at e in rw (here, sub-one)

pub all_of_none : (n : ℕ) (v : List ℕ) → n ≡ 0 → all_occur n v ≡ true
unfolding all_occur
all_of_none n v e = rw e

pub all_said : (n : ℕ) (b : Bool) (v : List ℕ) →
    MatchBool b
    (AllWithin (λ k. occurs_in 16 v k ≡ true) (range_with_len 0 n) 0 (length (range_with_len 0 n)))
    ((k : ℕ) × (k < length (range_with_len 0 n)) × HoldsAt (λ k. occurs_in 16 v k ≡ false) (range_with_len 0 n) k) →
    b ≡ all_occur n v
all_said n true v all =
    sym (all_there n v (λ k few. rw (get_or-range_with_len 0 n k 0 few, zero-add) at (all k 0 (omega arith) (omega (arith, length-range_with_len)))))
all_said n false v (k, h, missing) =
    let few : k < n = omega (arith, length-range_with_len) in
    sym (one_missing n k v few (rw (get_or-range_with_len 0 n k 0 few, zero-add) at (missing 0)))

-- how many of the first places hold k, and how many a number below n
holding : ℕ → List ℕ → ℕ → ℕ
holding zero v k = 0
holding (suc i) v k = hit (get_or v i 0) k + holding i v k

less : ℕ → ℕ → ℕ
less x n = cond (ltb x n) 1 0

below : ℕ → List ℕ → ℕ → ℕ
below zero v n = 0
below (suc i) v n = less (get_or v i 0) n + below i v n

less_le : (x n : ℕ) → less x n ≤ 1
unfolding less
less_le x n = split (ltb x n) (λ e. rw e (omega arith)) (λ e. rw e (omega arith))

less_next : (x n : ℕ) → less x (suc n) ≡ less x n + hit x n
unfolding less hit
less_next x n =
    split (ltb x n)
    (λ on. let l = ltb-true x n on in rw (on, lt-ltb x (suc n) (omega arith), ne_eqb x n (λ e. omega arith)))
    (λ off.
    let l = ltb-false x n off in
    split (eqb x n)
    (λ same. let e = eqb-true x n same in rw (off, same, lt-ltb x (suc n) (omega arith)))
    (λ other. let e = eqb-false x n other in rw (off, other, le-ltb x (suc n) (omega arith))))

below_le : (i n : ℕ) (v : List ℕ) → below i v n ≤ i
unfolding below
below_le zero n v = omega arith
below_le (suc i) n v = omega (arith, less_le (get_or v i 0) n, below_le i n v)

below_next : (i n : ℕ) (v : List ℕ) → below i v (suc n) ≡ below i v n + holding i v n
unfolding below holding
below_next zero n v = refl
below_next (suc i) n v = omega (arith, less_next (get_or v i 0) n, below_next i n v)

-- a number that occurs is held once at least, and one that stands at two places twice
occurs_held : (i k : ℕ) (v : List ℕ) → occurs_in i v k ≡ true → 1 ≤ holding i v k
unfolding occurs_in holding hit
occurs_held zero k v e = clash (sym e)
occurs_held (suc i) k v e =
    split (eqb (get_or v i 0) k)
    (λ same. rw same (omega arith))
    (λ other. rw other (omega (arith, occurs_held i k v (rw other at e))))

held_once : (i j k : ℕ) (v : List ℕ) → j < i → get_or v j 0 ≡ k → 1 ≤ holding i v k
unfolding holding hit
held_once zero j k v l e = absurd (omega arith)
held_once (suc i) j k v l e =
    split (eqb (get_or v i 0) k)
    (λ same. rw same (omega arith))
    (λ other.
    let apart : (j ≡ i → ⊥) = λ at. eqb-false (get_or v i 0) k other (subst (λ x. get_or v x 0 ≡ k) at e) in
    rw other (omega (arith, held_once i j k v (omega arith) e)))

held_twice : (i j l k : ℕ) (v : List ℕ) → j < l → l < i → get_or v j 0 ≡ k → get_or v l 0 ≡ k → 2 ≤ holding i v k
unfolding holding hit
held_twice zero j l k v a b e f = absurd (omega arith)
held_twice (suc i) j l k v a b e f =
    split (eqb l i)
    (λ last.
    let here : get_or v i 0 ≡ k = subst (λ x. get_or v x 0 ≡ k) (eqb-true l i last) f in
    rw (eq-eqb _ _ here) (omega (arith, held_once i j k v (omega (arith, eqb-true l i last)) e)))
    (λ before. omega (arith, hit_le (get_or v i 0) k, held_twice i j l k v a (omega (arith, eqb-false l i before)) e f))

-- where each number below n occurs, n places hold one, and more if one of these numbers stands twice
each_below : (n : ℕ) (v : List ℕ) → all_occur n v ≡ true → n ≤ below 16 v n
unfolding all_occur
each_below zero v e = omega arith
each_below (suc n) v e =
    let both = and_both (occurs_in 16 v n) (all_occur n v) e in
    omega (arith, below_next 16 n v, occurs_held 16 n v both.0, each_below n v both.1)

crowded : (n k : ℕ) (v : List ℕ) → all_occur n v ≡ true → k < n → 2 ≤ holding 16 v k → suc n ≤ below 16 v n
unfolding all_occur
crowded zero k v e l two = absurd (omega arith)
crowded (suc n) k v e l two =
    let both = and_both (occurs_in 16 v n) (all_occur n v) e in
    split (eqb k n)
    (λ same.
    let here : 2 ≤ holding 16 v n = subst (λ x. 2 ≤ holding 16 v x) (eqb-true k n same) two in
    omega (arith, below_next 16 n v, each_below n v both.1))
    (λ other. omega (arith, below_next 16 n v, occurs_held 16 n v both.0, crowded n k v both.1 (omega (arith, eqb-false k n other)) two))

-- as many places as hold a number below n: each does
full_below : (i j n : ℕ) (v : List ℕ) → i ≤ below i v n → j < i → get_or v j 0 < n
unfolding below less
full_below zero j n v h l = absurd (omega arith)
full_below (suc i) j n v h l =
    split (ltb (get_or v i 0) n)
    (λ on.
    let rest = rw on at h in
    split (eqb j i)
    (λ same. subst (λ x. get_or v x 0 < n) (sym (eqb-true j i same)) (ltb-true (get_or v i 0) n on))
    (λ other. full_below i j n v (omega arith) (omega (arith, eqb-false j i other))))
    (λ off. let rest = rw off at h in absurd (omega (arith, below_le i n v)))

module _ (v : List ℕ) (ok : remap_allowed v ≡ true) where
  -- the entries of an accepted remap are below 16
  pub entry_below : (i : ℕ) → i < 16 → get_or v i 0 < 16
  unfolding remap_allowed
  entry_below i l = full_below 16 i 16 v (each_below 16 v ok) l

  -- and no two of them are the same
  entry_apart : (i j : ℕ) → i < j → j < 16 → get_or v i 0 ≡ get_or v j 0 → ⊥
  unfolding remap_allowed
  entry_apart i j l h e =
      let two = held_twice 16 i j (get_or v j 0) v l h e refl in
      omega (arith, crowded 16 (get_or v j 0) v ok (entry_below j h) two, below_le 16 16 v)

  entry_distinct : (i j : ℕ) → i < 16 → j < 16 → get_or v i 0 ≡ get_or v j 0 → i ≡ j
  entry_distinct i j l h e =
      ⊎_elim
      (λ low. ⊎_elim (λ high. omega arith) (λ high. absurd (entry_apart i j high h e)) (le_or_lt j i))
      (λ low. absurd (entry_apart j i low l (sym e)))
      (le_or_lt i j)

  -- 'rows below N stay below N', for a bank of whole groups of 16
  pub physical_below : (rows row : ℕ) → rows % 16 ≡ 0 → row < rows → physical v row < rows
  unfolding physical
  physical_below rows row whole h = omega (arith, entry_below (row % 16) (mod-lt row (lit< tt)))

  -- different rows stay different
  pub physical_distinct : (a b : ℕ) → physical v a ≡ physical v b → a ≡ b
  unfolding physical
  physical_distinct a b e =
      let x = entry_below (a % 16) (mod-lt a (lit< tt)) in
      let y = entry_below (b % 16) (mod-lt b (lit< tt)) in
      let same : get_or v (a % 16) 0 ≡ get_or v (b % 16) 0 = omega arith in
      omega (arith, entry_distinct (a % 16) (b % 16) (mod-lt a (lit< tt)) (mod-lt b (lit< tt)) same)

-- our own table, by one computed test
pub own_allowed : remap_allowed own_remap ≡ true
unfolding remap_allowed all_occur occurs_in own_remap
own_allowed = refl
