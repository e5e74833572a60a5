-- One store to a table of counts is one step on the entries: a row is dropped, raised, entered, or makes room. The first place of a count, and of the
-- highest, is the row that the definition names.
use mathlib.Core.Path.{◌≡◌, refl, ap, sym, ◌∙◌}
use mathlib.Core.Bool.{true, false}
use mathlib.Core.List.{List, [], ◌∷◌}
use Prim.Native.Nat.{ℕ, zero, suc, ◌+◌, ◌≤◌, ◌<◌}
use native.Mathlib.Omega.{arith}
use native.Mathlib.Numerals.{add-one}
use borrow.Author.Tests.{eq-eqb, ne_eqb, lt-ltb, le-ltb}
use lib.Dec.{eqb, ltb, eqb-zero-suc}
use lib.ListN.{length, get_or, set}
use Rattle.laws.proofs.Cases.{split, zero_one}
use Rattle.tables.specs.InnerContracts.{equal_place, highest_from, highest_place}
use Rattle.summary.specs.Entries.{Entry, has, without, raised, entered, has_count, without_count, top, picks}
use Rattle.summary.specs.Rules.{Ceiling, under}
use Rattle.dense.specs.Dense.{entries_from}

-- rows below the first place are not there
has_below : (k row : ℕ) (cs : List ℕ) → row < k → has row (entries_from k cs) ≡ false
unfolding has entries_from
has_below k row [] h = refl
has_below k row (zero ∷ cs) h = has_below (suc k) row cs (omega arith)
has_below k row (suc c ∷ cs) h = rw (ne_eqb k row (λ q. omega arith)) (has_below (suc k) row cs (omega arith))

without_below : (k row : ℕ) (cs : List ℕ) → row < k → without row (entries_from k cs) ≡ entries_from k cs
unfolding without entries_from
without_below k row [] h = refl
without_below k row (zero ∷ cs) h = without_below (suc k) row cs (omega arith)
without_below k row (suc c ∷ cs) h =
    rw (ne_eqb k row (λ q. omega arith))
    (ap (λ (es : List Entry). record { row = k; count = suc c } ∷ es) (without_below (suc k) row cs (omega arith)))

entered_below : (k row v : ℕ) (cs : List ℕ) → row < k → entered row v (entries_from k cs) ≡ record { row = row; count = v } ∷ entries_from k cs
unfolding entered entries_from
entered_below k row v [] h = refl
entered_below k row v (zero ∷ cs) h = entered_below (suc k) row v cs (omega arith)
entered_below k row v (suc c ∷ cs) h = rw (lt-ltb row k h)

-- whether a row is tracked
pub row_tracked : (k i row : ℕ) (cs : List ℕ) → row ≡ k + i → 0 < get_or cs i 0 → has row (entries_from k cs) ≡ true
unfolding has entries_from
row_tracked k i row [] e h = absurd (omega arith)
row_tracked k zero row (zero ∷ cs) e h = absurd (omega arith)
row_tracked k zero row (suc c ∷ cs) e h = rw (eq-eqb k row (omega arith))
row_tracked k (suc i) row (zero ∷ cs) e h = row_tracked (suc k) i row cs (omega arith) h
row_tracked k (suc i) row (suc c ∷ cs) e h = rw (ne_eqb k row (λ q. omega arith)) (row_tracked (suc k) i row cs (omega arith) h)

pub row_untracked : (k i row : ℕ) (cs : List ℕ) → row ≡ k + i → get_or cs i 0 ≡ 0 → has row (entries_from k cs) ≡ false
unfolding has entries_from
row_untracked k i row [] e h = refl
row_untracked k zero row (zero ∷ cs) e h = has_below (suc k) row cs (omega arith)
row_untracked k zero row (suc c ∷ cs) e h = absurd (omega arith)
row_untracked k (suc i) row (zero ∷ cs) e h = row_untracked (suc k) i row cs (omega arith) h
row_untracked k (suc i) row (suc c ∷ cs) e h = rw (ne_eqb k row (λ q. omega arith)) (row_untracked (suc k) i row cs (omega arith) h)

-- 0 is stored: the row is dropped
pub stored_zero : (k i row : ℕ) (cs : List ℕ) → row ≡ k + i → entries_from k (set cs i 0) ≡ without row (entries_from k cs)
unfolding without entries_from
stored_zero k i row [] e = refl
stored_zero k zero row (zero ∷ cs) e = sym (without_below (suc k) row cs (omega arith))
stored_zero k zero row (suc c ∷ cs) e = rw (eq-eqb k row (omega arith))
stored_zero k (suc i) row (zero ∷ cs) e = stored_zero (suc k) i row cs (omega arith)
stored_zero k (suc i) row (suc c ∷ cs) e =
    rw (ne_eqb k row (λ q. omega arith))
    (ap (λ (es : List Entry). record { row = k; count = suc c } ∷ es) (stored_zero (suc k) i row cs (omega arith)))

-- one more is stored where the row is tracked: its count rises
pub stored_more : (k i row : ℕ) (cs : List ℕ) → row ≡ k + i → 0 < get_or cs i 0 → entries_from k (set cs i (get_or cs i 0 + 1)) ≡ raised row (entries_from k cs)
unfolding raised entries_from
stored_more k i row [] e h = absurd (omega arith)
stored_more k zero row (zero ∷ cs) e h = absurd (omega arith)
stored_more k zero row (suc c ∷ cs) e h = rw (eq-eqb k row (omega arith), add-one (suc c))
stored_more k (suc i) row (zero ∷ cs) e h = stored_more (suc k) i row cs (omega arith) h
stored_more k (suc i) row (suc c ∷ cs) e h =
    rw (ne_eqb k row (λ q. omega arith))
    (ap (λ (es : List Entry). record { row = k; count = suc c } ∷ es) (stored_more (suc k) i row cs (omega arith) h))

-- a count is stored where the row is not tracked: it is entered
pub stored_new : (k i row v : ℕ) (cs : List ℕ) → row ≡ k + i → i < length cs → get_or cs i 0 ≡ 0 → entries_from k (set cs i (suc v)) ≡ entered row (suc v) (entries_from k cs)
unfolding entered entries_from
stored_new k i row v [] e l h = absurd (omega arith)
stored_new k zero row v (zero ∷ cs) e l h =
    let same : row ≡ k = omega arith in
    rw same (sym (entered_below (suc k) k (suc v) cs (omega arith)))
stored_new k zero row v (suc c ∷ cs) e l h = absurd (omega arith)
stored_new k (suc i) row v (zero ∷ cs) e l h = stored_new (suc k) i row v cs (omega arith) (omega arith) h
stored_new k (suc i) row v (suc c ∷ cs) e l h =
    rw (le-ltb row k (omega arith))
    (ap (λ (es : List Entry). record { row = k; count = suc c } ∷ es) (stored_new (suc k) i row v cs (omega arith) (omega arith) h))

-- the first place of a count that is not 0 is that of the first tracked row with that count
first_there : (k s : ℕ) (cs : List ℕ) → equal_place (suc s) cs < length cs → has_count (suc s) (entries_from k cs) ≡ true
unfolding has_count entries_from equal_place
first_there k s [] h = absurd (omega arith)
first_there k s (zero ∷ cs) h = first_there (suc k) s cs (omega (arith, rw (eqb-zero-suc s) at h))
first_there k s (suc c ∷ cs) h =
    split (eqb (suc c) (suc s)) (λ on. rw on) (λ off. rw off (first_there (suc k) s cs (omega (arith, rw off at h))))

first_nowhere : (k s : ℕ) (cs : List ℕ) → length cs ≤ equal_place (suc s) cs → has_count (suc s) (entries_from k cs) ≡ false
unfolding has_count entries_from equal_place
first_nowhere k s [] h = refl
first_nowhere k s (zero ∷ cs) h = first_nowhere (suc k) s cs (omega (arith, rw (eqb-zero-suc s) at h))
first_nowhere k s (suc c ∷ cs) h =
    split (eqb (suc c) (suc s))
    (λ on. absurd (omega (arith, rw on at h)))
    (λ off. rw off (first_nowhere (suc k) s cs (omega (arith, rw off at h))))

stored_room : (k s : ℕ) (cs : List ℕ) → entries_from k (set cs (equal_place (suc s) cs) 0) ≡ without_count (suc s) (entries_from k cs)
unfolding without_count entries_from equal_place
stored_room k s [] = refl
stored_room k s (zero ∷ cs) = rw (eqb-zero-suc s) (stored_room (suc k) s cs)
stored_room k s (suc c ∷ cs) =
    split (eqb (suc c) (suc s))
    (λ on. rw on)
    (λ off. rw off (ap (λ (es : List Entry). record { row = k; count = suc c } ∷ es) (stored_room (suc k) s cs)))

-- the same of any count above 0
pub count_there : (s : ℕ) (cs : List ℕ) → 0 < s → equal_place s cs < length cs → has_count s (entries_from 0 cs) ≡ true
count_there zero cs p h = absurd (omega arith)
count_there (suc s) cs p h = first_there 0 s cs h

pub count_nowhere : (s : ℕ) (cs : List ℕ) → 0 < s → length cs ≤ equal_place s cs → has_count s (entries_from 0 cs) ≡ false
count_nowhere zero cs p h = absurd (omega arith)
count_nowhere (suc s) cs p h = first_nowhere 0 s cs h

pub room_made : (s : ℕ) (cs : List ℕ) → 0 < s → entries_from 0 (set cs (equal_place s cs) 0) ≡ without_count s (entries_from 0 cs)
room_made zero cs p = absurd (omega arith)
room_made (suc s) cs p = stored_room 0 s cs

-- no tracked row has count 0
pub none_zero : (k : ℕ) (cs : List ℕ) → has_count 0 (entries_from k cs) ≡ false
unfolding has_count entries_from
none_zero k [] = refl
none_zero k (zero ∷ cs) = none_zero (suc k) cs
none_zero k (suc c ∷ cs) = rw (ne_eqb (suc c) 0 (λ q. omega arith)) (none_zero (suc k) cs)

-- where all counts are 0 no row is tracked
pub none_tracked : (k : ℕ) (cs : List ℕ) → ((i : ℕ) → get_or cs i 0 ≡ 0) → entries_from k cs ≡ []
unfolding entries_from
none_tracked k [] z = refl
none_tracked k (zero ∷ cs) z = none_tracked (suc k) cs (λ i. z (suc i))
none_tracked k (suc c ∷ cs) z = absurd (omega (arith, z 0))

-- no count is above what no tracked row's is
ceiling_parts : {high : ℕ} {x : Entry} {xs : List Entry} → Ceiling high (x ∷ xs) → (x.count ≤ high) × Ceiling high xs
ceiling_parts (under x c l) = (l, c)

pub count_under : (high k i : ℕ) (cs : List ℕ) → Ceiling high (entries_from k cs) → get_or cs i 0 ≤ high
unfolding entries_from
count_under high k i [] c = omega arith
count_under high k zero (zero ∷ cs) c = omega arith
count_under high k (suc i) (zero ∷ cs) c = count_under high (suc k) i cs c
count_under high k zero (suc n ∷ cs) c = (ceiling_parts c).0
count_under high k (suc i) (suc n ∷ cs) c = count_under high (suc k) i cs (ceiling_parts c).1

-- the first place of the highest count is the picked row
highest_later : (k place best : ℕ) (cs : List ℕ) → 0 < best → (top (record { row = place; count = best }) (entries_from k cs)).row ≡ highest_from place best k cs
unfolding top entries_from highest_from
highest_later k place best [] h = refl
highest_later k place best (zero ∷ cs) h = rw (le-ltb best 0 (omega arith)) (highest_later (suc k) place best cs h)
highest_later k place best (suc c ∷ cs) h =
    split (ltb best (suc c))
    (λ on. rw on (highest_later (suc k) k (suc c) cs (omega arith)))
    (λ off. rw off (highest_later (suc k) place best cs h))

-- the top entry's row, or another number where there is none
top_or : List Entry → ℕ → ℕ
top_or [] other = other
top_or (x ∷ xs) other = (top x xs).row

highest_first : (k place : ℕ) (cs : List ℕ) → top_or (entries_from k cs) place ≡ highest_from place 0 k cs
unfolding entries_from highest_from top_or
highest_first k place [] = refl
highest_first k place (zero ∷ cs) = highest_first (suc k) place cs
highest_first k place (suc c ∷ cs) = rw (lt-ltb 0 (suc c) (omega arith)) (highest_later (suc k) k (suc c) cs (omega arith))

top_place : (cs : List ℕ) (x : Entry) (xs : List Entry) → entries_from 0 cs ≡ x ∷ xs → (top x xs).row ≡ highest_place cs
unfolding entries_from highest_place top_or
top_place [] x xs e = zero_one (cc)
top_place (zero ∷ cs) x xs e = ap (λ (es : List Entry). top_or es 0) (sym e) ∙ highest_first 1 0 cs
top_place (suc c ∷ cs) x xs e = ap (λ (es : List Entry). top_or es 0) (sym e) ∙ highest_later 1 0 (suc c) cs (omega arith)

pub picked_one : (cs : List ℕ) (es : List Entry) → entries_from 0 cs ≡ es → 0 < length es → highest_place cs ∷ [] ≡ picks 1 es
unfolding picks
picked_one cs [] e h = absurd (omega arith)
picked_one cs (x ∷ xs) e h = ap (λ (row : ℕ). row ∷ []) (sym (top_place cs x xs e))
