-- The exact counter's operation, in numbers: what setting to 0 and adding 1 do to each row, and that the rows of an event, each once, are the
-- summary's sources.
use mathlib.Core.Path.{◌≡◌, refl, ◌∙◌, sym, ap}
use mathlib.Core.Bool.{false}
use mathlib.Core.Logic.{◌⊎◌, inl, inr, ⊎_elim}
use mathlib.Core.List.{List, [], ◌∷◌, ◌++◌}
use Prim.Native.Nat.{ℕ, ◌+◌, ◌≤◌}
use native.Mathlib.Omega.{arith}
use borrow.Author.Tests.{eqb-false, ne_eqb}
use lib.Dec.{eqb}
use Rattle.device.specs.declared.Settings.{Settings}
use Rattle.laws.proofs.Cases.{split}
use Rattle.device.proofs.Occurrences.{hit, times, times_append, times_below}
use Rattle.device.proofs.Victims.{ascends_none, ascends_more, Ascends}
use Rattle.summary.specs.Steps.{in_rows, besides}
use Rattle.summary.proofs.Steps.Event.{reached}
use Rattle.summary.proofs.Entries.Picks.{distinct_none, distinct_more, Distinct}
use Rattle.tracker.specs.Calls.{victims_in}
use Rattle.limit.specs.Exact.{zeroed, restored, one_more, disturbed_by, once}

one_more_times : (vs : List ℕ) (d : ℕ → ℕ) (v : ℕ) → one_more vs d v ≡ d v + times v vs
unfolding one_more times hit
one_more_times [] d v = omega arith
one_more_times (x ∷ xs) d v = omega (arith, one_more_times xs d v)

-- each row's number rises by how often it is disturbed
pub disturbed_by_reached : (s : Settings) (rows : List ℕ) (d : ℕ → ℕ) (v : ℕ) → disturbed_by s rows d v ≡ d v + reached (victims_in s) v rows
unfolding disturbed_by reached
disturbed_by_reached s [] d v = omega arith
disturbed_by_reached s (x ∷ xs) d v =
    omega (arith, disturbed_by_reached s xs (one_more (victims_in s x) d) v, one_more_times (victims_in s x) d v)

-- a row that is set to 0, or one that is not among them and keeps its number
zeroed_cases : (rows : List ℕ) (d : ℕ → ℕ) (v : ℕ) → (zeroed rows d v ≡ 0) ⊎ ((times v rows ≡ 0) × (zeroed rows d v ≡ d v))
unfolding zeroed times hit
zeroed_cases [] d v = inr (refl, refl)
zeroed_cases (x ∷ xs) d v =
    split (eqb x v)
    (λ on. inl (rw on))
    (λ off.
    ⊎_elim
    (λ gone. inl (rw off gone))
    (λ kept. inr (rw off (omega (arith, kept.0)), rw off kept.1))
    (zeroed_cases xs d v))

zeroed_sum_le : (rows : List ℕ) (a b c : ℕ → ℕ) (v : ℕ) → a v ≤ b v + c v → zeroed rows a v ≤ zeroed rows b v + zeroed rows c v
unfolding zeroed
zeroed_sum_le [] a b c v h = h
zeroed_sum_le (x ∷ xs) a b c v h = split (eqb x v) (λ on. rw on (omega arith)) (λ off. rw off (zeroed_sum_le xs a b c v h))

-- named and block rows: set to 0, or neither named nor of the block and kept
pub restored_cases : (named block : List ℕ) (d : ℕ → ℕ) (v : ℕ) → (restored named block d v ≡ 0) ⊎ ((times v named ≡ 0) × (times v block ≡ 0) × (restored named block d v ≡ d v))
unfolding restored
restored_cases named block d v =
    ⊎_elim
    (λ gone. inl gone)
    (λ kept. let neither = rw times_append at kept.0 in inr (omega arith, omega arith, kept.1))
    (zeroed_cases _ d v)

-- no number rises
pub restored_le : (named block : List ℕ) (d : ℕ → ℕ) (v : ℕ) → restored named block d v ≤ d v
restored_le named block d v =
    ⊎_elim (λ gone. omega (arith, gone)) (λ kept. omega (arith, kept.2)) (restored_cases named block d v)

pub restored_zero : (named block : List ℕ) (d : ℕ → ℕ) (v : ℕ) → d v ≡ 0 → restored named block d v ≡ 0
restored_zero named block d v e = omega (arith, restored_le named block d v)

-- it goes through a sum
pub restored_sum_le : (named block : List ℕ) (a b c : ℕ → ℕ) (v : ℕ) → a v ≤ b v + c v → restored named block a v ≤ restored named block b v + restored named block c v
unfolding restored
restored_sum_le named block a b c v h = zeroed_sum_le _ a b c v h

-- rows are restored and rows disturb their victims: a row keeps only what disturbs it, or it is not among the restored and has that besides
pub renewed_cases : (s : Settings) (named block sources : List ℕ) (d : ℕ → ℕ) (v : ℕ) → (disturbed_by s sources (restored named block d) v ≤ reached (victims_in s) v sources) ⊎ ((times v (named ++ block) ≡ 0) × (disturbed_by s sources (restored named block d) v ≤ d v + reached (victims_in s) v sources))
renewed_cases s named block sources d v =
    let total = disturbed_by_reached s sources (restored named block d) v in
    ⊎_elim
    (λ gone. inl (omega (arith, gone, total)))
    (λ kept. inr (omega (arith, kept.0, kept.1, times_append v named block), omega (arith, kept.2, total)))
    (restored_cases named block d v)

-- where every row starts from 0, only what disturbs it is there
pub renewed_from_zero : (s : Settings) (named block sources : List ℕ) (v : ℕ) → disturbed_by s sources (restored named block (λ row. 0)) v ≡ reached (victims_in s) v sources
renewed_from_zero s named block sources v =
    omega (
      arith,
      disturbed_by_reached s sources (restored named block (λ row. 0)) v,
      restored_le named block (λ row. 0) v,
    )

besides_nothing : (xs : List ℕ) → besides [] xs ≡ xs
unfolding besides in_rows
besides_nothing [] = refl
besides_nothing (x ∷ xs) = ap (λ (ys : List ℕ). x ∷ ys) (besides_nothing xs)

besides_append : (rows xs ys : List ℕ) → besides rows (xs ++ ys) ≡ besides rows xs ++ besides rows ys
unfolding besides
besides_append rows [] ys = refl
besides_append rows (x ∷ xs) ys =
    split (in_rows x rows)
    (λ on. rw on (besides_append rows xs ys))
    (λ off. rw off (ap (λ (zs : List ℕ). x ∷ zs) (besides_append rows xs ys)))

-- one row out, where it does not stand
besides_absent : (row : ℕ) (xs : List ℕ) → times row xs ≡ 0 → besides (row ∷ []) xs ≡ xs
unfolding besides in_rows times hit
besides_absent row [] e = refl
besides_absent row (x ∷ xs) e =
    split (eqb x row)
    (λ on. absurd (let e' = rw on at e in omega arith))
    (λ off.
    let other : eqb row x ≡ false = ne_eqb row x (λ q. eqb-false x row off (sym q)) in
    rw other (ap (λ (zs : List ℕ). x ∷ zs) (besides_absent row xs (omega (arith, rw off at e)))))

-- one row out, then others: all of them out
besides_both : (row : ℕ) (rows xs : List ℕ) → besides (row ∷ []) (besides rows xs) ≡ besides (row ∷ rows) xs
unfolding besides in_rows
besides_both row rows [] = refl
besides_both row rows (x ∷ xs) =
    split (eqb row x)
    (λ on.
    split (in_rows x rows)
    (λ inside. rw (inside, on) (besides_both row rows xs))
    (λ outside. rw (outside, on) (besides_both row rows xs)))
    (λ off.
    split (in_rows x rows)
    (λ inside. rw (inside, off) (besides_both row rows xs))
    (λ outside. rw (outside, off) (ap (λ (zs : List ℕ). x ∷ zs) (besides_both row rows xs))))

once_ascending : {low high : ℕ} {xs : List ℕ} → Ascends low high xs → once xs ≡ xs
unfolding once
once_ascending ascends_none = refl
once_ascending (ascends_more {row} {rows} later from below) =
    rw (once_ascending later) (ap (λ (zs : List ℕ). row ∷ zs) (besides_absent row rows (times_below row later (omega arith))))

-- the named rows and then the block rows not among them are the named and block rows, each once
pub once_sources : {names : List ℕ} → Distinct names → {low high : ℕ} {block : List ℕ} → Ascends low high block → once (names ++ block) ≡ names ++ besides names block
unfolding once
once_sources distinct_none {block} a = once_ascending a ∙ sym (besides_nothing block)
once_sources (distinct_more row {rows = names} d e) {block} a =
    rw (once_sources d a, besides_append (row ∷ []) names (besides names block), besides_absent row names e, besides_both row names block)
