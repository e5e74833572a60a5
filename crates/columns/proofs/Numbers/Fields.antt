-- Fields, the 6 columns of a number each: so many of them one behind the other; and within the first bytes.
use mathlib.Core.Path.{◌≡◌, refl, sym, ap, ◌∙◌}
use mathlib.Core.List.{List, [], ◌∷◌, ◌++◌, append_assoc}
use mathlib.Core.Option.{none, some, Option, bind}
use Prim.Native.Nat.{ℕ, zero, suc, ◌+◌, ◌-◌, ◌*◌, ◌≤◌, ◌<◌}
use native.Mathlib.Omega.{arith}
use lib.ListN.{take, drop}
use lib.Seq.{take-take}
use Rattle.columns.specs.Numbers.{number, field, fields}
use Rattle.std.proofs.lemmas.List.{drop-take}

-- numbers that are read, and those found behind them
unfoldable pub behind : List ℕ → Option (List ℕ) → Option (List ℕ)
behind xs none = none
behind xs (some ys) = some (xs ++ ys)

pub behind_none_read : (o : Option (List ℕ)) → behind [] o ≡ o
unfolding behind
behind_none_read none = refl
behind_none_read (some ys) = refl

pub behind_one_more : (xs : List ℕ) (n : ℕ) (o : Option (List ℕ)) → behind xs (bind o λ ns. some (n ∷ ns)) ≡ behind (xs ++ (n ∷ [])) o
unfolding behind bind
behind_one_more xs n none = refl
behind_one_more xs n (some ys) = ap some (sym (append_assoc xs (n ∷ []) ys))

-- by the first field
pub fields_number : (k n : ℕ) (bytes : List ℕ) → 0 < k → field 0 bytes ≡ some n
    → fields k bytes ≡ bind (fields (k - 1) (drop 6 bytes)) λ ns. some (n ∷ ns)
unfolding fields bind
fields_number zero n bytes h e = absurd (omega arith)
fields_number (suc k) n bytes h e =
    let less : suc k - 1 ≡ k = omega arith in
    rw (e, less)

pub fields_other : (k : ℕ) (bytes : List ℕ) → 0 < k → field 0 bytes ≡ none → fields k bytes ≡ none
unfolding fields bind
fields_other zero bytes h e = absurd (omega arith)
fields_other (suc k) bytes h e = rw e

-- a field within the first bytes
pub field_take : (k w : ℕ) (text : List ℕ) → k + 6 ≤ w → field k (take w text) ≡ field k text
unfolding field
field_take k w text h =
    let apart : k + (w - k) ≡ w = omega arith in
    let cut : drop k (take w text) ≡ take (w - k) (drop k text) = ap (λ (n : ℕ). drop k (take n text)) (sym apart) ∙ drop-take k (w - k) text in
    ap (λ (bytes : List ℕ). number (take 6 bytes)) cut ∙ ap number (take-take 6 (w - k) (drop k text) (omega arith))

-- the fields within the first bytes
pub fields_take : (k : ℕ) (text : List ℕ) → fields k (take (6 * k) text) ≡ fields k text
unfolding fields
fields_take zero text = refl
fields_take (suc k) text =
    let first : 6 * suc k ≡ 6 + 6 * k = omega arith in
    rw (first, field_take 0 (6 + 6 * k) text (omega arith), drop-take 6 (6 * k) text, fields_take k (drop 6 text))
