-- Whether a row is tracked: through drops, and by its entry.
use mathlib.Core.Path.{◌≡◌, refl, ◌∙◌, sym, ap}
use mathlib.Core.Bool.{true, false}
use mathlib.Core.List.Memᴰ
use mathlib.Core.List.{List, [], ◌∷◌, Memᴰ}
use mathlib.Core.Logic.{⊎_elim}
use Prim.Native.Nat.{ℕ, ◌<◌}
use native.Mathlib.Omega.{arith}
use borrow.Author.Tests.{eqb-false, eqb-true, ne_eqb}
use lib.Dec.{eqb}
use Rattle.laws.proofs.Cases.{split, clash, or_neither}
use Rattle.summary.specs.Entries.{Entry, has, without, without_count}
use Rattle.summary.specs.Rules.{Ordered, ordered_none, ordered_more}

-- of a test and a later one, or-neither holds
-- a row below the range is not tracked
has_below : (row : ℕ) {high low : ℕ} {es : List Entry} → Ordered high low es → row < low → has row es ≡ false
unfolding has
has_below row ordered_none h = refl
has_below row (ordered_more low x o l b) h =
    rw (ne_eqb x.row row (λ e. omega arith)) (has_below row o (omega arith))

-- a dropped row is not tracked any distinct-more
pub has_dropped : (row : ℕ) {high low : ℕ} {es : List Entry} → Ordered high low es → has row (without row es) ≡ false
unfolding has without
has_dropped row ordered_none = refl
has_dropped row (ordered_more low x o l b) =
    split (eqb x.row row)
    (λ on. let same = eqb-true x.row row on in rw on (has_below row o (omega arith)))
    (λ off. rw (off, off) (has_dropped row o))

pub has_without : (row v : ℕ) (es : List Entry) → has row es ≡ false → has row (without v es) ≡ false
unfolding has without
has_without row v [] e = e
has_without row v (x ∷ xs) e =
    let parts = or_neither (eqb x.row row) (has row xs) e in
    split (eqb x.row v) (λ on. rw on parts.1) (λ off. rw (off, parts.0) (has_without row v xs parts.1))

pub has_member : (x : Entry) (es : List Entry) → Memᴰ x es → has x.row es ≡ true
unfolding has
has_member x [] m = absurd (Memᴰ.not-nil m)
has_member x (y ∷ ys) m =
    split (eqb y.row x.row)
    (λ on. rw on)
    (λ off.
    rw off
    (⊎_elim
    (λ same. absurd (eqb-false y.row x.row off (ap (λ (z : Entry). z.row) (sym same))))
    (λ later. has_member x ys later)
    (Memᴰ.cases_cons m)))

-- a tracked row's entry
pub record Tracked (row : ℕ) (es : List Entry) : Type 0 where
  pub entry : Entry
  pub member : Memᴰ entry es
  pub is_row : entry.row ≡ row

pub tracked : (row : ℕ) (es : List Entry) → has row es ≡ true → Tracked row es
unfolding has
tracked row [] e = clash (sym e)
tracked row (x ∷ xs) e =
    split (eqb x.row row)
    (λ on. record { entry = x; member = Memᴰ.head refl; is_row = eqb-true x.row row on })
    (λ off.
    let t = tracked row xs (rw off at e) in
    record { entry = t.entry; member = Memᴰ.tail t.member; is_row = t.is_row })

-- a tracked row is still tracked when another is dropped
pub has_kept : (row v : ℕ) (es : List Entry) → (v ≡ row → ⊥) → has row es ≡ true → has row (without v es) ≡ true
unfolding has without
has_kept row v [] h e = e
has_kept row v (x ∷ xs) h e =
    split (eqb x.row v)
    (λ this.
    let off : eqb x.row row ≡ false = ne_eqb x.row row (λ q. h (sym (eqb-true x.row v this) ∙ q)) in
    rw this (rw off at e))
    (λ another.
    rw another
    (split (eqb x.row row) (λ on. rw on) (λ off. rw off (has_kept row v xs h (rw off at e)))))

pub has_back : (row v : ℕ) (es : List Entry) → has row (without v es) ≡ true → has row es ≡ true
has_back row v es e = split (has row es) (λ on. on) (λ off. clash (sym e ∙ has_without row v es off))

-- a row that is not tracked is not tracked after another is dropped
pub untracked_without_count : (row count : ℕ) (es : List Entry) → has row es ≡ false → has row (without_count count es) ≡ false
unfolding has without_count
untracked_without_count row count [] e = e
untracked_without_count row count (x ∷ xs) e =
    let parts = or_neither (eqb x.row row) (has row xs) e in
    split (eqb x.count count)
    (λ t. rw t parts.1)
    (λ t. rw (t, parts.0) (untracked_without_count row count xs parts.1))

-- a row that is not tracked is not dropped
pub without_untracked : (row : ℕ) (es : List Entry) → has row es ≡ false → without row es ≡ es
unfolding has without
without_untracked row [] e = refl
without_untracked row (x ∷ xs) e =
    let parts = or_neither (eqb x.row row) (has row xs) e in
    rw parts.0 (ap (λ (ys : List Entry). x ∷ ys) (without_untracked row xs parts.1))
