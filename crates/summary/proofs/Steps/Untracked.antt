-- A row that is not tracked: it stays so while others are disturbed, and dropping it changes nothing.
use mathlib.Core.Path.{◌≡◌, refl}
use mathlib.Core.Bool.{false}
use mathlib.Core.List.{List, [], ◌∷◌, Memᴰ}
use Prim.Native.Nat.{ℕ}
use borrow.Author.Tests.{ne_eqb}
use lib.Dec.{eqb, ltb}
use Rattle.laws.proofs.Cases.{split, or_neither}
use Rattle.summary.specs.Entries.{Entry, has, raised, entered, without_all}
use Rattle.summary.specs.Steps.{Summary, disturb, disturb_each, drop_rows}
use Rattle.summary.specs.Rules.{Ordered}
use Rattle.summary.proofs.Entries.Tracked.{has_dropped, untracked_without_count, without_untracked}
use Rattle.summary.proofs.Steps.Disturb.{by_cases}

-- rows of a list are all other ones
abbrev pub Others : ℕ → List ℕ → Type 0
Others row rows = (v : ℕ) → Memᴰ v rows → v ≡ row → ⊥

untracked_raised : (row v : ℕ) (es : List Entry) → has row es ≡ false → has row (raised v es) ≡ false
unfolding has raised
untracked_raised row v [] e = e
untracked_raised row v (x ∷ xs) e =
    let parts = or_neither (eqb x.row row) (has row xs) e in
    split (eqb x.row v) (λ on. rw (on, parts.0) parts.1) (λ off. rw (off, parts.0) (untracked_raised row v xs parts.1))

untracked_entered : (row v count : ℕ) (es : List Entry) → (v ≡ row → ⊥) → has row es ≡ false → has row (entered v count es) ≡ false
unfolding has entered
untracked_entered row v count [] other e = rw (ne_eqb v row other)
untracked_entered row v count (x ∷ xs) other e =
    let parts = or_neither (eqb x.row row) (has row xs) e in
    split (ltb v x.row)
    (λ before. rw (before, ne_eqb v row other, parts.0) parts.1)
    (λ behind. rw (behind, parts.0) (untracked_entered row v count xs other parts.1))

untracked_disturb : (counters row v : ℕ) (s : Summary) → (v ≡ row → ⊥) → has row s.entries ≡ false → has row (disturb counters v s).entries ≡ false
untracked_disturb counters row v s other e =
    by_cases (λ made. has row made.entries ≡ false) counters v s
    (λ tracked. untracked_raised row v s.entries e)
    (λ untracked free. untracked_entered row v _ s.entries other e)
    (λ untracked full low. untracked_entered row v _ _ other (untracked_without_count row s.spillover s.entries e))
    (λ untracked full high. e)

pub untracked_each : (counters row : ℕ) (rows : List ℕ) (s : Summary) → Others row rows → has row s.entries ≡ false → has row (disturb_each counters rows s).entries ≡ false
unfolding disturb_each
untracked_each counters row [] s others e = e
untracked_each counters row (v ∷ vs) s others e =
    untracked_each counters row vs (disturb counters v s) (λ w m. others w (Memᴰ.tail m))
    (untracked_disturb counters row v s (others v (Memᴰ.head refl)) e)

-- a row that was dropped
pub untracked_dropped : (row : ℕ) (s : Summary) {high low : ℕ} → Ordered high low s.entries → has row (drop_rows (row ∷ []) s).entries ≡ false
unfolding drop_rows without_all
untracked_dropped row s o = has_dropped row o

pub drop_untracked : (row : ℕ) (s : Summary) → has row s.entries ≡ false → drop_rows (row ∷ []) s ≡ s
unfolding drop_rows without_all
drop_untracked row s e = rw (without_untracked row s.entries e)
