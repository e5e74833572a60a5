-- A text cut in two: behind the end of a line, or within a line, of which the bytes that are kept are enough.
use mathlib.Core.Path.{◌≡◌, refl, ap, sym, ◌∙◌}
use mathlib.Core.Bool.{true, false}
use mathlib.Core.Logic.{⊎_elim}
use mathlib.Core.List.{List, [], ◌∷◌, ◌++◌, map-append}
use Prim.Native.Nat.{ℕ, zero, suc, ◌+◌, ◌≤◌}
use native.Mathlib.Omega.{arith}
use lib.Dec.{eqb}
use lib.ListN.{length, take, drop, length-append}
use lib.Seq.{take_all, length-take-le, drop-append-add}
use Rattle.device.specs.Refusal.{refused}
use Rattle.laws.proofs.Cases.{split, le_or_lt, clash}
use Rattle.trace.specs.Lines.{ended, extent}
use Rattle.trace.specs.Reading.{Reading, reading, reading_by}
use Rattle.trace.specs.Texts.{in_front, lines, whole, read, outcomes, most_kept}
use Rattle.trace.proofs.Reading.InParts.{reading_append_unended}
use Rattle.trace.proofs.Texts.FirstLine.{lines_front, outcomes_front}

-- behind the end of a line
lines_cut : (a b : List ℕ) → whole a ≡ true → lines (a ++ b) ≡ lines a ++ lines b
unfolding lines in_front whole
lines_cut [] b h = refl
lines_cut (x ∷ []) b h = rw h
lines_cut (x ∷ y ∷ ys) b h =
    split (eqb x 10)
    (λ e. rw (e, lines_cut (y ∷ ys) b h))
    (λ e. rw (e, lines_cut (y ∷ ys) b h, lines_front y ys))

pub outcomes_cut : (a b : List ℕ) → whole a ≡ true → outcomes (a ++ b) ≡ outcomes a ++ outcomes b
unfolding outcomes
outcomes_cut a b h = rw (lines_cut a b h, map-append)

-- a line that is to go on, as long as what is kept: refused, whatever it is and wherever it ends
refused_on : (u b : List ℕ) → ended u ≡ false → most_kept ≤ length u → outcomes (u ++ b) ≡ refused 11 ∷ outcomes (drop (extent b) b)
unfolding read reading reading_by
refused_on u b e h =
    let says = reading_append_unended u b 0 (omega arith) e in
    let far : extent (u ++ b) ≡ length u + extent b = omega (arith, ap (λ (r : Reading). r.place) says) in
    outcomes_front (u ++ b) (rw length-append (omega arith)) ∙
    rw (ap (λ (r : Reading). r.outcome) says, far, drop-append-add)

pub ended_less : (n : ℕ) (u : List ℕ) → ended u ≡ false → ended (take n u) ≡ false
unfolding ended
ended_less zero u h = refl
ended_less (suc n) [] h = refl
ended_less (suc n) (b ∷ u) h = split (eqb b 10) (λ e. clash (rw e at h)) (λ e. rw e (ended_less n u (rw e at h)))

pub outcomes_kept : (u b : List ℕ) → ended u ≡ false → outcomes (u ++ b) ≡ outcomes (take most_kept u ++ b)
outcomes_kept u b e =
    ⊎_elim
    (λ h.
    refused_on u b e h ∙ sym (refused_on (take most_kept u) b (ended_less most_kept u e) (omega (arith, length-take-le most_kept u h))))
    (λ h. rw (take_all most_kept u (omega arith)))
    (le_or_lt most_kept (length u))
