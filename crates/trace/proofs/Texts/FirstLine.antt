-- The first line of a text, as the reader reads it, and the lines behind it.
use mathlib.Core.Path.{◌≡◌, refl, ap, sym, ◌∙◌}
use mathlib.Core.Bool.{true, false}
use mathlib.Core.List.{List, [], ◌∷◌, ◌++◌}
use Prim.Native.Nat.{ℕ, suc, ◌≤◌, ◌<◌}
use native.Mathlib.Omega.{arith}
use lib.Dec.{eqb}
use lib.ListN.{length, take, drop, take-append-drop, drop_of_length-le, length-drop}
use lib.Seq.{take_all, drop-drop}
use Rattle.laws.proofs.Cases.{split, clash}
use Rattle.trace.specs.Lines.{ended, extent}
use Rattle.device.specs.Refusal.{refused}
use Rattle.trace.specs.Reading.{Reading, or_refused, reading_by, reading}
use Rattle.trace.proofs.Reading.InParts.{reading_append_ended}
use Rattle.trace.specs.Texts.{in_front, lines, read, outcomes}

-- the first line goes as far as the reader goes
pub lines_front : (b : ℕ) (bs : List ℕ) → lines (b ∷ bs) ≡ take (extent (b ∷ bs)) (b ∷ bs) ∷ lines (drop (extent (b ∷ bs)) (b ∷ bs))
unfolding lines in_front extent
lines_front b [] = split (eqb b 10) (λ e. rw e) (λ e. rw e)
lines_front b (c ∷ cs) = split (eqb b 10) (λ e. rw e) (λ e. rw (e, lines_front c cs))

-- bytes without byte 10, then a byte 10: the first line
pub lines_piece : (bytes rest : List ℕ) → ended bytes ≡ false → lines ((bytes ++ 10 ∷ []) ++ rest) ≡ (bytes ++ 10 ∷ []) ∷ lines rest
unfolding lines in_front ended
lines_piece [] rest h = refl
lines_piece (b ∷ bytes) rest h =
    split (eqb b 10)
    (λ e. clash (rw e at h))
    (λ e. rw (e, lines_piece bytes rest (rw e at h)))

extent_most : (text : List ℕ) → ended text ≡ false → extent text ≡ length text
unfolding extent ended
extent_most [] h = refl
extent_most (b ∷ text) h = split (eqb b 10) (λ e. clash (rw e at h)) (λ e. rw e (ap suc (extent_most text (rw e at h))))

pub extent_within : (text : List ℕ) → extent text ≤ length text
unfolding extent
extent_within [] = omega arith
extent_within (b ∷ text) = split (eqb b 10) (λ e. rw e (omega arith)) (λ e. rw e (omega (arith, extent_within text)))

ended_front : (text : List ℕ) → ended text ≡ true → ended (take (extent text) text) ≡ true
unfolding extent ended
ended_front [] h = clash (sym h)
ended_front (b ∷ text) h =
    split (eqb b 10) (λ e. rw (e, e)) (λ e. rw (e, e) (ended_front text (rw e at h)))

-- the first line alone has ended where it has in the text
pub ended_first : (text : List ℕ) → ended (take (extent text) text) ≡ ended text
ended_first text =
    split (ended text)
    (λ e. ended_front text e ∙ sym e)
    (λ e. rw (take_all (extent text) text (omega (arith, extent_most text e))))

-- the first line alone reads as it does in the text
pub read_front : (text : List ℕ) → read (take (extent text) text) ≡ read text
unfolding read
read_front text =
    let front = take (extent text) text in
    let rest = drop (extent text) text in
    split (ended text)
    (λ e.
    sym (ap (λ (r : Reading). r.outcome) (reading_append_ended front rest 0 (ended_front text e))) ∙ rw take-append-drop)
    (λ e. rw (take_all (extent text) text (omega (arith, extent_most text e))))

-- what the reader says at the front, then what it says behind that line
pub outcomes_front : (text : List ℕ) → 0 < length text → outcomes text ≡ read text ∷ outcomes (drop (extent text) text)
unfolding outcomes
outcomes_front [] h = absurd (omega arith)
outcomes_front (b ∷ bs) h = rw (lines_front b bs, read_front (b ∷ bs))

-- of no bytes nothing is said, and bytes without byte 10 are one refused line
pub outcomes_none : outcomes [] ≡ []
unfolding outcomes lines
outcomes_none = refl

pub outcomes_unended : (b : ℕ) (text : List ℕ) → ended (b ∷ text) ≡ false → outcomes (b ∷ text) ≡ refused 11 ∷ []
unfolding read reading reading_by or_refused
outcomes_unended b text e =
    let rest : drop (extent (b ∷ text)) (b ∷ text) ≡ [] = drop_of_length-le (b ∷ text) {i = extent (b ∷ text)} (omega (arith, extent_most (b ∷ text) e)) in
    rw (outcomes_front (b ∷ text) (omega arith), rest, outcomes_none, e)

-- the same from a place on
pub outcomes_turn : (text : List ℕ) (place : ℕ) → place < length text
    → outcomes (drop place text) ≡ (reading text place).outcome ∷ outcomes (drop (reading text place).place text)
unfolding read reading reading_by
outcomes_turn text place h =
    let rest = drop place text in
    outcomes_front rest (omega (arith, length-drop place text)) ∙ rw (drop-drop (extent rest) place text)
