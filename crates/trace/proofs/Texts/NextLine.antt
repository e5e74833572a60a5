-- Lines taken from the front of a text, one after another: what is taken stays whole lines, and the reader says one answer more of it.
use mathlib.Core.Path.{◌≡◌, refl, ap, sym, ◌∙◌}
use mathlib.Core.Bool.{true, false}
use mathlib.Core.List.{List, [], ◌∷◌, ◌++◌}
use Prim.Native.Nat.{ℕ, suc, ◌+◌, ◌-◌, ◌≤◌, ◌<◌}
use native.Mathlib.Omega.{arith}
use borrow.Author.Tests.{eq-eqb, ne_eqb}
use lib.Dec.{eqb}
use lib.ListN.{length, get_or, take, drop, length-drop, length-take}
use lib.Seq.{take-add, get_or-drop}
use Rattle.device.specs.Refusal.{Outcome}
use Rattle.laws.proofs.Cases.{split, clash}
use Rattle.trace.specs.declared.Record.{Record}
use Rattle.trace.specs.Lines.{ended, extent}
use Rattle.trace.specs.Reading.{reading, reading_by}
use Rattle.trace.specs.Texts.{in_front, lines, whole, read, outcomes}
use Rattle.trace.proofs.Texts.FirstLine.{extent_within, read_front}
use Rattle.trace.proofs.Texts.Cuts.{outcomes_cut}

extent_some : (text : List ℕ) → 0 < length text → 0 < extent text
unfolding extent
extent_some [] h = h
extent_some (b ∷ text) h = split (eqb b 10) (λ e. rw e (omega arith)) (λ e. rw e (omega arith))

-- the place behind a line is behind its first byte and within the text
pub place_within : (text : List ℕ) (at : ℕ) → at < length text → (at < (reading text at).place) × ((reading text at).place ≤ length text)
unfolding reading reading_by
place_within text at h =
    let left = length-drop at text in
    (omega (arith, extent_some (drop at text) (omega (arith, left))), omega (arith, extent_within (drop at text), left))

-- a line has ended where its last byte is 10
last_byte : (text : List ℕ) → 0 < length text → eqb (get_or text (extent text - 1) 0) 10 ≡ ended text
unfolding extent ended
last_byte [] h = absurd (omega arith)
last_byte (b ∷ []) h = split (eqb b 10) (λ e. rw (e, e)) (λ e. rw (e, e))
last_byte (b ∷ c ∷ text) h =
    split (eqb b 10)
    (λ e. rw (e, e))
    (λ e.
    let some = extent_some (c ∷ text) (omega arith) in
    let same : suc (extent (c ∷ text)) - 1 ≡ suc (extent (c ∷ text) - 1) = omega (arith, some) in
    rw e (ap (λ (n : ℕ). eqb (get_or (b ∷ c ∷ text) n 0) 10) same ∙ last_byte (c ∷ text) (omega arith)))

ended_at : (text : List ℕ) (at : ℕ) → at < length text → eqb (get_or text ((reading text at).place - 1) 0) 10 ≡ ended (drop at text)
unfolding reading reading_by
ended_at text at h =
    let left : 0 < length (drop at text) = omega (arith, length-drop at text) in
    let same : at + extent (drop at text) - 1 ≡ at + (extent (drop at text) - 1) = omega (arith, extent_some (drop at text) left) in
    ap (λ (n : ℕ). eqb (get_or text n 0) 10) same ∙
    ap (λ (b : ℕ). eqb b 10) (sym (get_or-drop at text (extent (drop at text) - 1) 0)) ∙ last_byte (drop at text) left

-- the byte in front of the place behind a line tells whether the line has ended
module _ (text : List ℕ) (at place : ℕ) (e : place ≡ (reading text at).place) (h : at < length text) where
  pub ends_with : get_or text (place - 1) 0 ≡ 10 → ended (drop at text) ≡ true
  ends_with q = sym (ended_at text at h) ∙ eq-eqb (get_or text ((reading text at).place - 1) 0) 10 (rw e at q)

  pub ends_without : (get_or text (place - 1) 0 ≡ 10 → ⊥) → ended (drop at text) ≡ false
  ends_without ne = sym (ended_at text at h) ∙ ne_eqb (get_or text ((reading text at).place - 1) 0) 10 (λ q. ne (rw e q))

whole_more : (b : ℕ) (text : List ℕ) → 0 < length text → whole (b ∷ text) ≡ whole text
unfolding whole
whole_more b [] h = absurd (omega arith)
whole_more b (c ∷ cs) h = refl

pub whole_append : (a b : List ℕ) → whole a ≡ true → whole b ≡ true → whole (a ++ b) ≡ true
unfolding whole
whole_append [] b h k = k
whole_append (x ∷ []) [] h k = h
whole_append (x ∷ []) (c ∷ cs) h k = k
whole_append (x ∷ y ∷ ys) b h k = whole_append (y ∷ ys) b h k

ended_some : (text : List ℕ) → ended text ≡ true → 0 < length text
unfolding ended
ended_some [] h = clash (sym h)
ended_some (b ∷ text) h = omega arith

-- a line that ended is whole
whole_front : (text : List ℕ) → ended text ≡ true → whole (take (extent text) text) ≡ true
unfolding extent ended whole
whole_front [] h = clash (sym h)
whole_front (b ∷ text) h =
    split (eqb b 10)
    (λ e. rw e e)
    (λ e.
    let k = rw e at h in
    rw e (whole_more b (take (extent text) text) (rw (length-take (extent text) text) (omega (arith, ended_some text k, extent_some text (ended_some text k)))) ∙ whole_front text k))

-- the first line alone is one line
line_alone : (text : List ℕ) → 0 < length text → lines (take (extent text) text) ≡ take (extent text) text ∷ []
unfolding lines in_front extent
line_alone [] h = absurd (omega arith)
line_alone (b ∷ []) h = split (eqb b 10) (λ e. rw (e, e)) (λ e. rw (e, e))
line_alone (b ∷ c ∷ text) h =
    split (eqb b 10) (λ e. rw (e, e)) (λ e. rw (e, e, line_alone (c ∷ text) (omega arith)))

outcome_alone : (text : List ℕ) → 0 < length text → outcomes (take (extent text) text) ≡ read text ∷ []
unfolding outcomes
outcome_alone text h = rw (line_alone text h, read_front text)

module _ (text : List ℕ) (at : ℕ) (h : at < length text) (w : whole (take at text) ≡ true) where
  left : 0 < length (drop at text)
  left = omega (arith, length-drop at text)

  one_more : take (reading text at).place text ≡ take at text ++ take (extent (drop at text)) (drop at text)
  unfolding reading reading_by
  one_more = take-add at (extent (drop at text)) text

  pub whole_on : ended (drop at text) ≡ true → whole (take (reading text at).place text) ≡ true
  whole_on e = rw one_more (whole_append (take at text) (take (extent (drop at text)) (drop at text)) w (whole_front (drop at text) e))

  pub outcomes_on : outcomes (take (reading text at).place text) ≡ outcomes (take at text) ++ ((reading text at).outcome ∷ [])
  unfolding read reading reading_by
  outcomes_on =
      ap outcomes one_more ∙ outcomes_cut (take at text) (take (extent (drop at text)) (drop at text)) w ∙
      ap (λ (os : List (Outcome Record)). outcomes (take at text) ++ os) (outcome_alone (drop at text) left)
