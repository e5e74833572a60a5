-- The end of a trace: a last line that has not ended is refused with 11.
use mathlib.Core.Path.{◌≡◌, refl, sym, ◌∙◌}
use mathlib.Core.Bool.{false}
use mathlib.Core.Logic.{⊎_elim}
use mathlib.Core.List.{List, [], ◌∷◌, append-nil}
use Prim.Native.Nat.{ℕ, suc, ◌+◌, ◌%◌, ◌≤◌, ◌<◌}
use native.Mathlib.Omega.{arith}
use borrow.Author.Tests.{lt-ltb, le-ltb}
use lib.ListN.{length}
use Rattle.laws.proofs.Cases.{le_or_lt}
use Rattle.trace.specs.Lines.{ended}
use Rattle.columns.specs.Output.{refusal_line, Prints}
use Rattle.steps.specs.Steps.{Progress, refused_step, line_step_to, step_to}
use Rattle.listing.specs.Texts.{listed_to, listing_to, listing}
use Rattle.steps.specs.Memory.{Memory, Represents, next_number}
use Rattle.listing.specs.Chunks.{last_line}
use Rattle.columns.proofs.Output.{prints_nothing, counted_on, refusal_alike, length_refusal_line}
use Rattle.trace.proofs.Texts.FirstLine.{outcomes_none, outcomes_unended}

none_listed : (g : Progress) (text : List ℕ) → length text ≡ 0 → listing g text ≡ []
unfolding listing_to listed_to
none_listed g [] e = rw outcomes_none
none_listed g (b ∷ text) e = absurd (omega arith)

unended_listing : (g : Progress) (b : ℕ) (text : List ℕ) → ended (b ∷ text) ≡ false → listing g (b ∷ text) ≡ refusal_line (suc g.count) 11
unfolding listing_to listed_to step_to line_step_to refused_step
unended_listing g b text e = rw (outcomes_unended b text e, append-nil)

-- what the end of a trace prints, by what is left of it and by the room
pub last_line_none : (number : ℕ) (text : List ℕ) (room : ℕ) → length text ≡ 0 → last_line number text room ≡ []
unfolding last_line
last_line_none number [] room e = refl
last_line_none number (b ∷ text) room e = absurd (omega arith)

pub last_line_short : (number : ℕ) (text : List ℕ) (room : ℕ) → room < 18 → last_line number text room ≡ []
unfolding last_line
last_line_short number [] room h = refl
last_line_short number (b ∷ text) room h = rw (lt-ltb room 18 h)

pub last_line_some : (number : ℕ) (text : List ℕ) (room : ℕ) → 0 < length text → 18 ≤ room → last_line number text room ≡ refusal_line number 11
unfolding last_line
last_line_some number [] room some h = absurd (omega arith)
last_line_some number (b ∷ text) room some h = rw (le-ltb room 18 h)

-- the same of a buffer that it is printed into
module _ (number : ℕ) (text buffer : List ℕ) where
  pub prints_none : length text ≡ 0 → Prints buffer 0 (last_line number text (length buffer)) buffer 0
  prints_none e = rw (last_line_none number text (length buffer) e) (prints_nothing buffer 0 (omega arith))

  pub prints_short : length buffer < 18 → Prints buffer 0 (last_line number text (length buffer)) buffer 0
  prints_short h = rw (last_line_short number text (length buffer) h) (prints_nothing buffer 0 (omega arith))

-- and it is the listing of what is left
pub last_line_listing : (m : Memory) (g : Progress) (text : List ℕ) (room : ℕ) → Represents m g → ended text ≡ false → 18 ≤ room → last_line (next_number m.lines) text room ≡ listing g text
unfolding next_number
last_line_listing m g [] room r e h = last_line_none _ [] room refl ∙ sym (none_listed g [] refl)
last_line_listing m g (b ∷ bs) room r e h =
    last_line_some (m.lines % 10000000000 + 1) (b ∷ bs) room (omega arith) h ∙
    refusal_alike (m.lines % 10000000000 + 1) (suc g.count) (counted_on m.lines g.count r.lines) 11 ∙
    sym (unended_listing g b bs e)

-- it fits
pub length_last_line : (number : ℕ) (text : List ℕ) (room : ℕ) → length (last_line number text room) ≤ room
length_last_line number [] room = rw (last_line_none number [] room refl) (omega arith)
length_last_line number (b ∷ bs) room =
    ⊎_elim
    (λ h. rw (last_line_some number (b ∷ bs) room (omega arith) h) (omega (arith, length_refusal_line number 11)))
    (λ h. rw (last_line_short number (b ∷ bs) room h) (omega arith))
    (le_or_lt 18 room)
