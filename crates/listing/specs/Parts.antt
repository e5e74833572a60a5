-- A text that comes in parts: what a program that reads it may do with the bytes at hand, and what it has printed in the end.
use Rattle.std.specs.Prelude.{ℕ, ◌≡◌, true, false, List, [], ◌∷◌, ◌++◌, take}
use Rattle.trace.specs.Lines.{ended}
use Rattle.steps.specs.Steps.{Progress}
use Rattle.trace.specs.Texts.{whole, most_kept}
use Rattle.listing.specs.Texts.{listing, after}
use Rattle.steps.specs.Memory.{Memory, Represents}

-- from where the listing is, with these bytes at hand and these parts still to come, all that is printed
pub data Printed : Progress → List ℕ → List (List ℕ) → List ℕ → Type 0 where
  -- the next part comes in behind the bytes at hand
  comes : {g : Progress} {text : List ℕ} (part : List ℕ) {parts : List (List ℕ)} {out : List ℕ} → Printed g (text ++ part) parts out → Printed g text (part ∷ parts) out
  -- whole lines at the front are listed
  lists : {g : Progress} (a text : List ℕ) {parts : List (List ℕ)} {out : List ℕ} → whole a ≡ true → Printed (after g a) text parts out → Printed g (a ++ text) parts (listing g a ++ out)
  -- of a line that has not ended, the first 128 bytes are kept
  keeps : {g : Progress} (text : List ℕ) {parts : List (List ℕ)} {out : List ℕ} → ended text ≡ false → Printed g (take most_kept text) parts out → Printed g text parts out
  -- at the end of the input a line that has not ended, if any byte is left, is listed as it is
  ends : {g : Progress} (text : List ℕ) → ended text ≡ false → Printed g text [] (listing g text)

-- moves that begin where the memory says that the listing is: they print some bytes first, and leave other memory and other bytes at hand
pub record Moves (g : Progress) (text printed : List ℕ) (m : Memory) (left : List ℕ) : Type 0 where
  pub next : Progress
  pub represents : Represents m next
  pub moves : (parts : List (List ℕ)) (out : List ℕ) → Printed next left parts out → Printed g text parts (printed ++ out)
