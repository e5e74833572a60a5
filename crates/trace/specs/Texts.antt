-- A text line by line: its lines, and what the reader says of each; and a text that comes in parts.
use Rattle.std.specs.Prelude.{ℕ, Bool, true, cond, List, [], ◌∷◌, ◌++◌, map, eqb, take, drop}
use Rattle.device.specs.Refusal.{Outcome}
use Rattle.trace.specs.declared.Record.{Record}
use Rattle.trace.specs.Reading.{reading}

-- a byte in front of the first line
unfoldable pub in_front : ℕ → List (List ℕ) → List (List ℕ)
in_front b [] = (b ∷ []) ∷ []
in_front b (l ∷ ls) = (b ∷ l) ∷ ls

-- the lines of a text: each ends 'behind its byte 10', or 'at the text's end if it has none'
unfoldable pub lines : List ℕ → List (List ℕ)
lines [] = []
lines (b ∷ bs) = cond (eqb b 10) ((b ∷ []) ∷ lines bs) (in_front b (lines bs))

-- no line of the text goes on: it is empty, or its last byte is 10
unfoldable pub whole : List ℕ → Bool
whole [] = true
whole (b ∷ []) = eqb b 10
whole (b ∷ c ∷ cs) = whole (c ∷ cs)

-- what the reader says of a line
unfoldable pub read : List ℕ → Outcome Record
read l = (reading l 0).outcome

-- what it says of each line of a text
unfoldable pub outcomes : List ℕ → List (Outcome Record)
outcomes text = map read (lines text)

-- the parts of a text, one behind the other
unfoldable pub joined : List (List ℕ) → List ℕ
joined [] = []
joined (part ∷ parts) = part ++ joined parts

-- of a line that has not ended so many bytes are kept: no record is as long
abbrev pub most_kept : ℕ
most_kept = 128

-- of the bytes of a text from one place to another, the first
unfoldable pub kept_bytes : ℕ → ℕ → List ℕ → List ℕ
kept_bytes from to text = take most_kept (drop from (take to text))
