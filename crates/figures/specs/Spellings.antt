-- Worked figures of the trace writer: what follows by hand from document 02, and what the definitions give.
use Rattle.std.specs.Prelude.{ℕ, List, [], ◌∷◌, ◌++◌, length, replicate}
use Rattle.std.proofs.Math.Option.{none}
use Rattle.device.specs.Refusal.{Outcome, accepted, refused}
use Rattle.trace.specs.declared.Record.{Record}
use Rattle.trace.specs.declared.Record.TheVariants.{Set, Activate, Refresh, Blank}
use Rattle.trace.specs.Texts.{outcomes}
use Rattle.canonical.specs.Spelling.{spelling}
use Rattle.canonical.specs.Writing.{first_fault, before_fault, writing}
use Rattle.bound.specs.Answers.{settings_of}
use Rattle.figures.specs.Table.{Figure, numbers, shown}

-- a trace with leading zeros, a blank line, and at last a row that is not below N, a line to a row
unfoldable pub respelled_input : List ℕ
respelled_input =
    83 ∷ 48 ∷ 48 ∷ 48 ∷ 48 ∷ 49 ∷ 54 ∷ 32 ∷ 32 ∷ 32 ∷ 32 ∷ 32 ∷ 50 ∷ 32 ∷ 32 ∷ 32 ∷ 32 ∷ 48 ∷ 49 ∷ 32 ∷ 32 ∷ 32 ∷ 32 ∷ 32 ∷ 50 ∷ 32 ∷ 32 ∷ 32 ∷ 32 ∷ 32 ∷ 52 ∷ 32 ∷ 32 ∷ 32 ∷ 32 ∷ 32 ∷ 52 ∷ 32 ∷ 32 ∷ 32 ∷ 32 ∷ 32 ∷ 52 ∷ 10 ∷
    10 ∷
    65 ∷ 48 ∷ 48 ∷ 48 ∷ 48 ∷ 48 ∷ 53 ∷ 10 ∷
    65 ∷ 32 ∷ 32 ∷ 32 ∷ 32 ∷ 32 ∷ 53 ∷ 10 ∷
    82 ∷ 10 ∷
    65 ∷ 32 ∷ 32 ∷ 32 ∷ 32 ∷ 49 ∷ 54 ∷ 10 ∷ []

-- the spelling of its lines before that one
unfoldable pub respelled_output : List ℕ
respelled_output =
    83 ∷ 32 ∷ 32 ∷ 32 ∷ 32 ∷ 49 ∷ 54 ∷ 32 ∷ 32 ∷ 32 ∷ 32 ∷ 32 ∷ 50 ∷ 32 ∷ 32 ∷ 32 ∷ 32 ∷ 32 ∷ 49 ∷ 32 ∷ 32 ∷ 32 ∷ 32 ∷ 32 ∷ 50 ∷ 32 ∷ 32 ∷ 32 ∷ 32 ∷ 32 ∷ 52 ∷ 32 ∷ 32 ∷ 32 ∷ 32 ∷ 32 ∷ 52 ∷ 32 ∷ 32 ∷ 32 ∷ 32 ∷ 32 ∷ 52 ∷ 10 ∷
    65 ∷ 32 ∷ 32 ∷ 32 ∷ 32 ∷ 32 ∷ 53 ∷ 10 ∷
    65 ∷ 32 ∷ 32 ∷ 32 ∷ 32 ∷ 32 ∷ 53 ∷ 10 ∷
    82 ∷ 10 ∷ []

-- answers of the reader: settings N 2 1 2 4 4 64, a row with a hold and with a hold of 1, an event, a blank line
unfoldable pub set : ℕ → Outcome Record
set n = accepted (Set (settings_of n 2 1 2 4 4 64))

unfoldable pub held : ℕ → ℕ → Outcome Record
held n hold = accepted (Activate n hold)

unfoldable pub row : ℕ → Outcome Record
row n = held n 1

unfoldable pub event : Outcome Record
event = accepted Refresh

unfoldable pub blank : Outcome Record
blank = accepted Blank

-- the line of the settings 16 2 1 2 4 4 64
unfoldable pub set_16 : List ℕ
set_16 =
    83 ∷ 32 ∷ 32 ∷ 32 ∷ 32 ∷ 49 ∷ 54 ∷ 32 ∷ 32 ∷ 32 ∷ 32 ∷ 32 ∷ 50 ∷ 32 ∷ 32 ∷ 32 ∷ 32 ∷ 32 ∷ 49 ∷ 32 ∷ 32 ∷ 32 ∷ 32 ∷ 32 ∷ 50 ∷ 32 ∷ 32 ∷ 32 ∷ 32 ∷ 32 ∷ 52 ∷ 32 ∷ 32 ∷ 32 ∷ 32 ∷ 32 ∷ 52 ∷ 32 ∷ 32 ∷ 32 ∷ 32 ∷ 54 ∷ 52 ∷ 10 ∷ []

-- what the writer left, as numbers: its answer and the text, of so many places that held 7
unfoldable pub writing_figure : List (Outcome Record) → ℕ → List ℕ → List ℕ → Figure
writing_figure os room answer text =
    let w = writing os (replicate room 7) in
    shown (answer ++ text) (numbers w.answer ++ w.text)

-- a text of so many places that keeps what it had
unfoldable pub refused_figure : List (Outcome Record) → ℕ → ℕ → Figure
refused_figure os room k = writing_figure os room (k ∷ []) (replicate room 7)

unfoldable pub spellings : List Figure
spellings =
    shown respelled_output (spelling (before_fault none (outcomes respelled_input))) ∷
    shown (9 ∷ 5 ∷ []) (first_fault none (outcomes respelled_input) ∷ length (before_fault none (outcomes respelled_input)) ∷ []) ∷
    writing_figure [] 0 (0 ∷ 0 ∷ []) [] ∷
    writing_figure (blank ∷ blank ∷ []) 0 (0 ∷ 0 ∷ []) [] ∷
    writing_figure (blank ∷ []) 2 (0 ∷ 0 ∷ []) (7 ∷ 7 ∷ []) ∷
    writing_figure (set 16 ∷ event ∷ blank ∷ []) 48 (0 ∷ 46 ∷ []) (set_16 ++ 82 ∷ 10 ∷ 7 ∷ 7 ∷ []) ∷
    writing_figure (set 16 ∷ row 15 ∷ []) 52 (0 ∷ 52 ∷ []) (set_16 ++ 65 ∷ 32 ∷ 32 ∷ 32 ∷ 32 ∷ 49 ∷ 53 ∷ 10 ∷ []) ∷
    refused_figure (set 16 ∷ row 15 ∷ []) 51 13 ∷
    refused_figure (set 16 ∷ row 16 ∷ []) 52 9 ∷
    refused_figure (set 16 ∷ row 16 ∷ []) 0 9 ∷
    refused_figure (set 32 ∷ row 16 ∷ set 16 ∷ row 16 ∷ []) 9 9 ∷
    refused_figure (row 5 ∷ set 16 ∷ []) 2 11 ∷
    refused_figure (event ∷ set 16 ∷ []) 2 11 ∷
    refused_figure (set 16 ∷ refused 11 ∷ row 16 ∷ []) 2 11 ∷
    refused_figure (set 16 ∷ row 16 ∷ refused 11 ∷ []) 2 9 ∷
    refused_figure (set 17 ∷ refused 11 ∷ []) 2 1 ∷
    refused_figure (set 272 ∷ []) 2 7 ∷ []
