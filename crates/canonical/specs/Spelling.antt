-- One spelling for each trace: 'fields padded with blanks, no leading zeros, no blank lines'.
use Rattle.std.specs.Prelude.{ℕ, Bool, true, false, cond, List, [], ◌∷◌, ◌++◌, eqb}
use Rattle.device.specs.declared.Settings.{Settings}
use Rattle.device.specs.Refusal.{Outcome, accepted, refused}
use Rattle.trace.specs.declared.Record.{Record}
use Rattle.trace.specs.declared.Record.TheVariants.{Set, Remap, Activate, Refresh, Blank}
use Rattle.trace.specs.Bytes.{letter_A, letter_F, letter_H, letter_R, letter_S}
use Rattle.trace.specs.Records.{sixteen_of}
use Rattle.columns.specs.Output.{number_columns}

-- 'the seven settings' as numbers, in their order
unfoldable pub settings_numbers : Settings → List ℕ
settings_numbers s =
    s.rows ∷ s.blast_diameter ∷ s.volume ∷ s.counters ∷ s.interval ∷ s.window ∷ s.block ∷ []

-- a line: its letter, its numbers in 6 columns each, byte 10
unfoldable pub spelled_line : ℕ → List ℕ → List ℕ
spelled_line letter numbers = letter ∷ number_columns numbers ++ 10 ∷ []

-- an activation: a hold of 1 'the writer spells `A`', every other `H`
unfoldable pub activation_spelling : ℕ → ℕ → List ℕ
activation_spelling row hold = cond (eqb hold 1) (spelled_line letter_A (row ∷ [])) (spelled_line letter_H (row ∷ hold ∷ []))

-- the spelling of a record; 'blank records are passed over'
unfoldable pub record_spelling : Record → List ℕ
record_spelling (Set s) = spelled_line letter_S (settings_numbers s)
record_spelling (Remap t) = spelled_line letter_F (sixteen_of t)
record_spelling (Activate row hold) = activation_spelling row hold
record_spelling Refresh = spelled_line letter_R []
record_spelling Blank = []

-- of a reader's answer; a refusal has none
unfoldable pub answer_spelling : Outcome Record → List ℕ
answer_spelling (accepted r) = record_spelling r
answer_spelling (refused k) = []

-- of a list of the reader's answers, one behind the other
unfoldable pub spelling : List (Outcome Record) → List ℕ
spelling [] = []
spelling (o ∷ os) = answer_spelling o ++ spelling os

-- 'blank'
unfoldable pub is_blank : Outcome Record → Bool
is_blank (accepted (Set s)) = false
is_blank (accepted (Remap t)) = false
is_blank (accepted (Activate row hold)) = false
is_blank (accepted Refresh) = false
is_blank (accepted Blank) = true
is_blank (refused k) = false

-- 'the records in the same order, blank lines aside'
unfoldable pub unblank : List (Outcome Record) → List (Outcome Record)
unblank [] = []
unblank (o ∷ os) = cond (is_blank o) (unblank os) (o ∷ unblank os)

-- 'without a refused line'
unfoldable pub unrefused : List (Outcome Record) → Bool
unrefused [] = true
unrefused (accepted r ∷ os) = unrefused os
unrefused (refused k ∷ os) = false
