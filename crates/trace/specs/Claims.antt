-- What is claimed of the reader, each proved in proofs/Claims.antt under the same name; and what claims about its answers ask of them.
use Rattle.std.specs.Prelude.{ℕ, ◌≤◌, ◌<◌, ◌≡◌, length, drop}
use mathlib.Core.List.{List, [], ◌∷◌, Memᴰ}
use Rattle.std.proofs.Math.Option.{some}
use Rattle.device.specs.declared.Settings.{Settings}
use Rattle.device.specs.Refusal.{Outcome, accepted}
use Rattle.device.specs.Claims.{Alike}
use Rattle.columns.specs.Numbers.{field, fields}
use Rattle.trace.specs.declared.Record.{Record}
use Rattle.trace.specs.declared.Record.TheVariants.{Set}
use Rattle.trace.specs.Bytes.{letter_A, letter_H}
use Rattle.trace.specs.Records.{record_of}
use Rattle.trace.specs.Reading.{reading}
use Rattle.trace.specs.Texts.{outcomes}

-- 'read line by line': what the reader says at a place, then what it says from the place behind that line on, until no byte is left
unfoldable pub ReadInTurn : Type 0
ReadInTurn =
    (text : List ℕ) (place : ℕ) →
    (place < length text → outcomes (drop place text) ≡ (reading text place).outcome ∷ outcomes (drop (reading text place).place text)) ×
    (length text ≤ place → outcomes (drop place text) ≡ [])

-- '`A` and a hold of 1 are one record', however row and hold stand in their columns
unfoldable pub OneRecord : Type 0
OneRecord =
    (row : ℕ) (one held : List ℕ) → length one ≡ 6 → field 0 one ≡ some row → length held ≡ 12 → fields 2 held ≡ some (row ∷ 1 ∷ []) →
    record_of (letter_A ∷ one) ≡ record_of (letter_H ∷ held)

-- every settings record among the answers has an N that is judged alike where N may be up to another most
abbrev pub AllAlike : ℕ → List (Outcome Record) → Type 0
AllAlike most os = (s : Settings) → Memᴰ (accepted (Set s)) os → Alike most s
