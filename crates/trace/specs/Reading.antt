-- 'The reader': one line's record or refusal 11, and the place behind the line.
use Rattle.std.specs.Prelude.{cond, ℕ, ◌+◌, min, List, ◌≡◌, drop, length}
use Rattle.std.proofs.Math.Option.{Option, none, some}
use Rattle.std.specs.Borrow.{Bor}
use Rattle.device.specs.Refusal.{Outcome, accepted, refused, outcome as outcome_of}
use Rattle.trace.specs.Lines.{line, ended, extent}
use Rattle.trace.specs.Records.{record_of}
use Rattle.trace.specs.declared.Record.{Record}
use Rattle.trace.specs.declared.Read.{Read}

-- what the reader answers: a record or a refusal, and the place behind the line
pub record Reading : Type 0 where
  pub outcome : Outcome Record
  pub place : ℕ

-- what an answer of the code says
unfoldable pub said : Read → Reading
said answer = record { outcome = outcome_of answer.outcome; place = answer.place }

-- a record, or refusal 11: 'a trace line of another form'
unfoldable pub or_refused : Option Record → Outcome Record
or_refused none = refused 11
or_refused (some r) = accepted r

-- the line at the front of a text that begins at a place, by what its bytes say; 11 too for 'a last line without byte 10'
unfoldable pub reading_by : (List ℕ → Option Record) → List ℕ → ℕ → Reading
reading_by says text place =
    record { outcome = or_refused (cond (ended text) (says (line text)) none); place = place + extent text }

-- 'It reads one line': the one at a place of a text. At or behind the text's end no bytes are left: 11, and that place back
unfoldable pub reading : List ℕ → ℕ → Reading
reading text place = reading_by record_of (drop place text) place

-- 'handed on as part of the caller's bytes': the bytes from a place on, at their own address in the caller's text;
-- none, and its end, where the place is behind it
pub record HandedOn (text : Bor (List ℕ)) (place : ℕ) (rest : Bor (List ℕ)) : Type 0 where
  pub bytes : rest.now ≡ drop place text.now
  pub address : rest.ref_ptr ≡ (text.ref_ptr.0, text.ref_ptr.1 + min place (length text.now))
