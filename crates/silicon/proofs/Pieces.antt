-- The lines of what a step prints, with more text behind it: a piece that ends in byte 10 and has no other is one line, an `R` line or none.
use mathlib.Core.Path.{◌≡◌, refl}
use mathlib.Core.Bool.{false}
use mathlib.Core.List.{List, [], ◌∷◌, ◌++◌}
use Prim.Native.Nat.{ℕ, zero, suc, ◌*◌, ◌%◌}
use native.Mathlib.Omega.{arith}
use borrow.Author.Tests.{ne_eqb}
use lib.ListN.{length}
use Rattle.device.specs.Refusal.{Outcome, accepted, refused}
use Rattle.device.specs.declared.Settings.{Settings}
use Rattle.state.specs.declared.Position.{Position}
use Rattle.tracker.specs.Calls.{SetUpCall}
use Rattle.bound.specs.Totals.{bound_of}
use Rattle.columns.specs.Numbers.{printed}
use Rattle.columns.specs.Output.{number_columns, refusal_line}
use Rattle.trace.specs.Lines.{ended}
use Rattle.trace.proofs.Lines.{ended_append}
use Rattle.trace.proofs.Unended.{ended_printed}
use Rattle.trace.proofs.Unended.{ended_number_columns}
use Rattle.trace.proofs.Texts.FirstLine.{lines_piece}
use Rattle.steps.specs.Output.{bound_line, refresh_line}
use Rattle.steps.specs.Steps.{refused_step, set_up_step, answered}
use Rattle.silicon.specs.EventLines.{is_event_line, event_lines_of, event_lines}

-- a text in front of others adds no `R` line
pub record Quiet (text : List ℕ) : Type 0 where
  pub passes : (rest : List ℕ) → event_lines (text ++ rest) ≡ event_lines rest

quiet_none : Quiet []
quiet_none = record { passes = λ rest. refl }

-- a line with another letter
quiet_piece : (b : ℕ) (bytes : List ℕ) → (b ≡ 10 → ⊥) → (b ≡ 82 → ⊥) → ended bytes ≡ false → Quiet (b ∷ (bytes ++ 10 ∷ []))
unfolding event_lines event_lines_of is_event_line ended
quiet_piece b bytes goes_on other h =
    let whole : ended (b ∷ bytes) ≡ false = rw (ne_eqb b 10 goes_on) h in
    record { passes = λ rest. rw (lines_piece (b ∷ bytes) rest whole, ne_eqb b 82 other) }

quiet_bound : (h : ℕ) → Quiet (bound_line h)
unfolding bound_line
quiet_bound h =
    quiet_piece 66 (printed 10 h ++ printed 10 (2 * h)) (λ e. omega arith) (λ e. omega arith)
    (ended_append (printed 10 h) (printed 10 (2 * h)) (ended_printed 10 h) (ended_printed 10 (2 * h)))

pub quiet_refusal : (number k : ℕ) → Quiet (refusal_line number k)
unfolding refusal_line
quiet_refusal number k =
    let line = number % 10000000000 in
    quiet_piece 88 (printed 10 line ++ printed 6 k) (λ e. omega arith) (λ e. omega arith)
    (ended_append (printed 10 line) (printed 6 k) (ended_printed 10 line) (ended_printed 6 k))

pub quiet_set_up : (number : ℕ) (s : Settings) (remap : List ℕ) (call : SetUpCall) (o : Outcome Position) → Quiet (set_up_step number s remap call o).prints
unfolding set_up_step refused_step
quiet_set_up number s remap call (accepted p) = quiet_bound (bound_of s)
quiet_set_up number s remap call (refused k) = quiet_refusal number k

pub quiet_answered : (number k : ℕ) → Quiet (answered number k [])
unfolding answered
quiet_answered number zero = quiet_none
quiet_answered number (suc k) = quiet_refusal number (suc k)

-- an event's line
pub event_in_front : (e : ℕ) (rows rest : List ℕ) → event_lines (refresh_line e rows ++ rest) ≡ refresh_line e rows ∷ event_lines rest
unfolding refresh_line event_lines event_lines_of is_event_line ended
event_in_front e rows rest =
    let counted = printed 6 e ++ printed 6 (length rows) in
    let bytes = counted ++ number_columns rows in
    let whole : ended (82 ∷ bytes) ≡ false =
    ended_append counted (number_columns rows) (ended_append (printed 6 e) (printed 6 (length rows)) (ended_printed 6 e) (ended_printed 6 (length rows))) (ended_number_columns rows) in
    rw (lines_piece (82 ∷ bytes) rest whole)
