-- `row_told`: an activation line of one unit, by its letter, its field and its byte 10; by the tests that its row is told by.
use mathlib.Core.Path.{◌≡◌, sym, ap, ◌∙◌}
use mathlib.Core.Bool.{Bool, true, ◌&&◌}
use mathlib.Core.List.{List}
use mathlib.Core.Option.{some, bind}
use Prim.Native.Nat.{ℕ, ◌+◌, ◌-◌, ◌≤◌}
use native.Mathlib.Omega.{arith}
use borrow.Author.Tests.{eqb-true, leb-true}
use lib.Dec.{eqb, leb}
use lib.ListN.{length, get_or, drop, length-drop}
use lib.Seq.{get_or-drop}
use Rattle.laws.proofs.Cases.{and_both, cond_test, cond_some}
use Rattle.device.specs.Refusal.{accepted}
use Rattle.trace.specs.Bytes.{letter_A}
use Rattle.trace.specs.Lines.{ended}
use Rattle.columns.specs.Numbers.{field}
use Rattle.trace.specs.declared.Record.TheVariants.{Activate}
use Rattle.trace.specs.Reading.{Reading, reading}
use Rattle.trace.specs.Answers.{row_told}
use Rattle.trace.proofs.InnerContracts.{ends_after_true}
use Rattle.trace.proofs.Records.{activation_form, activation_take}
use Rattle.trace.proofs.Reading.OneForm.{reading_by_accepted}
use Rattle.trace.proofs.Reading.ByLetter.{reading_activation}
use Rattle.trace.proofs.Texts.NextLine.{ends_with}

-- an activation line of one unit with that row stands at the place, whole
pub record Activates (text : List ℕ) (place row : ℕ) : Type 0 where
  pub reads : reading text place ≡ record { outcome = accepted (Activate row 1); place = place + 8 }
  pub inside : place + 8 ≤ length text
  pub ends : ended (drop place text) ≡ true

module _ (text : List ℕ) (place row : ℕ) (l : place + 8 ≤ length text) (letter : get_or text place 0 ≡ letter_A) (last : get_or text (place + 7) 0 ≡ 10) (number : field 0 (drop (place + 1) text) ≡ some row) where
  reads : reading text place ≡ record { outcome = accepted (Activate row 1); place = place + 8 }
  unfolding bind
  reads =
      let long : length (drop (place + 1) text) ≡ length text - (place + 1) = length-drop (place + 1) text in
      let at : place + 1 + 6 ≡ place + 7 = omega arith in
      let byte : get_or (drop (place + 1) text) 6 0 ≡ 10 = get_or-drop (place + 1) text 6 0 ∙ rw at last in
      let next : place + 1 + 7 ≡ place + 8 = omega arith in
      reading_activation text place (omega arith) letter ∙
      rw next at (reading_by_accepted activation_form (drop (place + 1) text) (place + 1) (Activate row 1)
      (ends_after_true 6 (drop (place + 1) text) (omega arith) byte)
      (activation_take (drop (place + 1) text) (omega arith) ∙ rw number))

  activates_row : Activates text place row
  activates_row =
      let behind : place + 8 - 1 ≡ place + 7 = omega arith in
      record {
        reads = reads;
        inside = l;
        ends = ends_with text place (place + 8) (sym (ap (λ (r : Reading). r.place) reads)) (omega arith) (rw behind last);
      }

-- a row that is told
pub activates_told : (text : List ℕ) (place row : ℕ) → some row ≡ row_told text place → Activates text place row
unfolding row_told field
activates_told text place row told =
    let first : Bool = leb (place + 8) (length text) in
    let second : Bool = eqb (get_or text place 0) letter_A in
    let third : Bool = eqb (get_or text (place + 7) 0) 10 in
    let tests = and_both (first && second) third (cond_test (first && second && third) (field (place + 1) text) row (sym told)) in
    let front = and_both first second tests.0 in
    activates_row text place row (leb-true (place + 8) (length text) front.0) (eqb-true (get_or text place 0) letter_A front.1) (eqb-true (get_or text (place + 7) 0) 10 tests.1)
    (cond_some (first && second && third) (field (place + 1) text) row (sym told))
