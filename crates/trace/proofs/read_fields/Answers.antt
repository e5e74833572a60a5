-- `trace::read_fields` meets its contract. The invariant: the numbers that are read, and those from field i on, are all of them.
use mathlib.Core.Path.{◌≡◌, sym, ap, ◌∙◌}
use mathlib.Core.List.{List, append-nil}
use mathlib.Core.Option.{none, some}
use Prim.Native.Nat.{ℕ, ◌+◌, ◌-◌, ◌*◌, ◌<◌}
use native.Mathlib.Nat.{add-zero}
use native.Mathlib.Numerals.{add-one}
use native.Mathlib.Omega.{arith}
use lib.ListN.{length, take, drop, set, length-set, length-replicate}
use lib.Seq.{drop-drop, take-suc-set, take_all}
use Rattle.columns.specs.Answers.{found}
use Rattle.columns.specs.Numbers.{field, fields}
use Rattle.columns.proofs.Numbers.Fields.{behind, behind_none_read, behind_one_more, fields_number, fields_other}
use Rattle.trace.proofs.read_fields.Invariants.{Filled}
use Rattle.trace.proofs.read_fields.Goals as goal

-- i of the numbers are read into the front of the array
filled_zero : (text : List ℕ) (at count : ℕ) (values : List ℕ) → length values ≡ count → Filled text at count values 0
filled_zero text at count values h =
    let all : count - 0 ≡ count = omega arith in
    record { same = rw (add-zero, all) (behind_none_read (fields count (drop at text))); long = h }

module _ {text : List ℕ} {at count : ℕ} {values : List ℕ} {i : ℕ} (f : Filled text at count values i) where
  filled_number : (n : ℕ) → i < count → some n ≡ field (at + 6 * i) text → Filled text at count (set values i n) (i + 1)
  unfolding field
  filled_number n h e =
      let next : at + 6 * (i + 1) ≡ at + 6 * i + 6 = omega arith in
      let left : count - (i + 1) ≡ count - i - 1 = omega arith in
      let in_range : i < length values = omega (arith, f.long) in
      let bytes = drop (at + 6 * i) text in
      let moved = ap (behind (take i values)) (fields_number (count - i) n bytes (omega arith) (sym e)) ∙ behind_one_more (take i values) n _ in
      record {
        same = rw (next, left, add-one i, take-suc-set values i n in_range, ← drop-drop) (sym moved ∙ f.same);
        long = length-set values i n ∙ f.long;
      }

  filled_other : i < count → none ≡ field (at + 6 * i) text → none ≡ fields count (drop at text)
  unfolding behind field
  filled_other h e =
      let none_left = fields_other (count - i) (drop (at + 6 * i) text) (omega arith) (sym e) in
      sym (ap (behind (take i values)) none_left) ∙ f.same

  filled_all : i ≡ count → some values ≡ fields count (drop at text)
  unfolding behind fields
  filled_all h =
      let gone : count - count ≡ 0 = omega arith in
      rw (h, gone, append-nil, take_all count values (omega (arith, f.long))) at f.same

pub loop-i-init : goal.loop-i-init
loop-i-init g c = filled_zero _ _ _ _ (length-replicate g.row.N 0)

pub returns-in_err-values : goal.returns-in_err-values
unfolding found
returns-in_err-values g c = rw c.from_residual.ensures (filled_other c.loop-i.invariant c.loop-i-test.true c.in_err-values.ensures)

pub loop-i-preserved : goal.loop-i-preserved
unfolding found
loop-i-preserved g c = filled_number c.loop-i.invariant c.in_ok-values.field-0 c.loop-i-test.true c.in_ok-values.ensures

pub returns : goal.returns
unfolding found
returns g c = filled_all c.loop-i.invariant (omega arith)
