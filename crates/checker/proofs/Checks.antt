-- How a check goes on: behind another part of the trace, and at both ends.
use mathlib.Core.Path.{◌≡◌, refl, sym, ◌∙◌, ap}
use mathlib.Core.Bool.{Bool, true, false}
use Rattle.std.specs.Prelude.{Ok, Err}
use mathlib.Core.List.{List, [], ◌++◌, append-nil}
use mathlib.Core.Option.{none, some}
use Prim.Native.Nat.{ℕ, suc, ◌+◌, ◌-◌, ◌≤◌}
use native.Mathlib.Omega.{arith}
use borrow.Author.Tests.{ltb-true, ltb-false}
use lib.Dec.{ltb}
use lib.ListN.{length, get_or, take, drop, length-drop, drop_of_length-le}
use lib.Seq.{drop-drop, drop-cons, length-take-le, take_all}
use Rattle.trace.specs.Lines.{ended}
use Rattle.columns.specs.Output.{Prints}
use Rattle.columns.proofs.Output.{take_printed}
use Rattle.steps.specs.declared.Place.{Place}
use Rattle.steps.specs.Steps.{start}
use Rattle.listing.specs.Texts.{listing}
use Rattle.steps.specs.Memory.{Memory, memory, start_place, next_number}
use Rattle.listing.specs.Chunks.{Going, last_line}
use Rattle.steps.proofs.Memory.Progress.{represents_start}
use Rattle.listing.proofs.Chunks.LastLine.{last_line_listing}
use Rattle.checker.specs.declared.Checking.{Checking}
use Rattle.checker.specs.Departure.{departing, departure}
use Rattle.checker.specs.Comparison.{compared}
use Rattle.checker.specs.InnerContracts.{Reaches, Onward}
use Rattle.checker.proofs.Comparison.{compared_on, compared_off, departing_surplus, departing_none, all_few, some_few}
use Rattle.checker.proofs.Cuts.{Cut}

-- what is required was compared, and nothing is required behind it
module _ (n : ℕ) (required given : List ℕ) (lines : ℕ) where
  alone : departing n required given ≡ departing n (required ++ []) given
  alone = ap (λ (text : List ℕ). departing n text given) (sym (append-nil required))

  whole_passes : compared n required given ≡ Ok lines → length required ≡ length given → departing n required given ≡ none
  whole_passes e long =
      alone ∙ compared_on n required [] given lines e ∙ rw (drop_of_length-le given {i = length required} (omega arith)) (departing_none lines)

  whole_surplus : compared n required given ≡ Ok lines → (length required ≡ length given → ⊥) → departing n required given ≡ some (suc lines)
  whole_surplus e long =
      let fits = (all_few n required given lines e).1 in
      alone ∙ compared_on n required [] given lines e ∙
      rw (drop-cons given (length required) 0 (omega arith)) (departing_surplus lines (get_or given (length required) 0) (drop (suc (length required)) given))

  whole_off : compared n required given ≡ Err lines → departing n required given ≡ some (suc lines)
  whole_off e = alone ∙ compared_off n required [] given lines e

-- behind another part of the trace
module _ {trace given : List ℕ} {m : Memory} {k : Checking} (r : Reaches trace given m k) {buffer : List ℕ} {q : Going} (c : Cut r.progress (drop k.taken trace) buffer q) where
  open_answer : departure trace given ≡ departing k.lines (take q.end q.buffer ++ listing c.next (drop (k.taken + q.taken) trace)) (drop k.passed given)
  open_answer = r.answer ∙ rw (c.lists, drop-drop q.taken k.taken trace)

  piece_long : length (take q.end q.buffer) ≡ q.end
  piece_long = length-take-le q.end q.buffer c.fits

  pub taken_within : k.taken + q.taken ≤ length trace
  taken_within = omega (arith, c.within, r.taken, length-drop k.taken trace)

  given_behind : drop (length (take q.end q.buffer)) (drop k.passed given) ≡ drop (k.passed + q.end) given
  given_behind = ap (λ (n : ℕ). drop n (drop k.passed given)) piece_long ∙ drop-drop q.end k.passed given

  module _ (lines : ℕ) where
    pub departs_within : Err lines ≡ compared k.lines (take q.end q.buffer) (drop k.passed given) → lines ≤ length given
    departs_within e = omega (arith, some_few k.lines (take q.end q.buffer) (drop k.passed given) lines (sym e), length-drop k.passed given, r.few, r.passed)

    pub part_departs : Err lines ≡ compared k.lines (take q.end q.buffer) (drop k.passed given) → departure trace given ≡ some (suc lines)
    part_departs e = open_answer ∙ compared_off k.lines (take q.end q.buffer) (listing c.next (drop (k.taken + q.taken) trace)) (drop k.passed given) lines (sym e)

    pub part_passes : (place : Place) (more : Bool) → Ok lines ≡ compared k.lines (take q.end q.buffer) (drop k.passed given) → Reaches trace given q.memory (record { place = place; taken = k.taken + q.taken; passed = k.passed + q.end; lines = lines; more = more })
    part_passes place more e =
        let few = all_few k.lines (take q.end q.buffer) (drop k.passed given) lines (sym e) in
        record {
          progress = c.next;
          represents = c.represents;
          taken = taken_within;
          passed = omega (arith, few.1, piece_long, length-drop k.passed given, r.passed);
          few = omega (arith, few.0, piece_long, r.few);
          answer =
              open_answer ∙ compared_on k.lines (take q.end q.buffer) (listing c.next (drop (k.taken + q.taken) trace)) (drop k.passed given) lines (sym e) ∙
              ap (λ (rest : List ℕ). departing lines (listing c.next (drop (k.taken + q.taken) trace)) rest) given_behind;
        }

    -- where the piece has no room for a line more, lines may be left
    pub passes_onward : (place : Place) (room : ℕ) → length buffer ≡ 4096 → 200 ≤ room → room ≤ 4096 → Onward trace k (record { place = place; taken = k.taken + q.taken; passed = k.passed + q.end; lines = lines; more = ltb (4096 - q.end) room })
    passes_onward place room long least most =
        record {
          more = λ on. let full = ltb-true (4096 - q.end) room on in omega (arith, full, c.spent);
          last = λ off.
              let left = ltb-false (4096 - q.end) room off in
              ap ended (sym (drop-drop q.taken k.taken trace)) ∙ c.roomy (omega (arith, left, long));
        }

-- the rest of a text, as a part of it is read
pub rest_all : (text : List ℕ) (from : ℕ) → take (length text - from) (drop from text) ≡ drop from text
rest_all text from = take_all (length text - from) (drop from text) (omega (arith, length-drop from text))

-- the last piece that is required, as it was printed and compared with what is given from a place on
module _ (n : ℕ) {before required piece : List ℕ} {end : ℕ} (p : Prints before 0 required piece end) (given : List ℕ) (passed lines : ℕ) where
  last_compared : compared n (take end piece) (drop passed given) ≡ compared n required (drop passed given)
  last_compared = ap (λ (text : List ℕ). compared n text (drop passed given)) (take_printed p)

  pub last_most : Err lines ≡ compared n (take end piece) (drop passed given) → n ≤ passed → passed ≤ length given → lines ≤ length given
  last_most e fewer within = omega (arith, some_few n required (drop passed given) lines (sym (e ∙ last_compared)), length-drop passed given)

  pub last_off : Err lines ≡ compared n (take end piece) (drop passed given) → some (suc lines) ≡ departing n required (drop passed given)
  last_off e = sym (whole_off n required (drop passed given) lines (sym (e ∙ last_compared)))

  module _ (e : Ok lines ≡ compared n (take end piece) (drop passed given)) where
    few : (lines ≤ n + length required) × (length required ≤ length (drop passed given))
    few = all_few n required (drop passed given) lines (sym (e ∙ last_compared))

    pub last_lines : n ≤ passed → passed ≤ length given → lines ≤ length given
    last_lines fewer within = omega (arith, few, length-drop passed given)

    pub last_fits : end ≤ length given - passed
    last_fits = omega (arith, few.1, p.behind, length-drop passed given)

    pub last_surplus : (end ≡ length given - passed → ⊥) → some (suc lines) ≡ departing n required (drop passed given)
    last_surplus long =
        sym (whole_surplus n required (drop passed given) lines (sym (e ∙ last_compared)) (λ same. long (omega (arith, same, p.behind, length-drop passed given))))

    pub last_passes : end ≡ length given - passed → none ≡ departing n required (drop passed given)
    last_passes long =
        sym (whole_passes n required (drop passed given) lines (sym (e ∙ last_compared)) (omega (arith, long, p.behind, length-drop passed given)))

-- where a check begins, and how its answer is had from its end
pub reaches_start : (trace given counts : List ℕ) → Reaches trace given (memory start_place counts) (record { place = start_place; taken = 0; passed = 0; lines = 0; more = true })
unfolding departure
reaches_start trace given counts =
    record {
      progress = start;
      represents = represents_start counts;
      taken = omega arith;
      passed = omega arith;
      few = omega arith;
      answer = refl;
    }

pub reached_last : {trace given : List ℕ} {m : Memory} {k : Checking} (r : Reaches trace given m k) → ended (drop k.taken trace) ≡ false → departing k.lines (last_line (next_number m.lines) (drop k.taken trace) 18) (drop k.passed given) ≡ departure trace given
reached_last {trace} {given} {m} {k} r unended =
    sym (r.answer ∙ rw (← last_line_listing m r.progress (drop k.taken trace) 18 r.represents unended (omega arith)))
