-- The loop over a part of a text: what is left to do from where it stands is what was to be done from the start; one line further, and where it
-- stops.
use mathlib.Core.Path.{◌≡◌, refl, sym, ◌∙◌, ap}
use mathlib.Core.Bool.{true, false}
use mathlib.Core.Logic.{⊎_elim}
use mathlib.Core.List.{List, [], ◌∷◌}
use Prim.Native.Nat.{ℕ, ◌+◌, ◌≤◌, ◌<◌}
use native.Mathlib.Omega.{arith}
use borrow.Author.Tests.{le-leb, lt-leb}
use lib.ListN.{length, drop, length-drop, drop_of_length-le}
use Rattle.laws.proofs.Cases.{split, clash, le_or_lt}
use Rattle.trace.specs.Lines.{ended, extent}
use Rattle.trace.specs.Reading.{reading}
use Rattle.steps.specs.declared.Place.{Place}
use Rattle.trace.specs.Texts.{lines}
use Rattle.steps.specs.Steps.{loaded_behind}
use Rattle.steps.specs.Memory.{Memory, memory, Ready, next_number, step_in, next_in}
use Rattle.steps.specs.InnerContracts.{Leaves}
use Rattle.listing.specs.InnerContracts.{RunsOn}
use Rattle.listing.specs.Chunks.{Going, gone, takes, going}
use Rattle.trace.proofs.Texts.FirstLine.{lines_front, ended_first}
use Rattle.trace.proofs.Texts.NextLine.{place_within}
use Rattle.columns.proofs.Output.{prints_long}
use Rattle.steps.proofs.Memory.Progress.{ready_next}
use Rattle.listing.proofs.Chunks.Lines.{none_ended, first, first_end, first_says, behind_first}

-- how far the loop's variables say that it has come
abbrev pub come : Place → List ℕ → List ℕ → ℕ → ℕ → Going
come place counts buffer taken end = record { memory = memory place counts; taken = taken; buffer = buffer; end = end }

pub record Turning (text : List ℕ) (q₀ q : Going) : Type 0 where
  pub same : going q₀ (lines text) ≡ going q (lines (drop q.taken text))
  pub ready : Ready q.memory
  pub within : q.taken ≤ length text
  pub fits : q.end ≤ length q.buffer
  pub long : length q.buffer ≡ length q₀.buffer

pub turning_start : {m : Memory} (text buffer : List ℕ) → Ready m → Turning text (record { memory = m; taken = 0; buffer = buffer; end = 0 }) (record { memory = m; taken = 0; buffer = buffer; end = 0 })
turning_start text buffer r = record { same = refl; ready = r; within = omega arith; fits = omega arith; long = refl }

lines_first : (text : List ℕ) → 0 < length text → lines text ≡ first text ∷ lines (drop (extent text) text)
lines_first [] h = absurd (omega arith)
lines_first (b ∷ bs) h = lines_front b bs

pub ended_inside : (text : List ℕ) (at : ℕ) → ended (drop at text) ≡ true → at < length text
ended_inside text at e =
    ⊎_elim (λ h. clash (sym e ∙ none_ended (drop at text) (omega (arith, length-drop at text)))) (λ h. h) (le_or_lt (length text) at)

-- one line more, which has ended
module _ (text : List ℕ) (q : Going) (less : q.taken < length text) where
  left : 0 < length (drop q.taken text)
  left = omega (arith, length-drop q.taken text)

  gone_as : {m : Memory} {buffer : List ℕ} {end : ℕ} → Leaves (step_in q.memory (reading text q.taken).outcome) (loaded_behind q.memory.loaded (reading text q.taken).outcome) (next_number q.memory.lines) m q.buffer q.end buffer end → gone q (first (drop q.taken text)) ≡ record { memory = m; taken = (reading text q.taken).place; buffer = buffer; end = end }
  unfolding gone next_in
  gone_as l =
      rw (first_says text q.taken, first_end text q.taken, ← l.left, ← l.printed.holds, ← l.printed.behind)

  pub going_on : {m : Memory} {buffer : List ℕ} {end : ℕ} → ended (drop q.taken text) ≡ true → q.end + 200 ≤ length q.buffer → Leaves (step_in q.memory (reading text q.taken).outcome) (loaded_behind q.memory.loaded (reading text q.taken).outcome) (next_number q.memory.lines) m q.buffer q.end buffer end → going q (lines (drop q.taken text)) ≡ going (record { memory = m; taken = (reading text q.taken).place; buffer = buffer; end = end }) (lines (drop (reading text q.taken).place text))
  unfolding going takes
  going_on e room l =
      let behind = behind_first text q.taken (first (drop q.taken text)) refl ∙ ap (λ (n : ℕ). drop n text) (first_end text q.taken) in
      rw (lines_first (drop q.taken text) left, ended_first (drop q.taken text), e, le-leb (q.end + 200) (length q.buffer) room, behind, gone_as l)

module _ {text : List ℕ} {q₀ q : Going} (t : Turning text q₀ q) where
  -- a run of lines that print nothing
  pub turning_run : {m : Memory} {to : ℕ} → RunsOn text q.memory q.taken m to → q.end + 200 ≤ length q.buffer → Turning text q₀ (record { memory = m; taken = to; buffer = q.buffer; end = q.end })
  turning_run r room =
      record { same = t.same ∙ r.same q.buffer q.end room; ready = r.ready; within = r.within; fits = t.fits; long = t.long }

  pub turning_step : {m : Memory} {buffer : List ℕ} {end : ℕ} → ended (drop q.taken text) ≡ true → q.end + 200 ≤ length q.buffer → Leaves (step_in q.memory (reading text q.taken).outcome) (loaded_behind q.memory.loaded (reading text q.taken).outcome) (next_number q.memory.lines) m q.buffer q.end buffer end → Turning text q₀ (record { memory = m; taken = (reading text q.taken).place; buffer = buffer; end = end })
  unfolding next_in
  turning_step e room l =
      let less : q.taken < length text = ended_inside text q.taken e in
      record {
        same = t.same ∙ going_on text q less e room l;
        ready = rw l.left (ready_next t.ready (reading text q.taken).outcome);
        within = (place_within text q.taken less).1;
        fits = omega (arith, l.printed.fits, l.printed.behind, prints_long l.printed);
        long = prints_long l.printed ∙ t.long;
      }

  -- no byte is left
  pub going_end : length text ≤ q.taken → q ≡ going q₀ (lines text)
  unfolding going lines
  going_end h = sym (t.same ∙ rw (drop_of_length-le text h))

  -- a line that has not ended is not taken
  unended : q.taken < length text → ended (drop q.taken text) ≡ false → q ≡ going q₀ (lines text)
  unfolding going takes
  unended less e = sym (t.same ∙ rw (lines_first (drop q.taken text) (left text q less), ended_first (drop q.taken text), e))

  pub going_unended : ended (drop q.taken text) ≡ false → q ≡ going q₀ (lines text)
  going_unended e = ⊎_elim going_end (λ less. unended less e) (le_or_lt (length text) q.taken)

  -- nor is one before which less than 200 bytes are left
  short : q.taken < length text → length q.buffer < q.end + 200 → q ≡ going q₀ (lines text)
  unfolding going takes
  short less h =
      let no = lt-leb (q.end + 200) (length q.buffer) h in
      split (ended (drop q.taken text))
      (λ e. sym (t.same ∙ rw (lines_first (drop q.taken text) (left text q less), ended_first (drop q.taken text), e, no)))
      (λ e. unended less e)

  pub going_short : length q.buffer < q.end + 200 → q ≡ going q₀ (lines text)
  going_short h = ⊎_elim going_end (λ less. short less h) (le_or_lt (length text) q.taken)
