-- Lines taken one after another from the front of a text: what they print is the listing of what was taken, and with room enough every line that
-- has ended is taken.
use mathlib.Core.Path.{◌≡◌, refl, sym, ◌∙◌, ap}
use mathlib.Core.Bool.{true, false}
use mathlib.Core.List.{List, [], ◌∷◌}
use Prim.Native.Nat.{ℕ, ◌+◌, ◌*◌, ◌≤◌, ◌<◌}
use native.Mathlib.Omega.{arith}
use borrow.Author.Tests.{leb-true, le-leb}
use lib.ListN.{length, take, drop, length-drop}
use lib.Seq.{drop-drop, length-take-le}
use Rattle.device.specs.Refusal.{Outcome}
use Rattle.laws.proofs.Cases.{split, clash, zero_one}
use Rattle.trace.specs.declared.Record.{Record}
use Rattle.columns.specs.Numbers.{written}
use Rattle.trace.specs.Lines.{ended, extent}
use Rattle.trace.specs.Reading.{reading, reading_by}
use Rattle.columns.specs.Output.{Prints}
use Rattle.steps.specs.Steps.{Progress}
use Rattle.trace.specs.Texts.{whole, read, outcomes, lines}
use Rattle.listing.specs.Texts.{listed_to, passed, listing_to, listing, after}
use Rattle.steps.specs.Memory.{Memory, Represents, next_number, step_in}
use Rattle.listing.specs.Chunks.{Going, gone, takes, going, part}
use Rattle.trace.proofs.Texts.FirstLine.{lines_front, extent_within, ended_first, read_front}
use Rattle.columns.proofs.Output.{prints_nothing, prints_long, prints_then}
use Rattle.steps.proofs.Memory.Progress.{step_represented, represents_next}
use Rattle.steps.proofs.Steps.Lengths.{length_step_le, length_step_line}
use Rattle.trace.proofs.Texts.NextLine.{place_within, whole_on}
use Rattle.listing.proofs.Texts.{listing_on, after_on}

-- whole lines were taken, their listing was printed, and few bytes of the buffer are used
pub record Taken (g : Progress) (text buffer : List ℕ) (q : Going) : Type 0 where
  pub within : q.taken ≤ length text
  pub ends : whole (take q.taken text) ≡ true
  pub represents : Represents q.memory (after g (take q.taken text))
  pub prints : Prints buffer 0 (listing g (take q.taken text)) q.buffer q.end
  pub spent : q.end ≤ 55 * q.taken

taken_start : {m : Memory} {g : Progress} (text buffer : List ℕ) → Represents m g → Taken g text buffer (record { memory = m; taken = 0; buffer = buffer; end = 0 })
unfolding whole listing_to after outcomes lines listed_to passed
taken_start text buffer r =
    record {
      within = omega arith;
      ends = refl;
      represents = r;
      prints = prints_nothing buffer 0 (omega arith);
      spent = omega arith;
    }

-- when a line is taken
module _ (q : Going) (line : List ℕ) where
  takes_true : takes q line ≡ true → (ended line ≡ true) × (q.end + 200 ≤ length q.buffer)
  unfolding takes
  takes_true h =
      split (ended line) (λ e. (e, leb-true (q.end + 200) (length q.buffer) (rw e at h))) (λ e. clash (sym (rw e at h)))

  takes_false : takes q line ≡ false → q.end + 200 ≤ length q.buffer → ended line ≡ false
  unfolding takes
  takes_false h room =
      split (ended line) (λ e. clash (rw (e, le-leb (q.end + 200) (length q.buffer) room) at h)) (λ e. e)

-- the first line of a text
abbrev pub first : List ℕ → List ℕ
first text = take (extent text) text

first_long : (text : List ℕ) → length (first text) ≡ extent text
first_long text = length-take-le (extent text) text (extent_within text)

module _ (text : List ℕ) (at : ℕ) where
  pub first_end : at + length (first (drop at text)) ≡ (reading text at).place
  unfolding reading reading_by
  first_end = rw (first_long (drop at text))

  at_front : read (drop at text) ≡ (reading text at).outcome
  unfolding read reading reading_by
  at_front = refl

  pub first_says : read (first (drop at text)) ≡ (reading text at).outcome
  first_says = read_front (drop at text) ∙ at_front

-- one line further
taken_gone : {g : Progress} {text buffer : List ℕ} {q : Going} → Taken g text buffer q → q.taken < length text → takes q (first (drop q.taken text)) ≡ true → Taken g text buffer (gone q (first (drop q.taken text)))
unfolding gone step_in
taken_gone {g} {text} {buffer} {q} t less h =
    let at : ℕ = q.taken in
    let line : List ℕ = first (drop at text) in
    let ok = takes_true q line h in
    let o : Outcome Record = read line in
    let same = step_represented t.represents o in
    let running = t.represents.ready.running in
    let ends = sym (ended_first (drop at text)) ∙ ok.0 in
    let number : ℕ = next_number q.memory.lines in
    let fits = length_step_le number q.memory.loaded q.memory.tracker o running in
    let on : Prints q.buffer q.end (step_in q.memory o).prints (written q.buffer q.end (step_in q.memory o).prints) (q.end + length (step_in q.memory o).prints) = record { fits = omega (arith, fits, ok.1); holds = refl; behind = refl } in
    record {
      within = rw (first_end text at) (place_within text at less).1;
      ends = rw (first_end text at) (whole_on text at less t.ends ends);
      represents = rw (first_end text at, after_on text at less t.ends g, ← first_says text at) (represents_next t.represents o);
      prints = rw (first_end text at, listing_on text at less t.ends g, ← first_says text at, ← same) (prints_then t.prints on);
      spent = omega (arith, t.spent, length_step_line number q.memory.loaded q.memory.tracker line ok.0 running);
    }

pub none_ended : (text : List ℕ) → length text ≡ 0 → ended text ≡ false
unfolding ended
none_ended [] e = refl
none_ended (b ∷ bs) e = absurd (omega arith)

-- the lines of a text: none where no byte is left, else the first and those behind it
lines_none : (text : List ℕ) → [] ≡ lines text → length text ≡ 0
lines_none [] e = refl
lines_none (b ∷ bs) e = zero_one (cc (lines_front b bs))

record Split (text : List ℕ) (l : List ℕ) (ls : List (List ℕ)) : Type 0 where
  some : 0 < length text
  line : l ≡ first text
  others : ls ≡ lines (drop (extent text) text)

lines_split : (text l : List ℕ) (ls : List (List ℕ)) → l ∷ ls ≡ lines text → Split text l ls
unfolding lines
lines_split [] l ls e = zero_one (cc)
lines_split (b ∷ bs) l ls e = record { some = omega arith; line = cc (lines_front b bs); others = cc (lines_front b bs) }

-- what the lines of a text come to: while room is left, no line that has ended is
pub record Done (g : Progress) (text buffer : List ℕ) (q : Going) : Type 0 where
  pub took : Taken g text buffer q
  pub roomy : q.end + 200 ≤ length buffer → ended (drop q.taken text) ≡ false

-- with room enough none is left
pub all_taken : {g : Progress} {text buffer : List ℕ} {q : Going} → Done g text buffer q → 55 * length text + 200 ≤ length buffer → ended (drop q.taken text) ≡ false
all_taken d room = d.roomy (omega (arith, room, d.took.spent, d.took.within))

pub behind_first : (text : List ℕ) (at : ℕ) (l : List ℕ) → l ≡ first (drop at text) → drop (extent (drop at text)) (drop at text) ≡ drop (at + length l) text
behind_first text at l e = rw (e, first_long (drop at text)) (drop-drop (extent (drop at text)) at text)

done_going : {g : Progress} {text buffer : List ℕ} (ls : List (List ℕ)) {q : Going} → ls ≡ lines (drop q.taken text) → Taken g text buffer q → Done g text buffer (going q ls)
unfolding going gone
done_going {g} {text} {buffer} [] {q} e t =
    record { took = t; roomy = λ room. none_ended (drop q.taken text) (lines_none (drop q.taken text) e) }
done_going {g} {text} {buffer} (l ∷ ls) {q} e t =
    let s = lines_split (drop q.taken text) l ls e in
    let less : q.taken < length text = omega (arith, s.some, length-drop q.taken text) in
    split (takes q l)
    (λ yes.
    rw yes
    (done_going ls (s.others ∙ ap lines (behind_first text q.taken l s.line)) (rw (← s.line) at (taken_gone t less (rw s.line at yes)))))
    (λ no.
    rw no
    (record {
      took = t;
      roomy = λ room.
          sym (ended_first (drop q.taken text)) ∙
          rw s.line at (takes_false q l no (omega (arith, room, prints_long t.prints)));
    }))

-- the lines at the front of a text
pub done_part : {m : Memory} {g : Progress} (text buffer : List ℕ) → Represents m g → Done g text buffer (part m text buffer)
unfolding part
done_part text buffer r = done_going (lines text) refl (taken_start text buffer r)
