-- A read of the listing leaves what is to be answered as it was; so a run answers what is to be answered from its first state on.
use mathlib.Core.Path.{◌≡◌, sym, ◌∙◌}
use mathlib.Core.Bool.{false}
use mathlib.Core.List.{List, [], ◌∷◌, ◌++◌, append_assoc}
use mathlib.Core.Logic.{⊎_elim}
use mathlib.Core.Option.{Option}
use Prim.Native.Nat.{ℕ, ◌≤◌, ◌<◌}
use native.Mathlib.Omega.{arith}
use borrow.Author.Tests.{lt-ltb, le-ltb, le-leb}
use lib.Dec.{ltb}
use lib.ListN.{length, take, drop, length-drop}
use lib.Seq.{length-take-le}
use Rattle.laws.proofs.Cases.{split, clash, le_or_lt}
use Rattle.trace.specs.Texts.{joined}
use Rattle.steps.specs.Steps.{Progress}
use Rattle.input.specs.declared.Input.TheVariants.{Bytes, End}
use Rattle.input.specs.AtHand.{Within}
use Rattle.checker.specs.Departure.{departing}
use Rattle.checker.proofs.Comparison.{departing_none}
use Rattle.rowcheck.specs.declared.Answer.TheVariants.{Open}
use Rattle.rowcheck.specs.Turns.{given_beside, behind_listing, beside, ReadBeside, State, wants_trace, after_listing, Runs, reads_trace, ends_trace, reads_listing, ends_listing, passes, departs}
use Rattle.rowcheck.proofs.Wanted.{behind, required, to_answer, wanted, Fine, none_behind, cut_behind, piece_compared, surplus_departs, missing_departs}
use Rattle.rowcheck.proofs.TraceReads.{fine_read, wanted_read, fine_last, wanted_last}

-- where bytes are required: what is read is compared with them, or they are missing
module _ (q : State) {g : Progress} (f : Fine q.turn g) (some_required : q.check.at < q.turn.end) (open_yet : q.check.answer ≡ Open) where
  abbrev future : List (List ℕ) → List ℕ
  future parts = behind q.turn.more g (take q.turn.kept q.turn.text ++ joined parts)

  wanted_compared : {before after : List ℕ} (len : ℕ) (parts given : List (List ℕ)) → ReadBeside (Bytes len) q.check.at q.turn.end before after → wanted (after_listing q after (Bytes len)) g parts given ≡ wanted q g parts (drop (beside q.check.at q.turn.end) (take len after) ∷ given)
  unfolding wanted required to_answer after_listing behind_listing given_beside beside joined Within
  wanted_compared {before} {after} len parts given came =
      let at : ℕ = q.check.at in
      let end : ℕ = q.turn.end in
      let buffer : List ℕ = q.turn.buffer in
      let within : (at < len) × (len ≤ end) = came.most some_required in
      let given_long : len ≤ length after = came.came.within.1 in
      let piece : List ℕ = drop at (take len buffer) in
      let left : List ℕ = drop len (take end buffer) in
      let part : List ℕ = drop at (take len after) in
      let piece_long = length-drop at (take len buffer) in
      let part_long = length-drop at (take len after) in
      let alike : length part ≡ length piece = omega (arith, piece_long, part_long, length-take-le len after given_long, length-take-le len buffer (omega (arith, within.1, f.fits))) in
      rw (
        lt-ltb at end some_required,
        open_yet,
        cut_behind at len end buffer (omega (arith, within.0)) within.1 f.fits,
        append_assoc piece left (future parts),
      )
      (piece_compared q.check.lines piece (left ++ future parts) part (joined given) alike)

  wanted_missing : (after : List ℕ) (parts : List (List ℕ)) → wanted (after_listing q after End) g parts [] ≡ wanted q g parts []
  unfolding wanted required to_answer after_listing behind_listing joined
  wanted_missing after parts =
      let piece : List ℕ = drop q.check.at (take q.turn.end q.turn.buffer) in
      let long = length-drop q.check.at (take q.turn.end q.turn.buffer) in
      rw (lt-ltb q.check.at q.turn.end some_required, open_yet)
      (sym
      (missing_departs q.check.lines piece (future parts)
      (omega (arith, long, length-take-le q.turn.end q.turn.buffer f.fits))))

-- where none is, the trace has ended: what is read is surplus, or nothing is left on both sides
module _ (q : State) (g : Progress) (none_required : q.turn.end ≤ q.check.at) (wants : wants_trace q ≡ false) (open_yet : q.check.answer ≡ Open) where
  nothing : ltb q.check.at q.turn.end ≡ false
  nothing = le-ltb q.check.at q.turn.end none_required

  trace_ended : q.turn.more ≡ false
  unfolding wants_trace
  trace_ended =
      split q.turn.more (λ on. clash (rw (on, le-leb q.turn.end q.check.at none_required) at wants)) (λ off. off)

  wanted_none : (parts given : List (List ℕ)) → wanted q g parts given ≡ departing q.check.lines [] (joined given)
  unfolding wanted required behind to_answer
  wanted_none parts given =
      rw (open_yet, trace_ended, none_behind q.check.at q.turn.end q.turn.buffer none_required)

  wanted_surplus : {before after : List ℕ} (len : ℕ) (parts given : List (List ℕ)) → ReadBeside (Bytes len) q.check.at q.turn.end before after → wanted (after_listing q after (Bytes len)) g parts given ≡ wanted q g parts (drop (beside q.check.at q.turn.end) (take len after) ∷ given)
  unfolding wanted to_answer after_listing behind_listing given_beside beside joined Within
  wanted_surplus {before} {after} len parts given came =
      let within : (0 < len) × (len ≤ length after) = rw nothing at came.came.within in
      let long = length-take-le len after within.1 in
      rw nothing
      (sym
      (wanted_none parts (take len after ∷ given) ∙
      surplus_departs q.check.lines (take len after) (joined given) (omega (arith, within.0, long))))

  wanted_passes : (after : List ℕ) (parts : List (List ℕ)) → wanted (after_listing q after End) g parts [] ≡ wanted q g parts []
  unfolding wanted to_answer after_listing behind_listing joined
  wanted_passes after parts = rw nothing (sym (wanted_none parts [] ∙ departing_none q.check.lines))

-- all reads of a run
pub runs_answer : {q : State} {g : Progress} {parts given : List (List ℕ)} {answer : Option ℕ} → Fine q.turn g → Runs q parts given answer → answer ≡ wanted q g parts given
unfolding wanted to_answer after_listing
runs_answer {q} f (reads_trace text len {parts} {given} open_yet wants came room later) =
    runs_answer (fine_read q f text len came room) later ∙ wanted_read q f text len came room parts given open_yet wants
runs_answer {q} f (ends_trace text {given} open_yet wants came room later) =
    runs_answer (fine_last q f text wants came room) later ∙ wanted_last q f text wants came room given open_yet
runs_answer {q} {g} f (reads_listing before after len {parts} {given} open_yet wants came later) =
    runs_answer f later ∙
    ⊎_elim
    (λ h. wanted_surplus q g h wants open_yet len parts given came)
    (λ h. wanted_compared q f h open_yet len parts given came)
    (le_or_lt q.turn.end q.check.at)
runs_answer {q} {g} f (ends_listing before after {parts} open_yet wants came later) =
    runs_answer f later ∙
    ⊎_elim (λ h. wanted_passes q g h wants open_yet after parts) (λ h. wanted_missing q f h open_yet after parts) (le_or_lt q.turn.end q.check.at)
runs_answer f (passes passed) = rw passed
runs_answer f (departs parts given departed) = rw departed
