-- A chain of steps that ends in an answer is a run with that answer: from its last state back to its first.
use mathlib.Core.Path.{◌≡◌, refl, sym, ◌∙◌, ap, subst}
use mathlib.Core.Bool.{Bool, true, false, cond}
use mathlib.Core.List.{List, [], ◌++◌, append_assoc, append-nil}
use mathlib.Core.Option.{Option}
use Prim.Native.Nat.{ℕ, ◌+◌, ◌*◌, ◌≤◌}
use native.Mathlib.Omega.{arith}
use lib.Dec.{leb, ltb}
use lib.ListN.{length}
use Rattle.laws.proofs.Cases.{clash, and_both}
use Rattle.listing.specs.Chunks.{line_room}
use Rattle.input.specs.declared.Input.{Input}
use Rattle.input.specs.declared.Input.TheVariants.{Bytes, End, Failed}
use Rattle.input.specs.AtHand.{Came, brought}
use Rattle.turns.specs.Turns.{Turned, turn_of}
use Rattle.rowcheck.specs.declared.Answer.{Answer}
use Rattle.rowcheck.specs.declared.Answer.TheVariants.{Open, Passes, Departs, TraceFailed, ListingFailed}
use Rattle.rowcheck.specs.declared.Check.{Check}
use Rattle.rowcheck.specs.Turns.{open_so_far, behind_trace, behind_listing, beside, ReadBeside, State, wants_trace, after_trace, after_listing, Stepped, of_trace, of_listing, trace_part, listing_part, Chain, none_yet, one_more, Runs, reads_trace, ends_trace, reads_listing, ends_listing, passes, departs}

is_open : (a : Answer) → open_so_far a ≡ true → a ≡ Open
unfolding open_so_far
is_open Open on = refl
is_open Passes on = clash (sym on)
is_open Departs on = clash (sym on)
is_open TraceFailed on = clash (sym on)
is_open ListingFailed on = clash (sym on)

-- no run goes on behind a read that failed
unfoldable failed_read : Answer → Bool
failed_read Open = false
failed_read Passes = false
failed_read Departs = false
failed_read TraceFailed = true
failed_read ListingFailed = true

runs_read : {q : State} {parts given : List (List ℕ)} {answer : Option ℕ} → Runs q parts given answer → failed_read q.check.answer ≡ false
unfolding failed_read
runs_read (reads_trace text len open_yet wants came room later) = rw open_yet
runs_read (ends_trace text open_yet wants came room later) = rw open_yet
runs_read (reads_listing before after len open_yet wants came later) = rw open_yet
runs_read (ends_listing before after open_yet wants came later) = rw open_yet
runs_read (passes passed) = rw passed
runs_read (departs parts given departed) = rw departed

-- what is still to come behind a state: nothing of the trace behind its end, and nothing of the listing behind an answer
record Ends (q : State) (parts given : List (List ℕ)) : Type 0 where
  trace_ended : q.turn.more ≡ false → parts ≡ []
  answered : open_so_far q.check.answer ≡ false → given ≡ []

-- back over a read of the trace
module _ (from to : State) {parts given : List (List ℕ)} {answer : Option ℕ} (open_yet : from.check.answer ≡ Open) (wants : wants_trace from ≡ true) (ends : Ends to parts given) (run : Runs to parts given answer) where
  trace_back : (input : Input) (text : List ℕ) → Came input from.turn.kept from.turn.text text → 55 * length text + line_room ≤ length from.turn.buffer → to.turn ≡ turn_of from.turn.memory text from.turn.kept input from.turn.buffer → to.check ≡ behind_trace from.check to.turn.failed → Runs from (brought input from.turn.kept text ++ parts) given answer
  unfolding brought turn_of behind_trace after_trace failed_read
  trace_back (Bytes len) text came room turn check =
      let same : to ≡ after_trace from text (Bytes len) = λ i. record { turn = turn i; check = (check ∙ ap (λ (t : Turned). behind_trace from.check t.failed) turn) i } in
      reads_trace text len open_yet wants came room (subst (λ (q : State). Runs q parts given answer) same run)
  trace_back End text came room turn check =
      let same : to ≡ after_trace from text End = λ i. record { turn = turn i; check = (check ∙ ap (λ (t : Turned). behind_trace from.check t.failed) turn) i } in
      let none_left : parts ≡ [] = ends.trace_ended (ap (λ (t : Turned). t.more) turn) in
      rw none_left (ends_trace text open_yet wants came (omega arith) (subst (λ (ps : List (List ℕ)). Runs (after_trace from text End) ps given answer) none_left (subst (λ (q : State). Runs q parts given answer) same run)))
  trace_back Failed text came room turn check =
      clash (sym (ap (λ (k : Check). failed_read k.answer) (check ∙ ap (λ (t : Turned). behind_trace from.check t.failed) turn)) ∙ runs_read run)

-- back over a read of the listing
module _ (from to : State) {parts given : List (List ℕ)} {answer : Option ℕ} (open_yet : from.check.answer ≡ Open) (wants : wants_trace from ≡ false) (ends : Ends to parts given) (run : Runs to parts given answer) where
  closed : (b : Bool) → open_so_far (cond b Departs Passes) ≡ false
  unfolding open_so_far
  closed true = refl
  closed false = refl

  listing_back : (input : Input) (before after : List ℕ) → ReadBeside input from.check.at from.turn.end before after → to ≡ after_listing from after input → Runs from parts (brought input (beside from.check.at from.turn.end) after ++ given) answer
  unfolding brought behind_listing after_listing failed_read
  listing_back (Bytes len) before after came same =
      reads_listing before after len open_yet wants came (subst (λ (q : State). Runs q parts given answer) same run)
  listing_back End before after came same =
      let shut : open_so_far to.check.answer ≡ false = rw same (closed (ltb from.check.at from.turn.end)) in
      let none_left : given ≡ [] = ends.answered shut in
      rw none_left (ends_listing before after open_yet wants came (subst (λ (gs : List (List ℕ)). Runs (after_listing from after End) parts gs answer) none_left (subst (λ (q : State). Runs q parts given answer) same run)))
  listing_back Failed before after came same =
      clash (sym (ap (λ (q : State). failed_read q.check.answer) same) ∙ runs_read run)

step_back : {from to : State} {before after : List ℕ} {parts given : List (List ℕ)} {answer : Option ℕ} → open_so_far from.check.answer ≡ true → (s : Stepped from to before after) → Ends to parts given → Runs to parts given answer → Runs from (trace_part s ++ parts) (listing_part s ++ given) answer
unfolding trace_part listing_part
step_back {from} {to} on (of_trace wants s check untouched) ends run =
    trace_back from to (is_open from.check.answer on) wants ends run s.input s.text s.came s.room s.same check
step_back {from} {to} {before} {after} on (of_listing wants input came same) ends run =
    listing_back from to (is_open from.check.answer on) wants ends run input before after came same

ends_back : {from to : State} {before after : List ℕ} {parts given : List (List ℕ)} → open_so_far from.check.answer ≡ true → (s : Stepped from to before after) → Ends to parts given → Ends from (trace_part s ++ parts) (listing_part s ++ given)
unfolding trace_part wants_trace after_listing
ends_back {from} on (of_trace wants s check untouched) ends =
    record {
      trace_ended = λ off. clash (sym (and_both from.turn.more (leb from.turn.end from.check.at) wants).0 ∙ off);
      answered = λ shut. clash (sym on ∙ shut);
    }
ends_back on (of_listing wants input came same) ends =
    record {
      trace_ended = λ off. ends.trace_ended (ap (λ (q : State). q.turn.more) same ∙ off);
      answered = λ shut. clash (sym on ∙ shut);
    }

-- back over a whole chain
chain_back : {first : State} {buffer : List ℕ} {q : State} {after : List ℕ} {n : ℕ} {parts given more more_given : List (List ℕ)} {answer : Option ℕ} → Chain first buffer n q after parts given → Ends q more more_given → Runs q more more_given answer → Runs first (parts ++ more) (given ++ more_given) answer
chain_back none_yet ends run = run
chain_back {more = more} {more_given = more_given} (one_more {parts = parts} {given = given} chain on s) ends run =
    rw (append_assoc parts (trace_part s) more, append_assoc given (listing_part s) more_given)
    (chain_back chain (ends_back on s ends) (step_back on s ends run))

-- nothing is still to come behind its end
pub chain_runs_to : {first last : State} {buffer after : List ℕ} {n : ℕ} {parts given : List (List ℕ)} {answer : Option ℕ} → Chain first buffer n last after parts given → Runs last [] [] answer → Runs first parts given answer
chain_runs_to {parts = parts} {given = given} chain run =
    rw (append-nil parts, append-nil given) at (chain_back chain (record { trace_ended = λ off. refl; answered = λ shut. refl }) run)
