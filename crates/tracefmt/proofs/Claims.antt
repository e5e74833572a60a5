-- What lines write, and what all turns of a run hand to be written, is the spelling of the lines before the first faulty one; what is said is of
-- that one. Chains of steps are such turns, and there are some.
use mathlib.Core.Path.{◌≡◌, refl, ap, sym, ◌∙◌}
use mathlib.Core.Bool.{true, false}
use mathlib.Core.List.{List, [], ◌∷◌, ◌++◌, append-nil, append_assoc}
use mathlib.Core.Option.{none}
use Prim.Native.Nat.{ℕ, ◌<◌}
use native.Mathlib.Omega.{arith}
use borrow.Author.Tests.{eqb-true}
use lib.Dec.{eqb}
use lib.ListN.{length, take, drop}
use lib.Seq.{length-take-le, take-length, drop-length}
use Rattle.device.specs.Refusal.{Outcome}
use Rattle.laws.proofs.Cases.{split}
use Rattle.trace.specs.declared.Record.{Record}
use Rattle.trace.specs.Lines.{ended}
use Rattle.trace.specs.Texts.{outcomes, joined, whole}
use Rattle.canonical.specs.Spelling.{spelling, unblank}
use Rattle.canonical.specs.Writing.{first_fault, before_fault}
use Rattle.columns.proofs.Output.{counted_on, refusal_alike}
use Rattle.canonical.proofs.Spelling.Texts.{outcomes_spelling, spelling_unblank}
use Rattle.canonical.proofs.Writing.{first_fault_before, before_fault_all, faultless_readable, first_fault_unblank}
use Rattle.input.specs.declared.Input.{Input}
use Rattle.input.specs.declared.Input.TheVariants.{Bytes, End, Failed}
use Rattle.input.specs.AtHand.{Within, Came, brought}
use Rattle.input.proofs.AtHand.{at_hand}
use Rattle.tracefmt.specs.Rewriting.{Progress, start, passed, rewriting, after, end_of, fault_line, fault_said}
use Rattle.input.specs.Next.{reads_on, has_failed}
use Rattle.tracefmt.specs.Turns.{refusal_of, progress_of, Moves, Turned, Held, State, first_turn, first_state, Stepped, Chain, none_yet, one_more, WholeFrom, Turns, goes_on, stops, ends}
use Rattle.tracefmt.specs.Claims.{RewrittenUpToFault, TurnsRewritten, ChainTurns, ChainRewritten, RunRewritten, ChainsExist, RewrittenAgain}
use Rattle.tracefmt.proofs.Faults.{after_stopped, rewriting_stopped, rewritten_before, passed_fault, passed_count}
use Rattle.tracefmt.proofs.WholePart.{moves_writes, moves_leaves, moves_unended}
use Rattle.tracefmt.proofs.Ends.{rewriting_end, after_end}
use Rattle.tracefmt.proofs.Chains.{chain_few, chain_goes_on, chain_ends, place_at, place_back, refusal_at_end}
use Rattle.spelling.specs.Answers.{standing_of}
use Rattle.std.specs.Prelude.{None}
use Rattle.input.specs.declared.Next.TheVariants.{More, Done}

said_of_fault : (os : List (Outcome Record)) → fault_line (passed start os) ≡ fault_said os
unfolding fault_line fault_said start
said_of_fault os =
    let fault = passed_fault start os refl in
    split (eqb (first_fault none os) 0)
    (λ q. rw (fault, q))
    (λ q.
    rw (fault, q)
    (refusal_alike _ _ (counted_on (passed start os).count (length (before_fault none os)) (omega (arith, passed_count start os refl q))) _))

pub rewritten_up_to_fault : RewrittenUpToFault
unfolding RewrittenUpToFault start
rewritten_up_to_fault os = (rewritten_before start os refl, said_of_fault os)

-- the bytes kept and those that came behind them are the bytes at hand
in_parts : {kept len : ℕ} {text text₁ : List ℕ} (more : List ℕ) → Came (Bytes len) kept text text₁
    → take kept text ++ (drop kept (take len text₁) ++ more) ≡ take len text₁ ++ more
in_parts {kept} {len} {text} {text₁} more came =
    sym (append_assoc (take kept text) (drop kept (take len text₁)) more) ∙ ap (λ (front : List ℕ). front ++ more) (sym (at_hand came))

-- turns rewrite what is kept of a line that has not ended, and all parts behind it
turns_rewrite : {g : Progress} {text : List ℕ} {kept : ℕ} {parts : List (List ℕ)} {out : List ℕ} {last : Progress}
    → ended (take kept text) ≡ false → Turns g text kept parts out last
    → (out ≡ rewriting g (take kept text ++ joined parts)) × (last ≡ after g (take kept text ++ joined parts))
unfolding joined Turned progress_of
turns_rewrite e (goes_on text₁ len r text₂ buffer {parts} came turned more later) =
    let moves = turned.0 in
    let rest = turns_rewrite (moves_unended moves (eqb-true _ _ (sym turned.1 ∙ more))) later in (
      rw (in_parts (joined parts) came, moves_writes moves (joined parts), rest.0),
      rw (in_parts (joined parts) came, moves_leaves moves (joined parts), rest.1),
    )
turns_rewrite e (stops text₁ len r text₂ buffer parts came turned more) =
    let moves = turned.0 in
    let stopped = sym turned.1 ∙ more in (
      rw (in_parts (joined parts) came, moves_writes moves (joined parts), rewriting_stopped (progress_of r.place) stopped, append-nil),
      rw (in_parts (joined parts) came, moves_leaves moves (joined parts), after_stopped (progress_of r.place) stopped),
    )
turns_rewrite {g} {text} {kept} e (ends text₁ r text₂ buffer few came turned) = (
  rw (append-nil, turned.1, rewriting_end g (take kept text) e),
  turned.0 ∙ rw (append-nil, after_end g (take kept text) e, length-take-le kept text few),
)

pub turns_rewritten : TurnsRewritten
unfolding TurnsRewritten RewrittenUpToFault rewriting after ended
turns_rewritten text parts out last run =
    let all = turns_rewrite refl run in
    let lines = rewritten_up_to_fault (outcomes (joined parts)) in
    (all.0 ∙ lines.0, ap fault_line all.1 ∙ lines.1)

pub chain_turns : ChainTurns
unfolding ChainTurns first_state first_turn progress_of start standing_of refusal_of
chain_turns text buffer parts out w = chain_ends w.chain (omega arith) refl w.no_more w.none_failed

-- while there is more to read, the input's end could be next, and it writes nothing
module _ (text buffer : List ℕ) where
  abbrev Written : List (List ℕ) → List ℕ → Type 0
  Written parts out = out ≡ spelling (before_fault none (outcomes (joined parts)))

  written_open : {n : ℕ} {q : State} {parts : List (List ℕ)} {out : List ℕ} → Chain (first_state text buffer) n q parts out → reads_on q.turn.next ≡ true → Written parts out
  unfolding first_state first_turn progress_of start standing_of refusal_of TurnsRewritten Turned Within
  written_open {q = q} {parts = parts} {out = out} chain on =
      let g : Progress = progress_of q.turn.place in
      let (r, at_end) = refusal_at_end q.turn.place q.turn.kept in
      let stopped = ends {g = g} {text = q.text} {kept = q.turn.kept} q.text (record { place = place_at (end_of g q.turn.kept) r; kept = 0; end = 0; next = Done }) q.text [] (chain_few chain (omega arith)) (record { front = refl; within = tt }) (place_back (end_of g q.turn.kept) r at_end, refl, refl, refl) in
      rw (append-nil out, append-nil parts) at (turns_rewritten text _ _ _ (chain_goes_on chain on stopped)).0

  whole_written : {n : ℕ} {last : State} {parts : List (List ℕ)} {out : List ℕ} → Chain (first_state text buffer) n last parts out → reads_on last.turn.next ≡ false → has_failed last.turn.next ≡ false → Written parts out
  unfolding first_state first_turn progress_of start standing_of refusal_of TurnsRewritten
  whole_written chain stopped whole = (turns_rewritten text _ _ _ (chain_ends chain (omega arith) refl stopped whole)).0

  written_behind : {n : ℕ} {from : State} {parts : List (List ℕ)} {out : List ℕ} (to : State) (input : Input) (read : List ℕ) → Chain (first_state text buffer) n from parts out → reads_on from.turn.next ≡ true → Came input from.turn.kept from.text read → Turned (progress_of from.turn.place) read from.turn.kept input to.turn to.text to.buffer → Held to.turn to.text to.buffer → Written (parts ++ brought input from.turn.kept read) (out ++ take to.turn.end to.buffer)
  unfolding first_state first_turn Turned brought
  written_behind to (Bytes len) read chain on came turned held =
      let further = one_more {to = to} chain on (record { input = Bytes len; text = read; came = came; turned = turned; held = held }) in
      split (reads_on to.turn.next) (λ more. written_open further more) (λ stopped. whole_written further stopped turned.2)
  written_behind to End read chain on came turned held =
      let further = one_more {to = to} chain on (record { input = End; text = read; came = came; turned = turned; held = held }) in
      whole_written further turned.2 turned.3
  written_behind {parts = parts} {out = out} to Failed read chain on came turned held =
      rw (turned.1, append-nil out, append-nil parts) (written_open chain on)

pub chain_rewritten : ChainRewritten
unfolding ChainRewritten first_state first_turn
chain_rewritten text buffer reads last parts out none_yet = written_open text buffer none_yet refl
chain_rewritten text buffer reads last parts out (one_more chain on s) =
    written_behind text buffer last s.input s.text chain on s.came s.turned s.held

pub run_rewritten : RunRewritten
unfolding RunRewritten ChainRewritten ChainTurns TurnsRewritten
run_rewritten text buffer last written ran = (
  chain_rewritten text buffer ran.reads last ran.parts ran.out ran.chain,
  λ no_more none_failed.
      (turns_rewritten text ran.parts ran.out _
      (chain_turns text buffer ran.parts ran.out
      (record { reads = ran.reads; last = last; chain = ran.chain; no_more = no_more; none_failed = none_failed }))
      ).1,
)

-- a read that brings whole lines without a fault, and one that finds the input's end
module _ (text buffer part : List ℕ) (some_bytes : 0 < length part) (lines : whole part ≡ true) (sound : first_fault none (outcomes part) ≡ 0) where
  abbrev behind_part : State
  behind_part =
      record {
        turn = record { place = place_at (after start part) None; kept = 0; end = length (rewriting start part); next = More };
        text = part;
        buffer = rewriting start part;
      }

  abbrev behind_end : State
  behind_end =
      record {
        turn = record { place = place_at (after start part) None; kept = 0; end = 0; next = Done };
        text = part;
        buffer = [];
      }

  clean_behind : refusal_of None ≡ (after start part).refusal
  unfolding refusal_of start after
  clean_behind = sym (passed_fault start (outcomes part) refl ∙ sound)

  moves_part : Moves start (take (length part) part) (take (length (rewriting start part)) (rewriting start part)) (progress_of (place_at (after start part) None)) []
  unfolding ended
  moves_part =
      rw (take-length part)
      (record {
        taken = length part;
        takes = record {
          lines = rw (take-length part) lines;
          leaves = place_back (after start part) None clean_behind ∙ ap (after start) (sym (take-length part));
          all = λ clean. rw (drop-length part);
        };
        writes = take-length (rewriting start part) ∙ ap (rewriting start) (sym (take-length part));
        keeps = rw (drop-length part);
      })

  reads_part : Stepped (first_state text buffer) behind_part
  unfolding first_state first_turn Turned Within progress_of start standing_of refusal_of place_at after
  reads_part =
      record {
        input = Bytes (length part);
        text = part;
        came = record { front = refl; within = (some_bytes, omega arith) };
        turned = (moves_part, refl, refl);
        held = record { few = omega arith; fits = omega arith };
      }

  reads_end : Stepped behind_part behind_end
  unfolding Turned Within end_of
  reads_end =
      record {
        input = End;
        text = part;
        came = record { front = refl; within = tt };
        turned = (refl, refl, refl, refl);
        held = record { few = omega arith; fits = omega arith };
      }

  whole_part : WholeFrom text buffer (part ∷ []) (spelling (outcomes part))
  unfolding first_state first_turn brought joined ChainRewritten reads_part reads_end
  whole_part =
      let chain = one_more (one_more none_yet refl reads_part) refl reads_end in
      let parts : drop 0 (take (length part) part) ∷ [] ≡ part ∷ [] = ap (λ (front : List ℕ). front ∷ []) (take-length part) in
      let written = chain_rewritten text buffer 2 behind_end _ _ chain in
      let out = written ∙ ap (λ (ps : List (List ℕ)). spelling (before_fault none (outcomes (joined ps)))) parts ∙ ap (λ (t : List ℕ). spelling (before_fault none (outcomes t))) (append-nil part) ∙ ap spelling (before_fault_all none (outcomes part) sound) in
      record { reads = 2; last = behind_end; chain = rw (← parts, ← out) chain; no_more = refl; none_failed = refl }

pub chains_exist : ChainsExist
unfolding ChainsExist
chains_exist text buffer part some_bytes lines sound = whole_part text buffer part some_bytes lines sound

pub rewritten_again : RewrittenAgain
unfolding RewrittenAgain fault_said
rewritten_again text =
    let os = before_fault none (outcomes text) in
    let sound : first_fault none os ≡ 0 = first_fault_before none (outcomes text) in
    let back : outcomes (spelling os) ≡ unblank os = outcomes_spelling (faultless_readable os sound) in
    let faultless : first_fault none (unblank os) ≡ 0 = first_fault_unblank none os ∙ sound in
    (rw (back, before_fault_all none (unblank os) faultless) (spelling_unblank os), rw (back, faultless))
