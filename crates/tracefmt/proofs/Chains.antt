-- Chains of steps are turns: those that came to a faulty line or to the input's end, and what lies before the end of any.
use mathlib.Core.Path.{◌≡◌, refl, sym, ◌∙◌}
use mathlib.Core.Bool.{true, false}
use mathlib.Core.List.{List, [], ◌++◌, append_assoc}
use mathlib.Core.Option.{Option, none, some}
use Prim.Native.Nat.{ℕ, zero, suc, ◌≤◌}
use lib.Dec.{eqb}
use lib.ListN.{length, take}
use Rattle.laws.proofs.Cases.{split, clash}
use Rattle.std.specs.Prelude.{Option as Maybe, Some, None}
use Rattle.device.specs.declared.refusal.Refusal.{Refusal}
use Rattle.device.specs.declared.refusal.Refusal.TheVariants.{Line}
use Rattle.canonical.specs.Writing.{fault_to}
use Rattle.spelling.specs.Answers.{standing_of}
use Rattle.input.specs.declared.Input.{Input}
use Rattle.input.specs.declared.Input.TheVariants.{Bytes, End, Failed}
use Rattle.input.specs.AtHand.{Came, brought}
use Rattle.tracefmt.specs.declared.Place.{Place}
use Rattle.tracefmt.specs.Rewriting.{Progress, next, next_by, end_of}
use Rattle.input.specs.Next.{reads_on, has_failed}
use Rattle.tracefmt.specs.Turns.{refusal_of, progress_of, Turned, State, Chain, none_yet, one_more, Turns, goes_on, stops, ends}

-- turns behind a state of a chain
abbrev pub TurnsBehind : State → List (List ℕ) → List ℕ → Progress → Type 0
TurnsBehind q parts out last = Turns (progress_of q.turn.place) q.text q.turn.kept parts out last

abbrev TurnedBy : State → Input → List ℕ → State → Type 0
TurnedBy from input text to = Turned (progress_of from.turn.place) text from.turn.kept input to.turn to.text to.buffer

-- no more is kept than the text holds
pub chain_few : {first q : State} {n : ℕ} {parts : List (List ℕ)} {out : List ℕ} → Chain first n q parts out → first.turn.kept ≤ length first.text → q.turn.kept ≤ length q.text
chain_few none_yet few = few
chain_few (one_more chain on s) few = s.held.few

-- a step behind which the program reads again brought a part
read_on : (from to : State) (input : Input) (text : List ℕ) {parts : List (List ℕ)} {out : List ℕ} {last : Progress} → Came input from.turn.kept from.text text → TurnedBy from input text to → reads_on to.turn.next ≡ true → TurnsBehind to parts out last → TurnsBehind from (brought input from.turn.kept text ++ parts) (take to.turn.end to.buffer ++ out) last
unfolding brought Turned
read_on from to (Bytes len) text came turned more later = goes_on text len to.turn to.text to.buffer came turned more later
read_on from to End text came turned more later = clash (sym more ∙ turned.2)
read_on from to Failed text came turned more later = clash (sym more ∙ turned.2)

-- so turns behind a chain that goes on are turns from its start
pub chain_goes_on : {first q : State} {n : ℕ} {parts more_parts : List (List ℕ)} {out more_out : List ℕ} {last : Progress} → Chain first n q parts out → reads_on q.turn.next ≡ true → TurnsBehind q more_parts more_out last → TurnsBehind first (parts ++ more_parts) (out ++ more_out) last
chain_goes_on none_yet more later = later
chain_goes_on {more_parts = ps} {more_out = os} (one_more {n} {from} {to} {parts} {out} chain on s) more later =
    rw (append_assoc parts (brought s.input from.turn.kept s.text) ps, append_assoc out (take to.turn.end to.buffer) os)
    (chain_goes_on chain on (read_on from to s.input s.text s.came s.turned more later))

-- a last step by what its read came to: a faulty line, or the input's end
step_ends : (from to : State) (input : Input) (text : List ℕ) → from.turn.kept ≤ length from.text → Came input from.turn.kept from.text text → TurnedBy from input text to → reads_on to.turn.next ≡ false → has_failed to.turn.next ≡ false → TurnsBehind from (brought input from.turn.kept text) (take to.turn.end to.buffer) (progress_of to.turn.place)
unfolding brought Turned
step_ends from to (Bytes len) text few came turned stopped whole = stops text len to.turn to.text to.buffer [] came turned stopped
step_ends from to End text few came turned stopped whole = ends text to.turn to.text to.buffer few came turned
step_ends from to Failed text few came turned stopped whole = clash (sym turned.3 ∙ whole)

pub chain_ends : {first last : State} {n : ℕ} {parts : List (List ℕ)} {out : List ℕ} → Chain first n last parts out → first.turn.kept ≤ length first.text → reads_on first.turn.next ≡ true → reads_on last.turn.next ≡ false → has_failed last.turn.next ≡ false → TurnsBehind first parts out (progress_of last.turn.place)
chain_ends none_yet few began stopped whole = clash (sym began ∙ stopped)
chain_ends (one_more {from = from} {to = to} chain on s) few began stopped whole =
    chain_goes_on chain on (step_ends from to s.input s.text (chain_few chain few) s.came s.turned stopped whole)

-- a place of the code for every progress whose refusal is one of the code's
unfoldable pub rows_at : Option ℕ → Maybe ℕ
rows_at none = None
rows_at (some n) = Some n

rows_back : (o : Option ℕ) → standing_of (rows_at o) ≡ o
unfolding standing_of rows_at
rows_back none = refl
rows_back (some n) = refl

unfoldable pub place_at : Progress → Maybe Refusal → Place
place_at g r = record { rows = rows_at g.standing; lines = g.count; refusal = r }

pub place_back : (g : Progress) (r : Maybe Refusal) → refusal_of r ≡ g.refusal → progress_of (place_at g r) ≡ g
unfolding progress_of place_at
place_back g r e = λ i. record { standing = rows_back g.standing i; count = g.count; refusal = e i }

-- the refusal at the input's end
pub refusal_at_end : (p : Place) (kept : ℕ) → (r : Maybe Refusal) × (refusal_of r ≡ (end_of (progress_of p) kept).refusal)
unfolding end_of next next_by fault_to progress_of refusal_of
refusal_at_end p zero = (p.refusal, refl)
refusal_at_end p (suc k) = split (eqb (refusal_of p.refusal) 0) (λ e. (Some Line, rw e)) (λ e. (p.refusal, rw e))
