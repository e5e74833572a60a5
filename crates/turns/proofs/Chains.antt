-- Chains of steps are turns: of those that came to the input's end, and of what lies before the end of any.
use mathlib.Core.Path.{◌≡◌, sym, ◌∙◌, ap}
use mathlib.Core.Bool.{true, false}
use mathlib.Core.List.{List, ◌++◌, append_assoc}
use Prim.Native.Nat.{ℕ, ◌+◌, ◌*◌, ◌≤◌}
use native.Mathlib.Omega.{arith}
use lib.ListN.{length, take}
use Rattle.laws.proofs.Cases.{clash}
use Rattle.listing.specs.Chunks.{line_room}
use Rattle.input.specs.declared.Input.{Input}
use Rattle.input.specs.declared.Input.TheVariants.{Bytes, End, Failed}
use Rattle.input.specs.AtHand.{Came, brought}
use Rattle.turns.specs.Turns.{Turned, turn_of, Chain, none_yet, one_more, Turns, goes_on, stops}

-- turns behind a state of a chain
abbrev pub TurnsBehind : Turned → List (List ℕ) → List ℕ → Type 0
TurnsBehind q parts out = Turns q.memory q.text q.kept parts out

-- a step behind which the program reads again brought a part
read_on : (from to : Turned) (input : Input) (text : List ℕ) {parts : List (List ℕ)} {out : List ℕ} → Came input from.kept from.text text → 55 * length text + line_room ≤ length from.buffer → to ≡ turn_of from.memory text from.kept input from.buffer → to.more ≡ true → TurnsBehind to parts out → TurnsBehind from (brought input from.kept text ++ parts) (take to.end to.buffer ++ out)
unfolding brought turn_of
read_on from to (Bytes len) text came room same more later = goes_on text from.buffer len to came room same later
read_on from to End text came room same more later = clash (sym more ∙ ap (λ (q : Turned). q.more) same)
read_on from to Failed text came room same more later = clash (sym more ∙ ap (λ (q : Turned). q.more) same)

-- so turns behind a chain that goes on are turns from its start
pub chain_goes_on : {first q : Turned} {n : ℕ} {parts more_parts : List (List ℕ)} {out more_out : List ℕ} → Chain first n q parts out → q.more ≡ true → TurnsBehind q more_parts more_out → TurnsBehind first (parts ++ more_parts) (out ++ more_out)
chain_goes_on none_yet more later = later
chain_goes_on {first} {q} {more_parts = ps} {more_out = os} (one_more {n} {from} {to} {parts} {out} chain on s) more later =
    rw (append_assoc parts (brought s.input from.kept s.text) ps, append_assoc out (take to.end to.buffer) os)
    (chain_goes_on chain on (read_on from to s.input s.text s.came s.room s.same more later))

-- a last step by what its read came to: the input's end, or a failure
step_ends : (from to : Turned) (input : Input) (text : List ℕ) → Came input from.kept from.text text → 55 * length text + line_room ≤ length from.buffer → to ≡ turn_of from.memory text from.kept input from.buffer → to.more ≡ false → to.failed ≡ false → TurnsBehind from (brought input from.kept text) (take to.end to.buffer)
unfolding brought turn_of
step_ends from to (Bytes len) text came room same stopped whole = clash (sym (ap (λ (q : Turned). q.more) same) ∙ stopped)
step_ends from to End text came room same stopped whole = stops text from.buffer to came (omega arith) same
step_ends from to Failed text came room same stopped whole = clash (sym (ap (λ (q : Turned). q.failed) same) ∙ whole)

-- a chain that came to the input's end
pub chain_ends : {first last : Turned} {n : ℕ} {parts : List (List ℕ)} {out : List ℕ} → Chain first n last parts out → first.more ≡ true → last.more ≡ false → last.failed ≡ false → TurnsBehind first parts out
chain_ends none_yet began stopped whole = clash (sym began ∙ stopped)
chain_ends (one_more {from = from} {to = to} chain on s) began stopped whole =
    chain_goes_on chain on (step_ends from to s.input s.text s.came s.room s.same stopped whole)
