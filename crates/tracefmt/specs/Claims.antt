-- What is claimed of the program, besides its functions' contracts. proofs/Claims.antt proves each under the same name.
use Rattle.std.specs.Prelude.{◌≡◌, Bool, true, false, List, [], ◌∷◌, ℕ, ◌<◌, length}
use Rattle.std.proofs.Math.Option.{none}
use Rattle.device.specs.Refusal.{Outcome}
use Rattle.trace.specs.declared.Record.{Record}
use Rattle.trace.specs.Texts.{outcomes, joined, whole}
use Rattle.canonical.specs.Spelling.{spelling}
use Rattle.canonical.specs.Writing.{first_fault, before_fault}
use Rattle.tracefmt.specs.Rewriting.{Progress, start, rewritten, passed, fault_line, fault_said}
use Rattle.input.specs.Next.{reads_on, has_failed}
use Rattle.tracefmt.specs.Turns.{progress_of, State, first_state, Chain, RanFrom, WholeFrom, Turns}

-- what lines write is 'the spelling of the lines before' the first faulty one, and what is said is of that one
unfoldable pub RewrittenUpToFault : Type 0
RewrittenUpToFault =
    (os : List (Outcome Record)) → (rewritten start os ≡ spelling (before_fault none os)) × (fault_line (passed start os) ≡ fault_said os)

-- however the text is cut into parts: from the start on, all that is to be written is the spelling of its lines before the first faulty one, and
-- what is to be said is of that one
unfoldable pub TurnsRewritten : Type 0
TurnsRewritten =
    (text : List ℕ) (parts : List (List ℕ)) (out : List ℕ) (last : Progress) → Turns start text 0 parts out last →
    (out ≡ spelling (before_fault none (outcomes (joined parts)))) × (fault_line last ≡ fault_said (outcomes (joined parts)))

-- a chain of steps that came to a faulty line or to the input's end is what `TurnsRewritten` speaks of, up to where it came
unfoldable pub ChainTurns : Type 0
ChainTurns =
    (text buffer : List ℕ) (parts : List (List ℕ)) (out : List ℕ) (w : WholeFrom text buffer parts out) →
    Turns start text 0 parts out (progress_of w.last.turn.place)

-- wherever a chain stops, as where a read or a write fails: all that it was to write is the spelling of the lines before the first faulty one of what its reads
-- brought, where a last line that has not ended is faulty
unfoldable pub ChainRewritten : Type 0
ChainRewritten =
    (text buffer : List ℕ) (reads : ℕ) (last : State) (parts : List (List ℕ)) (out : List ℕ) →
    Chain (first_state text buffer) reads last parts out → out ≡ spelling (before_fault none (outcomes (joined parts)))

-- of a run: all that it was to write, and what it says of its last step where that found a faulty line or the input's end
unfoldable pub RunRewritten : Type 0
RunRewritten =
    (text buffer : List ℕ) (last : State) (written : Bool) (ran : RanFrom text buffer last written) →
    (ran.out ≡ spelling (before_fault none (outcomes (joined ran.parts)))) ×
    (reads_on last.turn.next ≡ false → has_failed last.turn.next ≡ false → fault_line (progress_of last.turn.place) ≡ fault_said (outcomes (joined ran.parts)))

-- there are such chains: of any text of whole lines, none of them faulty, that a read brings whole
unfoldable pub ChainsExist : Type 0
ChainsExist =
    (text buffer part : List ℕ) → 0 < length part → whole part ≡ true → first_fault none (outcomes part) ≡ 0 →
    WholeFrom text buffer (part ∷ []) (spelling (outcomes part))

-- rewriting a rewritten text changes nothing, whatever the text was, and no line of it is faulty
unfoldable pub RewrittenAgain : Type 0
RewrittenAgain =
    (text : List ℕ) →
    let out = spelling (before_fault none (outcomes text)) in
    (spelling (before_fault none (outcomes out)) ≡ out) × (fault_said (outcomes out) ≡ [])
