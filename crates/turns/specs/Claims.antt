-- What is claimed of the turns of a run, besides the functions' contracts. proofs/Claims.antt proves each under the same name.
use Rattle.std.specs.Prelude.{ℕ, ◌+◌, ◌*◌, ◌≤◌, ◌<◌, ◌≡◌, List, [], ◌∷◌, ◌++◌, length}
use Rattle.steps.specs.Steps.{start}
use Rattle.listing.specs.Texts.{listing}
use Rattle.steps.specs.Memory.{memory, start_place}
use Rattle.listing.specs.Chunks.{line_room}
use Rattle.trace.specs.Texts.{joined}
use Rattle.input.specs.Runs.{Whole}
use Rattle.turns.specs.Turns.{Turned, more_in, failed_in, first_turned, Chain, Turns}

-- from the start on, all that is to be written is the listing of all that the reads brought
unfoldable pub TurnsListed : Type 0
TurnsListed =
    (counts text : List ℕ) (parts : List (List ℕ)) (out : List ℕ) →
    Turns (memory start_place counts) text 0 parts out → out ≡ listing start (joined parts)

-- a chain of steps that came to the input's end
abbrev pub WholeFrom : List ℕ → List ℕ → List ℕ → List (List ℕ) → List ℕ → Type 0
WholeFrom counts text buffer parts out = Whole more_in failed_in (Chain (first_turned counts text buffer)) parts out

-- such a chain is what `TurnsListed` speaks of
unfoldable pub ChainTurns : Type 0
ChainTurns =
    (counts text buffer : List ℕ) (parts : List (List ℕ)) (out : List ℕ) →
    WholeFrom counts text buffer parts out → Turns (memory start_place counts) text 0 parts out

-- wherever a chain stops, as where a read or a write fails: what it was to write is a beginning of the listing of what its reads brought
pub record Begins (front whole : List ℕ) : Type 0 where
  pub rest : List ℕ
  pub joins : front ++ rest ≡ whole

unfoldable pub ChainBegins : Type 0
ChainBegins =
    (counts text buffer : List ℕ) (reads : ℕ) (last : Turned) (parts : List (List ℕ)) (out : List ℕ) →
    Chain (first_turned counts text buffer) reads last parts out → Begins out (listing start (joined parts))

-- there are such chains: of any text that a read brings whole, where the buffer has room for what it prints
unfoldable pub ChainsExist : Type 0
ChainsExist =
    (counts text buffer part : List ℕ) → 0 < length part → 55 * length part + line_room ≤ length buffer →
    WholeFrom counts text buffer (part ∷ []) (listing start part)
