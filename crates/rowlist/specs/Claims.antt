-- What is claimed of the program's runs, besides its functions' contracts. proofs/Claims.antt proves it under the same name.
use Rattle.std.specs.Prelude.{◌≡◌, Bool, false, List, ℕ}
use Rattle.steps.specs.Steps.{start}
use Rattle.listing.specs.Texts.{listing}
use Rattle.trace.specs.Texts.{joined}
use Rattle.turns.specs.Turns.{Turned}
use Rattle.rowlist.specs.Runs.{RanFrom}

-- what a run that came to the input's end was to write is the listing of all that its reads brought
unfoldable pub RunListed : Type 0
RunListed =
    (counts text buffer : List ℕ) (last : Turned) (written : Bool) (ran : RanFrom counts text buffer last written) →
    last.more ≡ false → last.failed ≡ false → ran.out ≡ listing start (joined ran.parts)
