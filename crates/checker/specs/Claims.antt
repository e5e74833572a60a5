-- What is claimed of the check. proofs/Claims.antt proves each under the same name.
use Rattle.std.specs.Prelude.{ℕ, ◌-◌, ◌<◌, ◌≡◌, false, List, take}
use Rattle.std.proofs.Math.Option.{none, some}
use Rattle.trace.specs.Texts.{lines, whole}
use Rattle.steps.specs.Steps.{start}
use Rattle.listing.specs.Texts.{listing}
use Rattle.checker.specs.Departure.{departure}

-- 'a listing that passes equals the program's output byte for byte, and what the program prints always passes'
unfoldable pub PassesExactly : Type 0
PassesExactly =
    (trace given : List ℕ) →
    (departure trace given ≡ none → given ≡ listing start trace) × (given ≡ listing start trace → departure trace given ≡ none)

-- a departing line's number is the first: numbers are from 1, the lines before it are the same, and with this one they are not: it differs, or one side
-- has none there
unfoldable pub FirstDeparting : Type 0
FirstDeparting =
    (trace given : List ℕ) (number : ℕ) → departure trace given ≡ some number →
    let required = lines (listing start trace) in
    (0 < number) × (take (number - 1) required ≡ take (number - 1) (lines given)) × (take number required ≡ take number (lines given) → ⊥)

-- a listing whose last piece has no byte 10 departs
unfoldable pub UnendedDeparts : Type 0
UnendedDeparts = (trace given : List ℕ) → whole given ≡ false → departure trace given ≡ none → ⊥
