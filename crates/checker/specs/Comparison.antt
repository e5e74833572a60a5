-- A comparison byte by byte: what is required next, and what is given there.
use Rattle.std.specs.Prelude.{ℕ, suc, cond, Result, Ok, Err, List, [], ◌∷◌, eqb}
use Rattle.std.proofs.Math.Option.{Option, none, some}
use Rattle.checker.specs.declared.Departure.{Departure}

-- the lines that have ended behind one byte more
unfoldable pub counted : ℕ → ℕ → ℕ
counted lines b = cond (eqb b 10) (suc lines) lines

-- the lines that have ended among the bytes that are alike, Ok where all required bytes stand at the front of those given
unfoldable pub compared : ℕ → List ℕ → List ℕ → Result ℕ ℕ
compared lines [] given = Ok lines
compared lines (b ∷ bs) [] = Err lines
compared lines (b ∷ bs) (c ∷ cs) = cond (eqb b c) (compared (counted lines b) bs cs) (Err lines)

-- what an answer says: none where the listing passes, else the number of the line that departs
unfoldable pub verdict_of : {A : Type 0} → Result A Departure → Option ℕ
verdict_of (Ok x) = none
verdict_of (Err d) = some d.line
