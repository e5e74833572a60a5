-- What answers of the code say: what columns were found to hold.
use Rattle.std.specs.Prelude.{Option, Some, None}
use Rattle.std.proofs.Math.Option.{none, some}
use Rattle.std.proofs.Math.Option.{Option as Perhaps}

-- what some columns hold: a number or numbers, or something else
unfoldable pub found : {A : Type 0} → Option A → Perhaps A
found (Some a) = some a
found None = none
