-- A slice of numbers that is lent to be written, as a contract names it: at a function's entry and at its exit.
use Rattle.std.specs.Prelude.{ℕ, List}
use denote.MutBor.{MutBor}
use denote.Triple.Both.{Both}

abbrev pub Lent : Type 0
Lent = Both (MutBor (List ℕ)) (MutBor (List ℕ))
