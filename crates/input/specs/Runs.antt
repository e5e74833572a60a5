-- What a run of a program is that reads, and writes behind each read; and one that came to the input's end.
use Rattle.std.specs.Prelude.{ℕ, ◌≡◌, Bool, true, false, List}

-- a run came to such a last state, and all was written or not: so many steps from the first state on, by the program's own chains of steps, with the parts that
-- the reads brought and all that was to be written; where all was written they went on until there was no more to read, or there were 2^64 - 1 of them
pub record Ran {A : Type 0} (more : A → Bool) (Chain : ℕ → A → List (List ℕ) → List ℕ → Type 0) (last : A) (written : Bool) : Type 0 where
  pub reads : ℕ
  pub parts : List (List ℕ)
  pub out : List ℕ
  pub chain : Chain reads last parts out
  pub ends : written ≡ true → more last ≡ true → reads ≡ 18446744073709551615

-- steps from the first state on that came to where there is no more to read, without a failure
pub record Whole {A : Type 0} (more failed : A → Bool) (Chain : ℕ → A → List (List ℕ) → List ℕ → Type 0) (parts : List (List ℕ)) (out : List ℕ) : Type 0 where
  pub reads : ℕ
  pub last : A
  pub chain : Chain reads last parts out
  pub no_more : more last ≡ false
  pub none_failed : failed last ≡ false
