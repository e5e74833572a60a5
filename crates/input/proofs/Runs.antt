-- How far a run is between two steps, one step further, and what it comes to.
use mathlib.Core.Path.{◌≡◌, sym}
use mathlib.Core.Bool.{Bool, true, false}
use mathlib.Core.List.{List, ◌++◌}
use Prim.Native.Nat.{ℕ, suc, ◌+◌, ◌-◌, ◌≤◌}
use native.Mathlib.Omega.{arith}
use Rattle.laws.proofs.Cases.{clash}
use Rattle.input.specs.Runs.{Ran}

-- the steps so far, and as many reads left as are not used up
pub record Steps {A : Type 0} (Chain : ℕ → A → List (List ℕ) → List ℕ → Type 0) (last : A) (left : ℕ) : Type 0 where
  pub reads : ℕ
  pub parts : List (List ℕ)
  pub out : List ℕ
  pub chain : Chain reads last parts out
  pub few : reads + left ≡ 18446744073709551615

-- one step further, by a chain that is one step longer
pub steps_further : {A : Type 0} {Chain : ℕ → A → List (List ℕ) → List ℕ → Type 0} {from to : A} {left : ℕ} (part : List (List ℕ)) (more : List ℕ) → Steps Chain from left → 1 ≤ left → ((n : ℕ) (parts : List (List ℕ)) (out : List ℕ) → Chain n from parts out → Chain (suc n) to (parts ++ part) (out ++ more)) → Steps Chain to (left - 1)
steps_further part more s some_left further =
    record {
      reads = suc s.reads;
      parts = s.parts ++ part;
      out = s.out ++ more;
      chain = further s.reads s.parts s.out s.chain;
      few = omega (arith, s.few);
    }

module _ {A : Type 0} (more : A → Bool) {Chain : ℕ → A → List (List ℕ) → List ℕ → Type 0} {last : A} {left : ℕ} (s : Steps Chain last left) where
  -- where a write failed
  pub ran_unwritten : Ran more Chain last false
  ran_unwritten =
      record { reads = s.reads; parts = s.parts; out = s.out; chain = s.chain; ends = λ written. clash (sym written) }

  -- where none did
  pub ran_written : (more last ≡ true → left ≡ 0) → Ran more Chain last true
  ran_written none =
      record { reads = s.reads; parts = s.parts; out = s.out; chain = s.chain; ends = λ written on. omega (arith, s.few, none on) }
