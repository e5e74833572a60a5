-- Inner relations, in which the functions of this crate promise each other what stands where, and how far a check has come.
use Rattle.std.specs.Prelude.{ℕ, ◌≤◌, ◌<◌, ◌≡◌, true, false, List, length, take, drop}
use Rattle.trace.specs.Lines.{ended}
use Rattle.steps.specs.Steps.{Progress}
use Rattle.listing.specs.Texts.{listing}
use Rattle.steps.specs.Memory.{Memory, Represents}
use Rattle.checker.specs.declared.Checking.{Checking}
use Rattle.checker.specs.Departure.{departing, departure}

-- required bytes stand at the front of those given, and are not too many to count
pub record StandsAt (required given : List ℕ) : Type 0 where
  pub few : length required ≤ 1000000000
  pub enough : length required ≤ length given
  pub same : required ≡ take (length required) given

-- where a check is: what is still required is the listing of the rest of the trace, and what is still given is the rest of the listing
pub record Reaches (trace given : List ℕ) (m : Memory) (k : Checking) : Type 0 where
  pub progress : Progress
  pub represents : Represents m progress
  pub taken : k.taken ≤ length trace
  pub passed : k.passed ≤ length given
  pub few : k.lines ≤ k.passed
  pub answer : departure trace given ≡ departing k.lines (listing progress (drop k.taken trace)) (drop k.passed given)

-- another part of the trace: it was not empty if more may come, and the last one left no line that has ended
pub record Onward (trace : List ℕ) (before after : Checking) : Type 0 where
  pub more : after.more ≡ true → before.taken < after.taken
  pub last : after.more ≡ false → ended (drop after.taken trace) ≡ false
