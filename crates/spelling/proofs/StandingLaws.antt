-- What stands in the code's form is what stands.
use mathlib.Core.Path.{◌≡◌, refl}
use Rattle.std.specs.Prelude.{ℕ, Option as Maybe}
use Rattle.device.specs.Refusal.{Outcome, accepted, refused}
use Rattle.trace.specs.declared.Record.{Record}
use Rattle.trace.specs.declared.Record.TheVariants.{Set, Remap, Activate, Refresh, Blank}
use Rattle.canonical.specs.Writing.{standing_behind}
use Rattle.spelling.specs.Answers.{standing_of, stood}

pub standing_stood : (rows : Maybe ℕ) (o : Outcome Record) → standing_of (stood rows o) ≡ standing_behind (standing_of rows) o
unfolding stood standing_of standing_behind
standing_stood rows (accepted (Set t)) = refl
standing_stood rows (accepted (Remap t)) = refl
standing_stood rows (accepted (Activate row hold)) = refl
standing_stood rows (accepted Refresh) = refl
standing_stood rows (accepted Blank) = refl
standing_stood rows (refused k) = refl
