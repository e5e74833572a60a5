-- `aids::marks::clear` meets its contract.
use mathlib.Core.Path.{ap, ◌∙◌}
use Prim.Native.Nat.{ℕ}
use lib.ListN.{replicate}
use Rattle.aids.proofs.Emptied.{unmarked}
use Rattle.aids.proofs.marks.clear.Goals as goal

pub returns : goal.returns
returns c =
    let counts = c.clear_marked.ensures in
    (counts.1, unmarked counts.0 counts.1 (c.clear_marks.ensures ∙ ap (λ (n : ℕ). replicate n 0) c.requires.marks_long))
