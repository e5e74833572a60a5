-- `dense::clear` meets its contract.
use mathlib.Core.Path.{ap, ◌∙◌}
use Prim.Native.Nat.{ℕ}
use lib.ListN.{replicate}
use Rattle.dense.proofs.InnerContracts.Turned.{turned_empty}
use Rattle.dense.proofs.clear.Goals as goal

pub returns : goal.returns
returns c =
    let clear = c.clear.ensures in
    turned_empty clear.0 clear.1 (c.clear-2.ensures ∙ ap (λ (n : ℕ). replicate n 0) c.requires.1)
