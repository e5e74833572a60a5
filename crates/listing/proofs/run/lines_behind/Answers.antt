-- `listing::run::lines_behind` meets its contract.
use mathlib.Core.Path.{◌≡◌, sym, ap, ◌∙◌}
use Prim.Native.Nat.{ℕ, suc, ◌-◌}
use native.Mathlib.Omega.{arith}
use Rattle.listing.specs.InnerContracts.{numbers_on}
use Rattle.listing.proofs.Chunks.Runs.{numbers_more}
use Rattle.listing.proofs.run.lines_behind.Goals as goal

pub returns-then-count-eq0 : goal.returns-then-count-eq0
unfolding numbers_on
returns-then-count-eq0 c = rw c.if-count-eq0.true

pub returns : goal.returns
returns c =
    let a = c.args in
    let more : a.count ≡ suc (a.count - 1) = omega (arith, c.if-count-eq0.false) in
    sym (ap (λ (n : ℕ). numbers_on a.lines n) more ∙ numbers_more a.lines (a.count - 1))
