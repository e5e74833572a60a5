-- `device::remap_allowed` meets its contract.
use mathlib.Core.Path.{◌≡◌, refl}
use mathlib.Core.Bool.{true, false}
use Rattle.std.proofs.Common.{rules}
use Rattle.std.proofs.lemmas.Iterator.{cases_from_all, YieldsList-from_range}
use Rattle.device.specs.Remap.{remap_allowed, occurs_in}
use Rattle.device.proofs.Remap.{all_said}
use Rattle.device.proofs.remap_allowed.Goals as goal

pub returns : goal.returns
unfolding remap_allowed
returns c =
    let remap = c.args.remap in
    all_said _ _ remap
    (cases_from_all _ _ _ (λ k. occurs_in 16 remap k ≡ true) (λ k. occurs_in 16 remap k ≡ false) c.all.ensures.ran
    (YieldsList-from_range 0 _ _ refl refl)
    (λ x q k. search rules)
    (λ x q k. search rules))
