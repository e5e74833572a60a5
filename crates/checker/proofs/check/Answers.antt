-- `checker::check` meets its contract: with tables of zeros, whatever they held.
use mathlib.Core.Path.{◌≡◌, ◌∙◌, ap}
use mathlib.Core.List.{List}
use Prim.Native.Nat.{ℕ}
use lib.ListN.{replicate}
use Rattle.steps.proofs.Memory.Zeros.{zeros_marked}
use Rattle.checker.proofs.check.Goals as goal

zeros_alike : {t : List ℕ} {n m : ℕ} → t ≡ replicate n 0 → n ≡ m → t ≡ replicate m 0
zeros_alike e same = e ∙ ap (λ (n : ℕ). replicate n 0) same

pub check_in-verdict-requires : goal.check_in-verdict-requires
check_in-verdict-requires c =
    let w = c.wipe in
    (zeros_marked _ c.told-counts w.ensures.counts_after (zeros_alike w.ensures.marks_after c.told-marks), w.auto.bounds ∙ c.told-bounds)

pub returns : goal.returns
returns c =
    let w = c.wipe.auto in
    let k = c.check_in-verdict.auto in
    let z = c.wipe-2.ensures in record { result_value = c.check_in-verdict.ensures; counts_after = zeros_alike z.counts_after (k.counts ∙ w.counts); marks_after = zeros_alike z.marks_after (k.marks ∙ w.marks); bounds_after = zeros_alike z.bounds_after (k.bounds ∙ w.bounds) }
