-- `summary::lookup` meets its contract: among ascending rows, a row stands where it belongs or nowhere.
use mathlib.Core.Path.{◌≡◌, sym, ◌∙◌}
use mathlib.Core.List.{List}
use Prim.Native.Nat.{ℕ, ◌≤◌, ◌<◌}
use native.Mathlib.Omega.{arith}
use lib.ListN.{length, get_or, take}
use lib.Seq.{get_or-take, length-take-le}
use Rattle.tables.specs.InnerContracts.{Rising, lower_place, equal_place}
use Rattle.tables.proofs.Searches.{equal_place_found, equal_place_missing}
use Rattle.summary.proofs.lookup.Goals.{else-p-tracked-via-then-p-tracked+else-rows-p, else-p-tracked-via-else-p-tracked}
use Rattle.summary.proofs.lookup.Goals as goal

found : (xs : List ℕ) (k row p : ℕ) → k ≤ length xs → p ≡ lower_place row (take k xs) → p < k → get_or xs p 0 ≡ row → p ≡ equal_place row (take k xs)
found xs k row p fits e less at =
    let all = length-take-le k xs fits in
    let here : get_or (take k xs) (lower_place row (take k xs)) 0 ≡ row = rw (← e) (get_or-take k xs p 0 less ∙ at) in
    e ∙ sym (equal_place_found row (take k xs) (omega (arith, e, all)) here)

missed : (xs : List ℕ) (k row p : ℕ) → k ≤ length xs → Rising (take k xs) → p ≡ lower_place row (take k xs) → (p < k → get_or xs p 0 ≡ row → ⊥) → k ≡ equal_place row (take k xs)
missed xs k row p fits rising e no_match =
    let all = length-take-le k xs fits in
    sym
    (equal_place_missing row (take k xs) rising
    (λ less at.
    let inside : p < k = omega (arith, e, all) in
    no_match inside (sym (get_or-take k xs p 0 inside) ∙ rw (← e) at at)) ∙ all)

pub returns-then-rows-p : goal.returns-then-rows-p
returns-then-rows-p c =
    found c.args.rows.now c.args.tracked c.args.row c.lower_bound-p.result c.requires.0 c.lower_bound-p.ensures c.if-p-tracked.true
    c.if-rows-p.true

pub returns-else-p-tracked : goal.returns-else-p-tracked
returns-else-p-tracked c =
    missed c.args.rows.now c.args.tracked c.args.row c.lower_bound-p.result c.requires.0 c.requires.1 c.lower_bound-p.ensures
    (elim c.else-p-tracked.branch [
      | else-p-tracked-via-then-p-tracked+else-rows-p w ↦ λ less at. w.if-rows-p.false at
      | else-p-tracked-via-else-p-tracked w ↦ λ less at. omega arith
    ])
