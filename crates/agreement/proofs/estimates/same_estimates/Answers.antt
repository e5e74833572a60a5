-- `estimates::same_estimates` meets its contract. The invariant: both walks have passed every row below low, and each of these has the same
-- estimate in both summaries.
use mathlib.Core.Path.{◌≡◌, ◌∙◌, sym}
use native.Mathlib.Omega.{arith}
use Rattle.agreement.proofs.InnerContracts.TwoWalks.{walks_begin, lower_in_bank, gap_differs, walks_past_gap, row_differs, walks_past_row}
use Rattle.agreement.proofs.estimates.same_estimates.Goals.{then-low-row+else-a-b, else-low-row}
use Rattle.agreement.proofs.estimates.same_estimates.Goals as goal

pub loop-low-init : goal.loop-low-init
loop-low-init c = walks_begin c.requires.tracks_below c.requires.tracks_below_2

pub returns-then-a-b : goal.returns-then-a-b
returns-then-a-b c = sym (gap_differs c.lower_row-row.result c.loop-low.invariant c.lower_row-row.ensures c.if-low-row.true c.if-a-b.true)

pub returns-then-row-high : goal.returns-then-row-high
returns-then-row-high c =
    let come =
    walks_past_gap c.lower_row-row.result c.loop-low.invariant c.lower_row-row.ensures
    (λ h. elim c.if-low-row.branch [ then-low-row+else-a-b w ↦ w.if-a-b.false | else-low-row w ↦ absurd (omega arith) ]) in
    sym (rw c.if-row-high.true at come.same)

pub returns-then-x-estimate_at : goal.returns-then-x-estimate_at
returns-then-x-estimate_at c =
    let turn = c.loop-low in
    let lower_row = c.lower_row-row in
    let come =
    walks_past_gap lower_row.result turn.invariant lower_row.ensures
    (λ h. elim c.if-low-row.branch [ then-low-row+else-a-b w ↦ w.if-a-b.false | else-low-row w ↦ absurd (omega arith) ]) in
    sym (row_differs come (omega (arith, come.within)) (λ e. c.if-x-estimate_at.true (c.estimate_at-x.ensures ∙ e ∙ sym c.estimate_at.ensures)))

pub overflow_add-low : goal.overflow_add-low
overflow_add-low c =
    let turn = c.loop-low in
    let lower_row = c.lower_row-row in
    omega (arith, lower_in_bank lower_row.result turn.invariant lower_row.ensures)

pub loop-low-smaller : goal.loop-low-smaller
loop-low-smaller c =
    let turn = c.loop-low in
    let lower_row = c.lower_row-row in
    omega (arith, lower_in_bank lower_row.result turn.invariant lower_row.ensures)

pub loop-low-preserved : goal.loop-low-preserved
loop-low-preserved c =
    let turn = c.loop-low in
    let lower_row = c.lower_row-row in
    let come =
    walks_past_gap lower_row.result turn.invariant lower_row.ensures
    (λ h. elim c.if-low-row.branch [ then-low-row+else-a-b w ↦ w.if-a-b.false | else-low-row w ↦ absurd (omega arith) ]) in
    rw (c.place_after-j.ensures, c.place_after-i.ensures)
    (walks_past_row come (omega (arith, come.within)) (sym c.estimate_at-x.ensures ∙ c.if-x-estimate_at.false ∙ c.estimate_at.ensures))

pub returns : goal.returns
returns c =
    let end : c.loop-low.low ≡ c.args.high = omega (arith, c.loop-low.invariant.within) in
    sym (rw end at c.loop-low.invariant.same)
