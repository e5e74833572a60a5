-- `trace::keep` meets its contract.
use mathlib.Core.Path.{◌≡◌, sym, ◌∙◌, ap}
use Prim.Native.Nat.{◌+◌, ◌-◌}
use native.Mathlib.Nat.{zero-add}
use native.Mathlib.Omega.{arith}
use lib.ListN.{length, drop, length-drop}
use lib.Seq.{length-take-le}
use Rattle.trace.proofs.Texts.KeptBytes.{kept_is}
use Rattle.trace.proofs.keep.Goals as goal

pub returns : goal.returns
returns c =
    let a = c.args in
    let begin = c.min-begin.result in
    let kept = c.min-kept.result in
    let is = kept_is a.text.now a.from a.to c.min-end.ensures c.min-begin.ensures c.min-kept.ensures in
    let width : begin + kept - begin ≡ kept = omega arith in (
      sym (length-take-le kept (drop begin a.text.now) (omega (arith, length-drop begin a.text.now))) ∙ ap length is,
      rw (width, zero-add kept) at c.copy_within.ensures.after ∙ rw is,
    )
