-- `search::share_less` meets its contract.
use Prim.Native.Nat.{◌<◌}
use native.Mathlib.Nat.{mod-lt}
use native.Mathlib.Omega.{arith}
use Rattle.bound.proofs.Shares.{less_quotient, less_one, less_within, less_over}
use Rattle.bound.proofs.search.share_less.Goals as goal

pub overflow_sub-quotient : goal.overflow_sub-quotient
overflow_sub-quotient c =
    let a = c.args in
    less_quotient a.share.quotient a.less a.at a.share.over (omega arith) (omega arith)

pub overflow_add-over : goal.overflow_add-over
overflow_add-over c =
    let a = c.args in
    let positive : 0 < a.at = omega arith in
    omega (arith, mod-lt a.less positive)

pub overflow_sub-result : goal.overflow_sub-result
overflow_sub-result c =
    let a = c.args in
    less_one a.share.quotient a.less a.at a.share.over (omega arith) (omega arith) (omega arith)

pub returns-then-over-at : goal.returns-then-over-at
returns-then-over-at c =
    let a = c.args in
    (less_within a.share.quotient a.less a.at a.share.over (omega arith) (omega arith), omega arith)

pub returns-else-over-at : goal.returns-else-over-at
returns-else-over-at c =
    let a = c.args in
    let positive : 0 < a.at = omega arith in (
      less_over a.share.quotient a.less a.at a.share.over positive (omega arith) (omega arith),
      omega (arith, mod-lt a.less positive),
    )
