-- `rowcheck::given_beside` meets its contract: by what is required there, and by what comparing that came to.
use native.Mathlib.Omega.{arith}
use Prim.Native.Nat.{◌-◌}
use lib.ListN.{drop, length-take, length-drop}
use Rattle.rowcheck.proofs.Steps.{beside_required, beside_surplus}
use Rattle.rowcheck.proofs.given_beside.Goals as goal

pub returns-then-end-at : goal.returns-then-end-at
returns-then-end-at c = beside_surplus c.args.from _ _ _ _ c.if-end-at.true

pub compare-requires : goal.compare-requires
compare-requires c = (omega arith, omega (arith, c.requires.3, length-take (c.args.len - c.args.from.at) (drop c.args.from.at c.args.given.now), length-drop c.args.from.at c.args.given.now))

pub returns-in-Ok : goal.returns-in-Ok
returns-in-Ok c =
    beside_required c.args.from c.args.required.now c.args.given.now c.args.end c.args.len c.if-end-at.false c.in-Ok.ensures

pub returns-in-Err : goal.returns-in-Err
returns-in-Err c =
    beside_required c.args.from c.args.required.now c.args.given.now c.args.end c.args.len c.if-end-at.false c.in-Err.ensures
