-- `checker::stands_at` meets its contract.
use mathlib.Core.Path.{◌≡◌, refl, sym, ap}
use mathlib.Core.List.{◌++◌}
use Prim.Native.Nat.{◌≤◌}
use native.Mathlib.Omega.{arith}
use lib.ListN.{length, drop, take, length-append}
use lib.Seq.{take_at}
use Rattle.std.proofs.lemmas.Bool.Decides.{Decides-eqb}
use Rattle.std.proofs.lemmas.Slice.Eq.{starts_is}
use Rattle.checker.proofs.Checks.{rest_all}
use Rattle.checker.proofs.stands_at.Goals as goal

pub returns-then-required-le-MOST : goal.returns-then-required-le-MOST
returns-then-required-le-MOST c = λ on.
    let required = c.args.required.now in
    let given = drop c.args.from c.args.given.now in
    let front = (starts_is Decides-eqb given required c.starts_with.result (rw (rest_all c.args.given.now c.args.from) at c.starts_with.ensures.value)).0 on in
    record {
      few = c.if-required-le-MOST.true;
      enough = omega (arith, ap length front, length-append required (drop (length required) given));
      same = rw front (sym (take_at required (drop (length required) given) (length required) refl));
    }
