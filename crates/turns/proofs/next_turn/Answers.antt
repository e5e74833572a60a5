-- `turns::next_turn` meets its contract: what a turn leaves is a listing's, and fits its buffers.
use mathlib.Core.Path.{◌∙◌}
use Prim.Native.Nat.{◌≤◌}
use native.Mathlib.Omega.{arith}
use lib.ListN.{length}
use Rattle.turns.proofs.Turns.{steady_turn_left}
use Rattle.turns.proofs.next_turn.Goals as goal

pub returns-clause-carried_in : goal.returns-clause-carried_in
returns-clause-carried_in c =
    let r = c.read_from-input in
    let b = c.between_reads in
    let few : c.args.from.kept ≤ length r.new.text = omega arith in
    let left = steady_turn_left _ _ _ _ _ _ b.ensures.out_value c.requires.ready few r.ensures.within in record {
      ready = left.ready;
      banked = b.ensures.banked_in;
      text_long = b.auto.text ∙ r.auto.text ∙ c.requires.text_long;
      out_long = b.auto.out ∙ c.requires.out_long;
      kept_few = omega (arith, left.few);
      end_few = omega (arith, left.fits);
    }
