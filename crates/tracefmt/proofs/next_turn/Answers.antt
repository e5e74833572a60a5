-- `tracefmt::next_turn` meets its contract.
use mathlib.Core.Path.{◌∙◌}
use native.Mathlib.Omega.{arith}
use Rattle.tracefmt.proofs.next_turn.Goals as goal

pub returns : goal.returns
returns c =
    let r = c.read_from-input in
    let b = c.between_reads in
    let text_long = b.auto.text ∙ r.auto.text ∙ c.requires.text_long in
    let out_long = b.auto.out ∙ c.requires.out_long in record {
      carried_in = record {
        text_long = text_long;
        out_long = out_long;
        kept_few = omega (arith, b.ensures.1.few, text_long);
        end_few = omega (arith, b.ensures.1.fits, out_long);
      };
      stepped = record {
        input = r.result;
        text = r.new.text;
        came = r.ensures;
        turned = b.ensures.0;
        held = b.ensures.1;
      };
    }
