-- `input::read_from` meets its contract: the bytes in front of a place are as they were, whatever stands behind it.
use native.Mathlib.Omega.{arith}
use lib.ListN.{take, length-append}
use lib.Seq.{take_at, length-take-le}
use Rattle.input.proofs.AtHand.{within_input}
use Rattle.input.proofs.read_from.Goals as goal

pub returns : goal.returns
returns c =
    let text = c.args.text.now in
    let kept = c.args.kept in
    record {
      front = take_at (take kept text) _ kept (length-take-le kept text c.requires);
      within = rw c.input_from.ensures (within_input c.read.result kept c.read.new.part _ c.read.ensures.bound (simp length-append (omega (arith, length-take-le kept text c.requires))));
    }
