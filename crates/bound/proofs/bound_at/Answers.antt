-- `bound::bound_at` meets its contract: the settings' ranges keep the sum small.
use mathlib.Core.Path.{refl}
use native.Mathlib.Omega.{arith}
use Rattle.device.proofs.Acceptance.{accepted_settings, accepted_skipping}
use Rattle.bound.specs.Totals.{bound_at}
use Rattle.bound.proofs.Totals.Bound.{added_le, bound_at_lt}
use Rattle.bound.proofs.bound_at.Goals as goal

pub added_of-requires : goal.added_of-requires
added_of-requires c = accepted_skipping c.args.s c.requires.s_value

pub invariant_of-sizes : goal.invariant_of-sizes
invariant_of-sizes c =
    let ok = accepted_settings c.args.s c.requires.s_value in
    record { volume_positive = ok.others.volume.least; volume_few = ok.others.volume.most; counters_few = ok.counters.most }

pub total-total-requires : goal.total-total-requires
total-total-requires c =
    let ok = accepted_settings c.args.s c.requires.s_value in (rw c.added_of.ensures (added_le c.args.s ok.others), omega arith)

pub returns : goal.returns
unfolding bound_at
returns c = rw (c.total-total.ensures, c.disturbers_of.ensures, c.added_of.ensures) refl

pub overflow_add-result : goal.overflow_add-result
overflow_add-result c = omega (arith, returns c, bound_at_lt c.args.s c.args.events (accepted_settings c.args.s c.requires.s_value).others (omega arith))
