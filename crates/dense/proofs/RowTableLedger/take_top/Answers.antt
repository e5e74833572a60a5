-- `dense::RowTable` has the first row of the highest count taken out.
use mathlib.Core.Path.{refl}
use native.Mathlib.Omega.{arith}
use Rattle.dense.proofs.Keeping.{top_picked, top_inside, top_dropped, none_picked, none_dropped}
use Rattle.dense.proofs.RowTableLedger.take_top.Goals as goal

pub returns-then-self-eq0-clause-row : goal.returns-then-self-eq0-clause-row
returns-then-self-eq0-clause-row c = none_picked c.requires c.if-self-eq0.true

pub returns-then-self-eq0-clause-turned : goal.returns-then-self-eq0-clause-turned
returns-then-self-eq0-clause-turned c =
    record { keeps = c.requires; holds = none_dropped c.requires c.if-self-eq0.true; as_many = refl; one_bank = refl; one_memory = (refl, refl, refl) }

pub drop_row-requires : goal.drop_row-requires
drop_row-requires c =
    let b = c.requires in
    let top = c.top_row-row.ensures in (
      rw top.3 (record { kept = b.kept; capped = top.2; inside = b.inside; most = b.most; fits = b.fits }),
      top_inside b (omega (arith, c.if-self-eq0.false)) top.0,
    )

pub returns-clause-row : goal.returns-clause-row
returns-clause-row c = top_picked c.requires (omega (arith, c.if-self-eq0.false)) c.top_row-row.ensures.0

pub returns-clause-turned : goal.returns-clause-turned
returns-clause-turned c =
    let top = c.top_row-row.ensures in
    let x = c.drop_row.ensures in
    record {
      keeps = x.keeps;
      holds = top_dropped c.requires (omega (arith, c.if-self-eq0.false)) top.0 x.holds top.3;
      as_many = x.as_many;
      one_bank = x.one_bank;
      one_memory = x.one_memory;
    }
