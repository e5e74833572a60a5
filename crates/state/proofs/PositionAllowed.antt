-- `position_allowed`: from the tests of a position to facts, and back.
use mathlib.Core.Path.{◌≡◌}
use mathlib.Core.Bool.{true}
use Prim.Native.Nat.{◌≤◌, ◌<◌}
use borrow.Author.Tests.{ltb-true, leb-true, lt-ltb, le-leb}
use lib.Dec.{leb, ltb}
use Rattle.laws.proofs.Cases.{and_both}
use Rattle.device.specs.declared.Settings.{Settings}
use Rattle.state.specs.declared.Position.{Position}
use Rattle.state.specs.State.{position_allowed, most_count}

-- what the tests of a position say
pub record PositionFacts (s : Settings) (p : Position) : Type 0 where
  pub early : p.events < s.window
  pub within : p.activations ≤ s.interval
  pub fits : p.tracked ≤ s.counters
  pub spillover_le : p.spillover ≤ most_count

pub position_facts : (s : Settings) (p : Position) → position_allowed s p ≡ true → PositionFacts s p
position_facts s p e =
    let p3 = and_both _ (leb p.spillover most_count) e in
    let p2 = and_both _ (leb p.tracked s.counters) p3.0 in
    let p1 = and_both (ltb p.events s.window) (leb p.activations s.interval) p2.0 in
    record {
      early = ltb-true p.events s.window p1.0;
      within = leb-true p.activations s.interval p1.1;
      fits = leb-true p.tracked s.counters p2.1;
      spillover_le = leb-true p.spillover most_count p3.1;
    }

-- and the other way round
pub facts_position : (s : Settings) (p : Position) → PositionFacts s p → position_allowed s p ≡ true
facts_position s p q =
    rw (
      lt-ltb p.events s.window q.early,
      le-leb p.activations s.interval q.within,
      le-leb p.tracked s.counters q.fits,
    )
    (le-leb p.spillover most_count q.spillover_le)
