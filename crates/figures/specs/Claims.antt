-- What is claimed of the tables of figures. proofs/Claims.antt proves each under the same name.
use Rattle.std.specs.Prelude.{◌≡◌}
use mathlib.Core.List.{List, Memᴰ}
use Rattle.figures.specs.Table.{Figure, figures}
use Rattle.figures.specs.Edges.{edges}
use Rattle.figures.specs.Spellings.{spellings}
use Rattle.figures.specs.Remaps.{remaps}
use Rattle.figures.specs.Holds.{holds}
use Rattle.figures.specs.ByRow.{by_row}
use Rattle.figures.specs.Agreements.{agreements}
use Rattle.figures.specs.Disturbances.{disturbances}

-- every figure of a table is what the definitions give
unfoldable pub TableHolds : List Figure → Type 0
TableHolds table = (f : Figure) → Memᴰ f table → f.defined ≡ f.given

-- 'the starred figures are proved from the definitions as one table with a shared theorem'
unfoldable pub FiguresHold : Type 0
FiguresHold = TableHolds figures

-- so are the edges of the tracker's calls
unfoldable pub EdgesHold : Type 0
EdgesHold = TableHolds edges

-- and the figures of the trace writer
unfoldable pub SpellingsHold : Type 0
SpellingsHold = TableHolds spellings

-- and those of loaded remaps
unfoldable pub RemapsHold : Type 0
RemapsHold = TableHolds remaps

-- and those of rows held open
unfoldable pub HoldsHold : Type 0
HoldsHold = TableHolds holds

-- and those of single rows
unfoldable pub RowsHold : Type 0
RowsHold = TableHolds by_row

-- and those of agreement
unfoldable pub AgreementsHold : Type 0
AgreementsHold = TableHolds agreements

-- and those of the exact disturbance, of departures and of the silicon
unfoldable pub DisturbancesHold : Type 0
DisturbancesHold = TableHolds disturbances
