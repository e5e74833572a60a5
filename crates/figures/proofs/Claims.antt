-- The claims of specs/Claims.antt, each under its own name.
use Rattle.figures.specs.Table.{figures}
use Rattle.figures.specs.Edges.{edges}
use Rattle.figures.specs.Spellings.{spellings}
use Rattle.figures.specs.Remaps.{remaps}
use Rattle.figures.specs.Holds.{holds}
use Rattle.figures.specs.ByRow.{by_row}
use Rattle.figures.specs.Agreements.{agreements}
use Rattle.figures.specs.Disturbances.{disturbances}
use Rattle.figures.specs.Claims.{FiguresHold, EdgesHold, SpellingsHold, RemapsHold, HoldsHold, RowsHold, AgreementsHold, DisturbancesHold}
use Rattle.figures.proofs.Tests.{holds_every}
use Rattle.figures.proofs.Table.{figures_pass}
use Rattle.figures.proofs.Edges.{edges_pass}
use Rattle.figures.proofs.Spellings.{spellings_pass}
use Rattle.figures.proofs.Remaps.{remaps_pass}
use Rattle.figures.proofs.Holds.{holds_pass}
use Rattle.figures.proofs.ByRow.{by_row_pass}
use Rattle.figures.proofs.Agreements.{agreements_pass}
use Rattle.figures.proofs.Disturbances.{disturbances_pass}

pub figures_hold : FiguresHold
unfolding FiguresHold
figures_hold = holds_every figures figures_pass

pub edges_hold : EdgesHold
unfolding EdgesHold
edges_hold = holds_every edges edges_pass

pub spellings_hold : SpellingsHold
unfolding SpellingsHold
spellings_hold = holds_every spellings spellings_pass

pub remaps_hold : RemapsHold
unfolding RemapsHold
remaps_hold = holds_every remaps remaps_pass

pub holds_hold : HoldsHold
unfolding HoldsHold
holds_hold = holds_every holds holds_pass

pub rows_hold : RowsHold
unfolding RowsHold
rows_hold = holds_every by_row by_row_pass

pub agreements_hold : AgreementsHold
unfolding AgreementsHold
agreements_hold = holds_every agreements agreements_pass

pub disturbances_hold : DisturbancesHold
unfolding DisturbancesHold
disturbances_hold = holds_every disturbances disturbances_pass
