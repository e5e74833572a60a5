-- `aids::bounds::try_top` meets its contract. At each of its three ends one law says what the try came to.
use Rattle.aids.proofs.BoundsTried.{try_group, try_block, try_row}
use Rattle.aids.proofs.bounds.try_top.Goals as goal

pub returns-then-bound-bounds : goal.returns-then-bound-bounds
returns-then-bound-bounds c =
    let group = c.first_highest-g in
    let block = c.first_highest-b in
    try_group c.requires.0 c.requires.1 group.result block.result group.ensures block.ensures c.if-bound-bounds.true

pub returns-then-count-bound : goal.returns-then-count-bound
returns-then-count-bound c =
    let group = c.first_highest-g in
    let block = c.first_highest-b in
    let row = c.first_highest-row in
    try_block c.requires.1 group.result block.result row.result group.ensures block.ensures row.ensures c.if-count-bound.true

pub returns : goal.returns
returns c =
    let group = c.first_highest-g in
    let block = c.first_highest-b in
    let row = c.first_highest-row in
    try_row c.requires.1 group.result block.result row.result group.ensures block.ensures row.ensures c.if-bound-bounds.false c.if-count-bound.false
