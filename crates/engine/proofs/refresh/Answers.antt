-- `engine::refresh` meets its contract: a bank's rows ascend.
use Rattle.dense.specs.Facts.{bank_ordered}
use Rattle.engine.proofs.refresh.Goals as goal

pub refresh-count-requires-clause-room_for : goal.refresh-count-requires-clause-room_for
refresh-count-requires-clause-room_for c = (c.requires.ranges.1, bank_ordered c.requires.holds)
