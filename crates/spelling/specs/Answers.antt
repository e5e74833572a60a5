-- The settings last before an answer, as the code holds them: their N, if any stand.
use Rattle.std.specs.Prelude.{ℕ, Option as Maybe, Some, None}
use Rattle.std.proofs.Math.Option.{Option, none, some}
use Rattle.device.specs.Refusal.{Outcome, accepted, refused}
use Rattle.trace.specs.declared.Record.{Record}
use Rattle.trace.specs.declared.Record.TheVariants.{Set, Remap, Activate, Refresh, Blank}

-- the N of the settings that stand
unfoldable pub standing_of : Maybe ℕ → Option ℕ
standing_of (Some rows) = some rows
standing_of None = none

-- that behind an answer
unfoldable pub stood : Maybe ℕ → Outcome Record → Maybe ℕ
stood rows (accepted (Set t)) = Some t.rows
stood rows (accepted (Remap t)) = rows
stood rows (accepted (Activate row hold)) = rows
stood rows (accepted Refresh) = rows
stood rows (accepted Blank) = rows
stood rows (refused k) = rows
