-- The rewriting of a trace, line by line: each line's spelling, until a line is faulty.
use Rattle.std.specs.Prelude.{ℕ, zero, suc, ◌+◌, ◌%◌, cond, List, [], ◌∷◌, ◌++◌, eqb, length}
use Rattle.std.proofs.Math.Option.{Option, none}
use Rattle.device.specs.Refusal.{Outcome, refused}
use Rattle.trace.specs.declared.Record.{Record}
use Rattle.trace.specs.Texts.{outcomes}
use Rattle.columns.specs.Output.{line_modulus, refusal_line}
use Rattle.canonical.specs.Spelling.{answer_spelling}
use Rattle.canonical.specs.Writing.{standing_behind, fault, first_fault, before_fault}

-- where a rewriting is: N of the settings last before, if any stand; a number of lines alike modulo 10,000,000,000 to those so far; and the refusal
-- of the line that stopped it, 0 while none did
pub record Progress : Type 0 where
  pub standing : Option ℕ
  pub count : ℕ
  pub refusal : ℕ

-- before the first line
unfoldable pub start : Progress
start = record { standing = none; count = 0; refusal = 0 }

-- behind a line with such a fault: 'at the first faulty line it stops'
unfoldable pub next_by : ℕ → Progress → Outcome Record → Progress
next_by zero g o = record { standing = standing_behind g.standing o; count = g.count % line_modulus + 1; refusal = 0 }
next_by (suc k) g o = record { standing = g.standing; count = g.count; refusal = suc k }

-- behind the next line; a rewriting that stopped stays where it is
unfoldable pub next : Progress → Outcome Record → Progress
next g o = cond (eqb g.refusal 0) (next_by (fault g.standing o) g o) g

-- what the next line writes: its spelling, unless the rewriting has stopped behind it
unfoldable pub writes : Progress → Outcome Record → List ℕ
writes g o = cond (eqb (next g o).refusal 0) (answer_spelling o) []

-- what lines write, one after another, and where the rewriting is behind them
unfoldable pub rewritten : Progress → List (Outcome Record) → List ℕ
rewritten g [] = []
rewritten g (o ∷ os) = writes g o ++ rewritten (next g o) os

unfoldable pub passed : Progress → List (Outcome Record) → Progress
passed g [] = g
passed g (o ∷ os) = passed (next g o) os

-- the same of a text
unfoldable pub rewriting : Progress → List ℕ → List ℕ
rewriting g text = rewritten g (outcomes text)

unfoldable pub after : Progress → List ℕ → Progress
after g text = passed g (outcomes text)

-- the end of the input, so many bytes of a line that has not ended being left: if there are any, it is a refused line
unfoldable pub end_of : Progress → ℕ → Progress
end_of g zero = g
end_of g (suc k) = next g (refused 11)

-- what is said on standard error where the rewriting has come to: of the line that stopped it, 'in the listing's own format'
unfoldable pub fault_line : Progress → List ℕ
fault_line g = cond (eqb g.refusal 0) [] (refusal_line (g.count % line_modulus + 1) g.refusal)

-- what is to be said of a list of answers: '`X`, the line's number and the refusal', of the first faulty one if there is one
unfoldable pub fault_said : List (Outcome Record) → List ℕ
fault_said os = cond (eqb (first_fault none os) 0) [] (refusal_line (suc (length (before_fault none os))) (first_fault none os))
