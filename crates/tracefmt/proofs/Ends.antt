-- The end of the input: what is left of a line that has not ended is nothing, or one refused line.
use mathlib.Core.Path.{◌≡◌}
use mathlib.Core.Bool.{false}
use mathlib.Core.List.{List, [], ◌∷◌}
use Prim.Native.Nat.{ℕ}
use lib.Dec.{eqb}
use lib.ListN.{length}
use Rattle.device.specs.Refusal.{refused}
use Rattle.laws.proofs.Cases.{split}
use Rattle.trace.specs.Lines.{ended}
use Rattle.canonical.specs.Spelling.{answer_spelling}
use Rattle.trace.proofs.Texts.FirstLine.{outcomes_none, outcomes_unended}
use Rattle.tracefmt.specs.Rewriting.{Progress, next, writes, rewritten, passed, rewriting, after, end_of}

writes_refused : (g : Progress) → writes g (refused 11) ≡ []
unfolding writes answer_spelling
writes_refused g = split (eqb (next g (refused 11)).refusal 0) (λ q. rw q) (λ q. rw q)

pub rewriting_end : (g : Progress) (text : List ℕ) → ended text ≡ false → rewriting g text ≡ []
unfolding rewriting rewritten
rewriting_end g [] e = rw outcomes_none
rewriting_end g (b ∷ text) e = rw (outcomes_unended b text e, writes_refused g)

pub after_end : (g : Progress) (text : List ℕ) → ended text ≡ false → after g text ≡ end_of g (length text)
unfolding after passed end_of
after_end g [] e = rw outcomes_none
after_end g (b ∷ text) e = rw (outcomes_unended b text e)
