-- `tracefmt::rewrite_part` meets its contract. The invariant: the lines before `at` are rewritten.
use Prim.Native.Nat.{◌-◌}
use lib.ListN.{length}
use Rattle.tracefmt.specs.Turns.{progress_of}
use Rattle.tracefmt.proofs.Lines.{Taken}
use Rattle.tracefmt.proofs.rewrite_part.Given as goal

abbrev pub invariant-lines : goal.invariant-lines
invariant-lines l = Taken (progress_of l.initial.place) l.text l.initial.out (progress_of l.place) l.out l.at l.end

abbrev pub decreases-lines : goal.decreases-lines
decreases-lines l = length l.text - l.at
