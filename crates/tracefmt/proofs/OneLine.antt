-- One line, or the input's end: where the rewriting is behind it, and what it writes, by the fault that was found.
use mathlib.Core.Path.{◌≡◌, refl, sym, ap}
use mathlib.Core.Bool.{true, false}
use mathlib.Core.List.{List}
use Prim.Native.Nat.{ℕ, zero, suc, ◌+◌, ◌%◌, ◌≤◌}
use borrow.Author.Tests.{eq-eqb, ne_eqb}
use lib.Dec.{eqb}
use lib.ListN.{length}
use Rattle.laws.proofs.Cases.{clash}
use Rattle.columns.specs.Output.{Prints}
use Rattle.columns.proofs.Output.{prints_nothing}
use Rattle.std.specs.Prelude.{Option as Maybe, Some, None, is_some}
use Rattle.device.specs.declared.refusal.Refusal.{Refusal}
use Rattle.device.specs.Refusal.{Outcome, refused, number}
use Rattle.device.proofs.Tests.{number_not_0}
use Rattle.trace.specs.declared.Record.{Record}
use Rattle.trace.specs.declared.Read.{Read}
use Rattle.trace.specs.Reading.{Reading, said}
use Rattle.canonical.specs.Spelling.{answer_spelling}
use Rattle.canonical.specs.Writing.{fault}
use Rattle.spelling.specs.Answers.{standing_of, stood}
use Rattle.spelling.proofs.StandingLaws.{standing_stood}
use Rattle.tracefmt.specs.declared.Place.{Place}
use Rattle.tracefmt.specs.Rewriting.{Progress, next, writes, end_of}
use Rattle.tracefmt.specs.Turns.{refusal_of, progress_of}
use Rattle.tracefmt.proofs.Faults.{gone_on, stopped_by, next_faultless, next_faulty}

pub place_read : (answer : Read) (r : Reading) → said answer ≡ r → answer.place ≡ r.place
unfolding said
place_read answer r e = ap (λ (read : Reading). read.place) e

pub faulty : (r : Refusal) → eqb (number r) 0 ≡ false
faulty r = ne_eqb (number r) 0 (number_not_0 r)

pub refusal_some : (r : Maybe Refusal) → true ≡ is_some r → eqb (refusal_of r) 0 ≡ false
unfolding refusal_of
refusal_some (Some r) e = faulty r
refusal_some None e = clash e

pub refusal_none : (r : Maybe Refusal) → false ≡ is_some r → refusal_of r ≡ 0
unfolding refusal_of
refusal_none (Some r) e = clash (sym e)
refusal_none None e = refl

module _ (p : Place) (answer : Read) where
  -- the rewriting had stopped
  pub place_stopped : true ≡ is_some p.refusal → progress_of p ≡ next (progress_of p) (said answer).outcome
  unfolding progress_of next
  place_stopped e = rw (refusal_some p.refusal e)

  -- the line is faulty
  pub place_faulty : (r : Refusal) → false ≡ is_some p.refusal → number r ≡ fault (standing_of p.rows) (said answer).outcome
      → progress_of (record { rows = p.rows; lines = p.lines; refusal = Some r }) ≡ next (progress_of p) (said answer).outcome
  unfolding progress_of refusal_of stopped_by
  place_faulty r e f = rw f (sym (next_faulty (progress_of p) (said answer).outcome (refusal_none p.refusal e) (rw (← f) (faulty r))))

  -- it is not
  pub place_sound : (rows : Maybe ℕ) → false ≡ is_some p.refusal → 0 ≡ fault (standing_of p.rows) (said answer).outcome → rows ≡ stood p.rows (said answer).outcome
      → progress_of (record { rows = rows; lines = p.lines % 10000000000 + 1; refusal = None }) ≡ next (progress_of p) (said answer).outcome
  unfolding progress_of refusal_of gone_on
  place_sound rows e f s =
      rw (s, standing_stood p.rows (said answer).outcome)
      (sym (next_faultless (progress_of p) (said answer).outcome (refusal_none p.refusal e) (eq-eqb _ _ (sym f))))

module _ (g : Progress) (o : Outcome Record) (p : Place) {out : List ℕ} {at : ℕ} (behind : progress_of p ≡ next g o) where
  -- a line that stopped the rewriting, or came behind one, writes nothing
  pub line_stopped : true ≡ is_some p.refusal → at ≤ length out → Prints out at (writes g o) out at
  unfolding writes progress_of
  line_stopped e h = rw (← behind, refusal_some p.refusal e) (prints_nothing out at h)

  pub line_spelled : {out' : List ℕ} {end : ℕ} → false ≡ is_some p.refusal → Prints out at (answer_spelling o) out' end → Prints out at (writes g o) out' end
  unfolding writes progress_of
  line_spelled e printed = rw (← behind, refusal_none p.refusal e) printed

-- the input's end
pub end_none : (p : Place) (kept : ℕ) → kept ≡ 0 → progress_of p ≡ end_of (progress_of p) kept
unfolding end_of
end_none p kept e = rw e

pub end_some : (p r : Place) (kept : ℕ) → (kept ≡ 0 → ⊥) → progress_of r ≡ next (progress_of p) (refused 11) → progress_of r ≡ end_of (progress_of p) kept
unfolding end_of
end_some p r zero h e = absurd (h refl)
end_some p r (suc k) h e = e
