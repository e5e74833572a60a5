-- What lines write and where they leave the rewriting, by the first faulty one: before it every line is spelled, and at it the rewriting stops.
use mathlib.Core.Path.{◌≡◌, refl, ap, ◌∙◌}
use mathlib.Core.Bool.{true, false, cond}
use mathlib.Core.List.{List, [], ◌∷◌}
use Prim.Native.Nat.{ℕ, zero, suc, ◌+◌, ◌%◌}
use native.Mathlib.Omega.{arith}
use borrow.Author.Tests.{eqb-true}
use lib.Dec.{eqb}
use lib.ListN.{length}
use Rattle.device.specs.Refusal.{Outcome}
use Rattle.laws.proofs.Cases.{split, clash}
use Rattle.trace.specs.declared.Record.{Record}
use Rattle.trace.specs.Texts.{outcomes}
use Rattle.canonical.specs.Spelling.{answer_spelling, spelling}
use Rattle.canonical.specs.Writing.{standing_behind, fault, first_fault_to, first_fault, before_fault_to, before_fault}
use Rattle.tracefmt.specs.Rewriting.{Progress, next_by, next, writes, rewritten, passed, rewriting, after}

-- a rewriting that stopped stays and writes nothing
module _ (g : Progress) (stopped : eqb g.refusal 0 ≡ false) where
  next_stopped : (o : Outcome Record) → next g o ≡ g
  unfolding next
  next_stopped o = rw stopped

  writes_stopped : (o : Outcome Record) → writes g o ≡ []
  unfolding writes
  writes_stopped o = rw (next_stopped o, stopped)

  passed_stopped : (os : List (Outcome Record)) → passed g os ≡ g
  unfolding passed
  passed_stopped [] = refl
  passed_stopped (o ∷ os) = rw (next_stopped o) (passed_stopped os)

  rewritten_stopped : (os : List (Outcome Record)) → rewritten g os ≡ []
  unfolding rewritten
  rewritten_stopped [] = refl
  rewritten_stopped (o ∷ os) = rw (writes_stopped o, next_stopped o) (rewritten_stopped os)

  pub after_stopped : (text : List ℕ) → after g text ≡ g
  unfolding after
  after_stopped text = passed_stopped (outcomes text)

  pub rewriting_stopped : (text : List ℕ) → rewriting g text ≡ []
  unfolding rewriting
  rewriting_stopped text = rewritten_stopped (outcomes text)

-- where a rewriting is behind a line without a fault, and at one with it
unfoldable pub gone_on : Progress → Outcome Record → Progress
gone_on g o = record { standing = standing_behind g.standing o; count = g.count % 10000000000 + 1; refusal = 0 }

unfoldable pub stopped_by : Progress → ℕ → Progress
stopped_by g k = record { standing = g.standing; count = g.count; refusal = k }

next_by_faultless : (k : ℕ) (g : Progress) (o : Outcome Record) → eqb k 0 ≡ true → next_by k g o ≡ gone_on g o
unfolding next_by gone_on
next_by_faultless zero g o h = refl
next_by_faultless (suc k) g o h = absurd (omega (arith, eqb-true (suc k) 0 h))

next_by_faulty : (k : ℕ) (g : Progress) (o : Outcome Record) → eqb k 0 ≡ false → next_by k g o ≡ stopped_by g k
unfolding next_by stopped_by
next_by_faulty zero g o h = clash h
next_by_faulty (suc k) g o h = refl

-- the next line of a rewriting that has not stopped
module _ (g : Progress) (o : Outcome Record) (on : g.refusal ≡ 0) where
  next_on : next g o ≡ next_by (fault g.standing o) g o
  unfolding next
  next_on = ap (λ (k : ℕ). cond (eqb k 0) (next_by (fault g.standing o) g o) g) on

  pub next_faultless : eqb (fault g.standing o) 0 ≡ true → next g o ≡ gone_on g o
  next_faultless q = next_on ∙ next_by_faultless (fault g.standing o) g o q

  pub next_faulty : eqb (fault g.standing o) 0 ≡ false → next g o ≡ stopped_by g (fault g.standing o)
  next_faulty q = next_on ∙ next_by_faulty (fault g.standing o) g o q

-- what a line writes, by where the rewriting is behind it
writes_to : {p : Progress} (g : Progress) (o : Outcome Record) → next g o ≡ p → writes g o ≡ cond (eqb p.refusal 0) (answer_spelling o) []
unfolding writes
writes_to g o e = rw e

pub rewritten_before : (g : Progress) (os : List (Outcome Record)) → g.refusal ≡ 0 → rewritten g os ≡ spelling (before_fault g.standing os)
unfolding rewritten spelling before_fault_to gone_on stopped_by
rewritten_before g [] on = refl
rewritten_before g (o ∷ os) on =
    split (eqb (fault g.standing o) 0)
    (λ q.
    let behind = next_faultless g o on q in
    rw (q, writes_to g o behind, behind, rewritten_before (gone_on g o) os refl))
    (λ q.
    let behind = next_faulty g o on q in
    rw (q, writes_to g o behind, behind, q, rewritten_stopped (stopped_by g (fault g.standing o)) q os))

-- the refusal at the first faulty line, and the lines counted before it
pub passed_fault : (g : Progress) (os : List (Outcome Record)) → g.refusal ≡ 0 → (passed g os).refusal ≡ first_fault g.standing os
unfolding passed first_fault_to gone_on stopped_by
passed_fault g [] on = on
passed_fault g (o ∷ os) on =
    split (eqb (fault g.standing o) 0)
    (λ q. rw q (ap (λ (p : Progress). (passed p os).refusal) (next_faultless g o on q) ∙ passed_fault (gone_on g o) os refl))
    (λ q.
    rw q
    (ap (λ (p : Progress). (passed p os).refusal) (next_faulty g o on q) ∙
    ap (λ (p : Progress). p.refusal) (passed_stopped (stopped_by g (fault g.standing o)) q os)))

pub passed_count : (g : Progress) (os : List (Outcome Record)) → g.refusal ≡ 0 → eqb (first_fault g.standing os) 0 ≡ false
    → (passed g os).count % 10000000000 ≡ (g.count + length (before_fault g.standing os)) % 10000000000
unfolding passed first_fault_to before_fault_to gone_on stopped_by
passed_count g [] on h = clash h
passed_count g (o ∷ os) on h =
    split (eqb (fault g.standing o) 0)
    (λ q.
    let behind = passed_count (gone_on g o) os refl (rw q at h) in
    let here = ap (λ (p : Progress). (passed p os).count) (next_faultless g o on q) in
    rw q (omega (arith, here, behind)))
    (λ q.
    let here = ap (λ (p : Progress). (passed p os).count) (next_faulty g o on q) in
    let stays = ap (λ (p : Progress). p.count) (passed_stopped (stopped_by g (fault g.standing o)) q os) in
    rw q (omega (arith, here, stays)))
