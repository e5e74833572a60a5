-- What the second pass has written behind the first answers.
use mathlib.Core.Path.{◌≡◌, refl, ap}
use mathlib.Core.List.{List, [], ◌++◌, append_assoc, append-nil}
use Prim.Native.Nat.{ℕ, ◌+◌, ◌≤◌, ◌<◌}
use native.Mathlib.Numerals.{add-one}
use native.Mathlib.Omega.{arith}
use lib.ListN.{length, get_or, drop, length-append}
use Rattle.std.proofs.Math.Seq.{drop-cons}
use Rattle.std.proofs.lemmas.List.{drop_all}
use Rattle.trace.specs.declared.Read.{Read}
use Rattle.trace.specs.Reading.{said}
use Rattle.columns.specs.Output.{Prints}
use Rattle.columns.proofs.Output.{prints_nothing, prints_long, prints_then}
use Rattle.canonical.specs.Spelling.{answer_spelling, spelling}
use Rattle.writer.specs.Answers.{outcome_of, outcomes_of}

abbrev spelled : Read → List ℕ
spelled y = answer_spelling (said y).outcome

abbrev spelled_behind : ℕ → List Read → List ℕ
spelled_behind k ys = spelling (outcomes_of (drop k ys))

-- the first k answers are written from a text's front on: with the others' spelling, theirs is that of all
pub record Printed (ys : List Read) (k : ℕ) (before now : List ℕ) (place : ℕ) : Type 0 where
  pub first : List ℕ
  pub prints : Prints before 0 first now place
  pub all : first ++ spelled_behind k ys ≡ spelling (outcomes_of ys)

pub printed_none : (ys : List Read) (text : List ℕ) → Printed ys 0 text text 0
printed_none ys text = record { first = []; prints = prints_nothing text 0 (omega arith); all = refl }

spelled_next : (ys : List Read) (k : ℕ) (d : Read) → k < length ys → spelled_behind k ys ≡ spelled (get_or ys k d) ++ spelled_behind (k + 1) ys
unfolding spelling outcomes_of outcome_of
spelled_next ys k d h = rw (add-one, drop-cons ys k d)

module _ {ys : List Read} {k : ℕ} {before now : List ℕ} {place : ℕ} (d : Read) (p : Printed ys k before now place) (more : k < length ys) where
  all_next : p.first ++ (spelled (get_or ys k d) ++ spelled_behind (k + 1) ys) ≡ spelling (outcomes_of ys)
  all_next = rw (← spelled_next ys k d more) p.all

  -- the next one fits where all fit, and is then among those written
  pub next_fits : length (spelling (outcomes_of ys)) ≤ length before → place + length (spelled (get_or ys k d)) ≤ length now
  next_fits room =
      let bytes = simp length-append at (ap length all_next) in
      omega (arith, bytes, prints_long p.prints, p.prints.behind)

  pub printed_next : {now' : List ℕ} {place' : ℕ} → Prints now place (spelled (get_or ys k d)) now' place' → Printed ys (k + 1) before now' place'
  printed_next q = record { first = p.first ++ spelled (get_or ys k d); prints = prints_then p.prints q; all = rw append_assoc all_next }

pub printed_all : {ys : List Read} {k : ℕ} {before now : List ℕ} {place : ℕ} → Printed ys k before now place → length ys ≤ k → Prints before 0 (spelling (outcomes_of ys)) now place
unfolding spelling outcomes_of
printed_all {ys} {k} p h =
    let all = rw (drop_all k ys h) at p.all in
    rw (← all, append-nil p.first) p.prints
