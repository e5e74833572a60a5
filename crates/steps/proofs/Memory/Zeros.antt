-- Tables of zeros: no row is marked there, and they are a listing's before its first line.
use mathlib.Core.Path.{◌≡◌, sym, ap, ◌∙◌}
use mathlib.Core.Logic.{⊎_elim}
use mathlib.Core.List.{List}
use Prim.Native.Nat.{ℕ}
use lib.ListN.{length, get_or, replicate, length-replicate, get_or-replicate, get_or-eq_default}
use Rattle.laws.proofs.Cases.{le_or_lt, clash}
use Rattle.device.specs.Acceptance.{most_rows}
use Rattle.aids.specs.Marks.{all_words, Marked, EmptyFrom}
use Rattle.aids.specs.Bounds.{all_bounds}
use Rattle.aids.proofs.Emptied.{unmarked}
use Rattle.steps.specs.Memory.{start_place, Banked}

zero_everywhere : {counts : List ℕ} (n : ℕ) → counts ≡ replicate n 0 → EmptyFrom counts 0
zero_everywhere {counts} n e =
    record {
      zero_at = λ i h.
          ap (λ (xs : List ℕ). get_or xs i 0) e ∙
          ⊎_elim
          (λ outside. get_or-eq_default (replicate n 0) 0 (rw (length-replicate {A = ℕ} n 0) outside))
          (λ inside. get_or-replicate {A = ℕ} n i 0 0 inside)
          (le_or_lt n i);
    }

pub zeros_marked : {counts marks : List ℕ} (n : ℕ) → n ≡ most_rows → counts ≡ replicate n 0 → marks ≡ replicate all_words 0 → Marked counts marks
zeros_marked n long e f = unmarked (ap length e ∙ length-replicate {A = ℕ} n 0 ∙ long) (zero_everywhere n e) f

-- tables in which no row has a count, before the first turn
pub banked_start : {counts marks bounds : List ℕ} → Marked counts marks → length bounds ≡ all_bounds → Banked start_place counts marks bounds
unfolding start_place
banked_start marked long = record { marked = marked; bounds_long = long; bank = λ on. clash (sym on) }
