-- Refusals: an answer behind the tests stands where they say 0 and is refused with their number where they do not; tests behind others.
use mathlib.Core.Path.{◌≡◌, refl, sym}
use mathlib.Core.Bool.{Bool, true, false, not}
use Prim.Native.Nat.{ℕ, zero, suc, ◌≤◌}
use native.Mathlib.Omega.{arith}
use Rattle.device.specs.declared.refusal.Refusal.{Refusal}
use Rattle.device.specs.declared.refusal.Refusal.TheVariants.{Rows, BlastDiameter, Volume, Counters, Interval, Window, Block, Tables, Row, Picks, Line, NoCount, Room, Remap, Hold, State, IntervalFull}
use Rattle.device.specs.Refusal.{Outcome, refused, tested, refuse, number}

pub tested_passed : {A : Type 0} {k : ℕ} (answer : Outcome A) → k ≡ 0 → tested k answer ≡ answer
unfolding tested
tested_passed answer e = rw e

pub tested_failed : {A : Type 0} (k : ℕ) (answer : Outcome A) → (k ≡ 0 → ⊥) → tested k answer ≡ refused k
unfolding tested
tested_failed zero answer h = absurd (h refl)
tested_failed (suc k) answer h = refl

-- a test that is not the last word: it passed, and so did the later ones
pub refuse_passed : (allowed : Bool) (k later : ℕ) → refuse (not allowed) (suc k) later ≡ 0 → (allowed ≡ true) × (later ≡ 0)
unfolding refuse
refuse_passed true k later e = (refl, e)
refuse_passed false k later e = absurd (omega arith)

-- a test that failed decides
pub refuse_failed : (allowed : Bool) (k later : ℕ) → allowed ≡ false → refuse (not allowed) k later ≡ k
unfolding refuse
refuse_failed allowed k later e = rw e

pub refuse_le : (failed : Bool) (k : ℕ) {later most : ℕ} → k ≤ most → later ≤ most → refuse failed k later ≤ most
unfolding refuse
refuse_le true k h later = h
refuse_le false k h later = later

-- a refusal, or where there is none what later tests say
unfoldable pub or_later : ℕ → ℕ → ℕ
or_later zero later = later
or_later (suc k) later = suc k

-- a refusal that was given stands
pub or_later_first : (k later : ℕ) → (k ≡ 0 → ⊥) → k ≡ or_later k later
unfolding or_later
or_later_first zero later h = absurd (h refl)
or_later_first (suc k) later h = refl

pub or_later_zero : (k later : ℕ) → k ≡ 0 → or_later k later ≡ later
unfolding or_later
or_later_zero k later e = rw e

-- neither a refusal nor a later one
pub or_later_none : (k later : ℕ) → or_later k later ≡ 0 → (k ≡ 0) × (later ≡ 0)
unfolding or_later
or_later_none zero later e = (refl, e)
or_later_none (suc k) later e = absurd (omega arith)

pub or_later_le : (k : ℕ) {later most : ℕ} → k ≤ most → later ≤ most → or_later k later ≤ most
unfolding or_later
or_later_le zero h later = later
or_later_le (suc k) h later = h

pub or_later_assoc : (k l later : ℕ) → or_later k (or_later l later) ≡ or_later (or_later k l) later
unfolding or_later
or_later_assoc zero l later = refl
or_later_assoc (suc k) l later = refl

-- a test between others, taken as the last of those before
pub later_test : (k : ℕ) (allowed : Bool) (number later : ℕ) → or_later k (refuse (not allowed) (suc number) later) ≡ or_later (or_later k (refuse (not allowed) (suc number) 0)) later
unfolding or_later refuse
later_test zero true number later = refl
later_test zero false number later = refl
later_test (suc k) allowed number later = refl

pub later_refuse : (failed : Bool) (k l later : ℕ) → or_later (refuse failed (suc k) l) later ≡ refuse failed (suc k) (or_later l later)
unfolding refuse or_later
later_refuse true k l later = refl
later_refuse false k l later = refl

-- no refusal has the number 0
pub number_not_0 : (r : Refusal) → number r ≡ 0 → ⊥
number_not_0 Rows e = omega arith
number_not_0 BlastDiameter e = omega arith
number_not_0 Volume e = omega arith
number_not_0 Counters e = omega arith
number_not_0 Interval e = omega arith
number_not_0 Window e = omega arith
number_not_0 Block e = omega arith
number_not_0 Tables e = omega arith
number_not_0 Row e = omega arith
number_not_0 Picks e = omega arith
number_not_0 Line e = omega arith
number_not_0 NoCount e = omega arith
number_not_0 Room e = omega arith
number_not_0 Remap e = omega arith
number_not_0 Hold e = omega arith
number_not_0 State e = omega arith
number_not_0 IntervalFull e = omega arith

-- what tests came to decides an answer: refused with their number, or what it is where they passed
pub outcome_refused : {B : Type 0} {k : ℕ} (r : Refusal) (answer : Outcome B) → number r ≡ k → refused (number r) ≡ tested k answer
outcome_refused r answer e = rw (sym e) (sym (tested_failed (number r) answer (number_not_0 r)))

pub outcome_accepted : {B : Type 0} {k : ℕ} (answer : Outcome B) → 0 ≡ k → answer ≡ tested k answer
outcome_accepted answer e = rw (sym e) (sym (tested_passed answer refl))
