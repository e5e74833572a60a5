-- Case splits: on a test, on the order of two numbers and whether they are equal, on an option; and cases that cannot be.
use mathlib.Core.Path.{◌≡◌, refl, ◌∙◌, sym}
use mathlib.Core.Bool.{Bool, true, false, ◌&&◌, ◌||◌, cond}
use mathlib.Core.Logic.{◌⊎◌, inl, inr}
use mathlib.Core.Option.{Option, none, some}
use Prim.Native.Nat.{ℕ, ◌≤◌, ◌<◌}
use native.Mathlib.Omega.{arith}
use borrow.Author.Tests.{leb-true, leb-false, ltb-true, lt-ltb, eqb-true, eqb-false}
use lib.Dec.{leb, ltb, eqb}

pub split {ℓ} : {X : Type ℓ} (b : Bool) → (b ≡ true → X) → (b ≡ false → X) → X
split true f g = f refl
split false f g = g refl

pub le_or_lt : (a b : ℕ) → (a ≤ b) ⊎ (b < a)
le_or_lt a b = split (leb a b) (λ e. inl (leb-true a b e)) (λ e. inr (leb-false a b e))

pub same_or_other : (a b : ℕ) → (a ≡ b) ⊎ (a ≡ b → ⊥)
same_or_other a b = split (eqb a b) (λ e. inl (eqb-true a b e)) (λ e. inr (eqb-false a b e))

pub either {ℓ} : {X : Type ℓ} {A : Type 0} (o : Option A) → (o ≡ none → X) → ((a : A) → o ≡ some a → X) → X
either none f g = f refl
either (some a) f g = g a refl

-- zero is not one, true is not false, and nothing is not something
pub zero_one {ℓ} : {X : Type ℓ} → ◌≡◌ {A = ℕ} 0 1 → X
zero_one e = absurd (omega arith)

pub clash {ℓ} : {X : Type ℓ} → true ≡ false → X
clash e = zero_one (cc)

pub missing {ℓ} : {X : Type ℓ} {A : Type 0} {a : A} → none ≡ some a → X
missing e = zero_one (cc)

-- two comparisons of which each implies the other
pub tests_same : (a b c d : ℕ) → (a < b → c < d) → (c < d → a < b) → ltb a b ≡ ltb c d
tests_same a b c d f g =
    split (ltb a b)
    (λ on. on ∙ sym (lt-ltb c d (f (ltb-true a b on))))
    (λ off. split (ltb c d) (λ on. clash (sym (lt-ltb a b (g (ltb-true c d on))) ∙ off)) (λ off'. off ∙ sym off'))

-- two tests that both hold, and two of which neither does
pub and_both : (a b : Bool) → (a && b) ≡ true → (a ≡ true) × (b ≡ true)
and_both true b e = (refl, e)
and_both false b e = zero_one (cc)

pub or_neither : (a b : Bool) → (a || b) ≡ false → (a ≡ false) × (b ≡ false)
or_neither true b e = zero_one (cc)
or_neither false b e = (refl, e)

-- something found behind a test: the test held, and it was found there
pub cond_test : {A : Type 0} (b : Bool) (o : Option A) (a : A) → cond b o none ≡ some a → b ≡ true
cond_test true o a e = refl
cond_test false o a e = missing e

pub cond_some : {A : Type 0} (b : Bool) (o : Option A) (a : A) → cond b o none ≡ some a → o ≡ some a
cond_some true o a e = e
cond_some false o a e = missing e
