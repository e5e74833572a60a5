-- The claims of specs/Claims.antt, each under its own name.
use mathlib.Core.Path.{◌≡◌, refl, sym, ◌∙◌, ap, subst}
use mathlib.Core.Bool.{false}
use mathlib.Core.List.{List, [], ◌∷◌}
use mathlib.Core.Option.{none, some, some-injective}
use Prim.Native.Nat.{ℕ, suc, ◌-◌, ◌≤◌}
use native.Mathlib.Omega.{arith}
use borrow.Author.Tests.{eqb-true}
use lib.Dec.{eqb}
use lib.ListN.{take}
use Rattle.laws.specs.Same.{same}
use Rattle.laws.proofs.Cases.{split, clash, zero_one, missing}
use Rattle.laws.proofs.Same.{same_alike, alike_same}
use Rattle.trace.specs.Texts.{lines, whole}
use Rattle.steps.specs.Steps.{start}
use Rattle.listing.specs.Texts.{listing}
use Rattle.listing.proofs.Texts.{listing_whole}
use Rattle.checker.specs.Comparison.{counted}
use Rattle.checker.specs.Departure.{departure_from, departing, departure}
use Rattle.checker.specs.Claims.{PassesExactly, FirstDeparting, UnendedDeparts}
use Rattle.checker.proofs.Comparison.{cons_alike, departing_alike, departing_other, departing_missing, departing_surplus, departing_none}

-- texts without a line that departs are the same
none_departs : (n : ℕ) (required given : List ℕ) → departing n required given ≡ none → given ≡ required
none_departs n [] [] e = refl
none_departs n [] (y ∷ ys) e = missing (sym e ∙ departing_surplus n y ys)
none_departs n (x ∷ xs) [] e = missing (sym e ∙ departing_missing n x xs)
none_departs n (x ∷ xs) (y ∷ ys) e =
    split (eqb x y)
    (λ on.
    let alike : x ≡ y = eqb-true x y on in
    let rest : ys ≡ xs = none_departs (counted n x) xs ys (sym (departing_alike n x xs ys) ∙ ap (λ (z : ℕ). departing n (x ∷ xs) (z ∷ ys)) alike ∙ e) in
    rw (alike, rest))
    (λ off. missing (sym e ∙ departing_other n x y xs ys off))

alike_passes : (n : ℕ) (text : List ℕ) → departing n text text ≡ none
alike_passes n [] = departing_none n
alike_passes n (x ∷ xs) = departing_alike n x xs xs ∙ alike_passes (counted n x) xs

pub passes_exactly : PassesExactly
unfolding PassesExactly departure
passes_exactly trace given =
    (none_departs 0 (listing start trace) given, λ e. ap (departing 0 (listing start trace)) e ∙ alike_passes 0 (listing start trace))

other_lines : (l m : List ℕ) → same l m ≡ false → l ≡ m → ⊥
other_lines l m off e = clash (sym (alike_same l) ∙ ap (same l) e ∙ off)

-- the first line that departs, among lines from a number on
record First (ls ms : List (List ℕ)) (from number : ℕ) : Type 0 where
  onward : from ≤ number
  before : take (number - from) ls ≡ take (number - from) ms
  here : take (suc (number - from)) ls ≡ take (suc (number - from)) ms → ⊥

first_here : (ls ms : List (List ℕ)) (from number : ℕ) → from ≡ number → (take 1 ls ≡ take 1 ms → ⊥) → First ls ms from number
first_here ls ms from number e other =
    let none_before : number - from ≡ 0 = omega arith in
    record { onward = omega arith; before = rw none_before; here = λ alike. other (rw none_before at alike) }

first_on : (l m : List ℕ) (ls ms : List (List ℕ)) (from number : ℕ) → l ≡ m → First ls ms (suc from) number → First (l ∷ ls) (m ∷ ms) from number
first_on l m ls ms from number e f =
    let further : number - from ≡ suc (number - suc from) = omega (arith, f.onward) in
    record {
      onward = omega (arith, f.onward);
      before = rw (further, e, f.before);
      here = λ alike. f.here (cons_alike (rw further at alike)).1;
    }

first_departs : (from : ℕ) (ls ms : List (List ℕ)) (number : ℕ) → departure_from from ls ms ≡ some number → First ls ms from number
unfolding departure_from
first_departs from [] [] number e = missing e
first_departs from [] (m ∷ ms) number e = first_here [] (m ∷ ms) from number (some-injective from number e) (λ alike. zero_one (cc))
first_departs from (l ∷ ls) [] number e = first_here (l ∷ ls) [] from number (some-injective from number e) (λ alike. zero_one (cc))
first_departs from (l ∷ ls) (m ∷ ms) number e =
    split (same l m)
    (λ on. first_on l m ls ms from number (same_alike l m on) (first_departs (suc from) ls ms number (rw on at e)))
    (λ off. first_here (l ∷ ls) (m ∷ ms) from number (some-injective from number (rw off at e)) (λ alike. other_lines l m off (cons_alike alike).0))

pub first_departing : FirstDeparting
unfolding FirstDeparting departure departing
first_departing trace given number e =
    let required = lines (listing start trace) in
    let f = first_departs 1 required (lines given) number e in
    let next : suc (number - 1) ≡ number = omega (arith, f.onward) in
    (omega (arith, f.onward), f.before, λ alike. f.here (subst (λ (n : ℕ). take n required ≡ take n (lines given)) (sym next) alike))

pub unended_departs : UnendedDeparts
unfolding UnendedDeparts PassesExactly
unended_departs trace given unended passes =
    clash (sym (listing_whole start trace) ∙ ap whole (sym ((passes_exactly trace given).0 passes)) ∙ unended)
