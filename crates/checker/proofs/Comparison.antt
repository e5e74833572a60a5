-- A comparison byte by byte finds the first line that departs.
use mathlib.Core.Path.{◌≡◌, refl, sym, ◌∙◌, ap}
use mathlib.Core.Bool.{Bool, true, false, cond}
use Rattle.std.specs.Prelude.{Result, Ok, Err}
use mathlib.Core.List.{List, [], ◌∷◌, ◌++◌}
use mathlib.Core.Option.{Option, none, some}
use Prim.Native.Nat.{ℕ, suc, ◌+◌, ◌≤◌, ◌<◌}
use native.Mathlib.Nat.{add-zero}
use native.Mathlib.Numerals.{add-one}
use native.Mathlib.Omega.{arith}
use borrow.Author.Tests.{eqb-true, eq-eqb}
use lib.Dec.{eqb}
use lib.ListN.{length, get_or, take, drop}
use lib.Seq.{drop-cons}
use mir.Val.{bool_byte}
use Rattle.laws.specs.Same.{same}
use Rattle.laws.proofs.Cases.{split}
use Rattle.trace.specs.Texts.{in_front, lines}
use Rattle.checker.specs.Departure.{departure_from, departing}
use Rattle.checker.specs.Comparison.{counted, compared}

-- the first line of a text begins with its first byte
record Begins (b : ℕ) (bs : List ℕ) : Type 0 where
  rest : List ℕ
  others : List (List ℕ)
  holds : lines (b ∷ bs) ≡ (b ∷ rest) ∷ others

begins : (b : ℕ) (bs : List ℕ) → Begins b bs
unfolding lines in_front
begins b [] = split (eqb b 10) (λ e. record { rest = []; others = []; holds = rw e }) (λ e. record { rest = []; others = []; holds = rw e })
begins b (c ∷ cs) =
    split (eqb b 10)
    (λ e. record { rest = []; others = lines (c ∷ cs); holds = rw e })
    (λ e.
    let t = begins c cs in
    record { rest = c ∷ t.rest; others = t.others; holds = rw (e, t.holds) })

-- a byte that both texts begin with
alike_inside : (n x : ℕ) (a b : List ℕ) → eqb x 10 ≡ false → departing n (x ∷ a) (x ∷ b) ≡ departing n a b
unfolding departing departure_from lines in_front same
alike_inside n x [] [] e = rw (e, eq-eqb x x refl)
alike_inside n x [] (d ∷ b) e = let t = begins d b in rw (e, t.holds, eq-eqb x x refl)
alike_inside n x (c ∷ a) [] e = let t = begins c a in rw (e, t.holds, eq-eqb x x refl)
alike_inside n x (c ∷ a) (d ∷ b) e =
    let t = begins c a in
    let u = begins d b in
    rw (e, t.holds, u.holds, eq-eqb x x refl)

alike_ended : (n x : ℕ) (a b : List ℕ) → eqb x 10 ≡ true → departing n (x ∷ a) (x ∷ b) ≡ departing (suc n) a b
unfolding departing departure_from lines in_front same
alike_ended n x a b e = rw (e, eq-eqb x x refl)

pub departing_alike : (n x : ℕ) (a b : List ℕ) → departing n (x ∷ a) (x ∷ b) ≡ departing (counted n x) a b
unfolding counted
departing_alike n x a b = split (eqb x 10) (λ e. rw e (alike_ended n x a b e)) (λ e. rw e (alike_inside n x a b e))

-- one that differs, or that only one has
pub departing_other : (n x y : ℕ) (a b : List ℕ) → eqb x y ≡ false → departing n (x ∷ a) (y ∷ b) ≡ some (suc n)
unfolding departing departure_from same
departing_other n x y a b e =
    let t = begins x a in
    let u = begins y b in
    rw (t.holds, u.holds, e)

pub departing_missing : (n x : ℕ) (a : List ℕ) → departing n (x ∷ a) [] ≡ some (suc n)
unfolding departing departure_from lines
departing_missing n x a = let t = begins x a in rw t.holds

pub departing_surplus : (n y : ℕ) (b : List ℕ) → departing n [] (y ∷ b) ≡ some (suc n)
unfolding departing departure_from lines
departing_surplus n y b = let t = begins y b in rw t.holds

pub departing_none : (n : ℕ) → departing n [] [] ≡ none
unfolding departing departure_from lines
departing_none n = refl

-- what is required and given behind bytes that were compared, so many lines having ended among those that are alike
unfoldable pub departing_on : Result ℕ ℕ → List ℕ → List ℕ → Option ℕ
departing_on (Ok lines) more rest = departing lines more rest
departing_on (Err lines) more rest = some (suc lines)

-- so does what was compared tell, whatever else is required
pub departing_compared : (n : ℕ) (required more given : List ℕ) → departing n (required ++ more) given ≡ departing_on (compared n required given) more (drop (length required) given)
unfolding compared departing_on
departing_compared n [] more given = refl
departing_compared n (x ∷ xs) more [] = departing_missing n x (xs ++ more)
departing_compared n (x ∷ xs) more (y ∷ ys) =
    split (eqb x y)
    (λ e.
    rw e (ap (λ (z : ℕ). departing n (x ∷ (xs ++ more)) (z ∷ ys)) (sym (eqb-true x y e)) ∙ departing_alike n x (xs ++ more) ys ∙ departing_compared (counted n x) xs more ys))
    (λ e. rw e (departing_other n x y (xs ++ more) ys e))

module _ (n : ℕ) (required more given : List ℕ) (lines : ℕ) where
  pub compared_on : compared n required given ≡ Ok lines → departing n (required ++ more) given ≡ departing lines more (drop (length required) given)
  unfolding departing_on
  compared_on e = departing_compared n required more given ∙ rw e

  pub compared_off : compared n required given ≡ Err lines → departing n (required ++ more) given ≡ some (suc lines)
  unfolding departing_on
  compared_off e = departing_compared n required more given ∙ rw e

counted_few : (n x : ℕ) → counted n x ≤ n + 1
unfolding counted
counted_few n x = split (eqb x 10) (λ e. rw e (omega arith)) (λ e. rw e (omega arith))

-- no more lines end than bytes are required, nor than are given; and all are there only if as many are given
pub all_few : (n : ℕ) (required given : List ℕ) (lines : ℕ) → compared n required given ≡ Ok lines → (lines ≤ n + length required) × (length required ≤ length given)
unfolding compared
all_few n [] given lines e = let same : n ≡ lines = cc in (omega arith, omega arith)
all_few n (x ∷ xs) [] lines e = absurd (cc)
all_few n (x ∷ xs) (y ∷ ys) lines e =
    split (eqb x y)
    (λ on. let f = all_few (counted n x) xs ys lines (rw on at e) in (omega (arith, f.0, counted_few n x), omega (arith, f.1)))
    (λ off. absurd (cc (rw off at e)))

pub some_few : (n : ℕ) (required given : List ℕ) (lines : ℕ) → compared n required given ≡ Err lines → (lines ≤ n + length required) × (lines ≤ n + length given)
unfolding compared
some_few n [] given lines e = absurd (cc)
some_few n (x ∷ xs) [] lines e = let same : n ≡ lines = cc in (omega arith, omega arith)
some_few n (x ∷ xs) (y ∷ ys) lines e =
    split (eqb x y)
    (λ on. let f = some_few (counted n x) xs ys lines (rw on at e) in (omega (arith, f.0, counted_few n x), omega (arith, f.1, counted_few n x)))
    (λ off. let differ : Err n ≡ Err lines = rw off at e in let same : n ≡ lines = cc in (omega arith, omega arith))

-- a line more where one ends
pub one_more : (n : ℕ) (ends : Bool) → cond ends (suc n) n ≡ n + bool_byte ends
one_more n true = sym (add-one n)
one_more n false = sym (add-zero n)

pub one_most : (ends : Bool) → bool_byte ends ≤ 1
one_most true = omega arith
one_most false = omega arith

-- equal lists have the same first element and the same others
pub cons_alike : {A : Type 0} {x y : A} {xs ys : List A} → x ∷ xs ≡ y ∷ ys → (x ≡ y) × (xs ≡ ys)
cons_alike e = (cc, cc)

-- bytes that stand there are compared as they are with themselves
pub same_compared : (n : ℕ) (required given : List ℕ) → length required ≤ length given → required ≡ take (length required) given → compared n required given ≡ compared n required required
unfolding compared
same_compared n [] given h e = refl
same_compared n (x ∷ xs) [] h e = absurd (omega arith)
same_compared n (x ∷ xs) (y ∷ ys) h e =
    let alike = cons_alike e in
    rw (eq-eqb x y alike.0, eq-eqb x x refl) (same_compared (counted n x) xs ys (omega arith) alike.1)

-- one byte more of a text that is compared with itself
pub itself_compared : (n : ℕ) (text : List ℕ) (i : ℕ) → i < length text → compared n (drop i text) (drop i text) ≡ compared (n + bool_byte (eqb (get_or text i 0) 10)) (drop (i + 1) text) (drop (i + 1) text)
unfolding compared counted
itself_compared n text i h =
    rw (drop-cons text i 0 h, eq-eqb (get_or text i 0) (get_or text i 0) refl, one_more n (eqb (get_or text i 0) 10), add-one i)
