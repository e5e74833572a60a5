-- What is to be answered from a state of a run on, and how bytes that are compared bear on it.
use mathlib.Core.Path.{◌≡◌, refl, sym, ◌∙◌, ap}
use mathlib.Core.Bool.{Bool, true, false}
use mathlib.Core.List.{List, [], ◌∷◌, ◌++◌}
use mathlib.Core.Option.{Option, none, some}
use Prim.Native.Nat.{ℕ, suc, ◌≤◌, ◌<◌}
use native.Mathlib.Omega.{arith}
use lib.Dec.{eqb}
use lib.ListN.{length, take, drop, length-take, take-append-drop, drop_of_length-le}
use lib.Seq.{take-take, drop-append-le, drop_at}
use Rattle.std.specs.Prelude.{Result, Ok, Err}
use Rattle.laws.proofs.Cases.{split}
use Rattle.trace.specs.Lines.{ended}
use Rattle.trace.specs.Texts.{joined}
use Rattle.steps.specs.Steps.{Progress}
use Rattle.listing.specs.Texts.{listing}
use Rattle.steps.specs.Memory.{Represents}
use Rattle.turns.specs.Turns.{Turned}
use Rattle.checker.specs.Departure.{departing}
use Rattle.checker.specs.Comparison.{counted, compared}
use Rattle.checker.proofs.Comparison.{departing_missing, departing_surplus, compared_on, compared_off}
use Rattle.rowcheck.specs.declared.Answer.{Answer}
use Rattle.rowcheck.specs.declared.Answer.TheVariants.{Open, Passes, Departs, TraceFailed, ListingFailed}
use Rattle.rowcheck.specs.Turns.{lines_among, answer_among, State}

-- what is still required: the rest of what is to be compared now, and, while the trace has not ended, the listing of the kept bytes and of what follows
unfoldable pub behind : Bool → Progress → List ℕ → List ℕ
behind true g rest = listing g rest
behind false g rest = []

unfoldable pub required : State → Progress → List ℕ → List ℕ
required q g rest =
    drop q.check.at (take q.turn.end q.turn.buffer) ++ behind q.turn.more g (take q.turn.kept q.turn.text ++ rest)

-- what is to be answered; no run ends behind a read that failed
unfoldable pub to_answer : Answer → ℕ → List ℕ → List ℕ → Option ℕ
to_answer Open lines required given = departing lines required given
to_answer Passes lines required given = none
to_answer Departs lines required given = some (suc lines)
to_answer TraceFailed lines required given = none
to_answer ListingFailed lines required given = none

unfoldable pub wanted : State → Progress → List (List ℕ) → List (List ℕ) → Option ℕ
wanted q g parts given = to_answer q.check.answer q.check.lines (required q g (joined parts)) (joined given)

-- what a read of the trace leaves: the memory is that of a listing so far, the kept bytes are a line's that has not ended, and the buffer holds what is
-- required
pub record Fine (t : Turned) (g : Progress) : Type 0 where
  pub represents : Represents t.memory g
  pub unended : t.more ≡ true → ended (take t.kept t.text) ≡ false
  pub fits : t.end ≤ length t.buffer

-- no bytes lie behind their end
pub none_behind : (at end : ℕ) (buffer : List ℕ) → end ≤ at → drop at (take end buffer) ≡ []
none_behind at end buffer h = drop_of_length-le (take end buffer) {i = at} (omega (arith, length-take end buffer))

-- bytes up to a place, and those behind it
pub cut_behind : (at len end : ℕ) (buffer : List ℕ) → at ≤ len → len ≤ end → end ≤ length buffer → drop at (take end buffer) ≡ drop at (take len buffer) ++ drop len (take end buffer)
cut_behind at len end buffer h l e =
    ap (drop at)
    (sym (take-append-drop len (take end buffer)) ∙
    ap (λ (front : List ℕ). front ++ drop len (take end buffer)) (take-take len end buffer l)) ∙
    drop-append-le at (take len buffer) (drop len (take end buffer)) (omega (arith, length-take len buffer))

-- a comparison with as many bytes tells the same with others behind them
compared_front : (n : ℕ) (xs ys zs : List ℕ) → length xs ≤ length ys → compared n xs (ys ++ zs) ≡ compared n xs ys
unfolding compared
compared_front n [] ys zs h = refl
compared_front n (x ∷ xs) [] zs h = absurd (omega arith)
compared_front n (x ∷ xs) (y ∷ ys) zs h =
    split (eqb x y) (λ on. rw on (compared_front (counted n x) xs ys zs (omega arith))) (λ off. rw off)

told_by : (c : Result ℕ ℕ) (n : ℕ) (xs more given : List ℕ) → compared n xs given ≡ c → to_answer (answer_among c) (lines_among c) more (drop (length xs) given) ≡ departing n (xs ++ more) given
unfolding to_answer
told_by (Ok lines) n xs more given e = sym (compared_on n xs more given lines e)
told_by (Err lines) n xs more given e = sym (compared_off n xs more given lines e)

-- what is to be answered behind it
pub piece_compared : (n : ℕ) (xs more ys zs : List ℕ) → length ys ≡ length xs → to_answer (answer_among (compared n xs ys)) (lines_among (compared n xs ys)) more zs ≡ departing n (xs ++ more) (ys ++ zs)
piece_compared n xs more ys zs long =
    rw (drop_at ys zs (length xs) long) at (told_by (compared n xs ys) n xs more (ys ++ zs) (compared_front n xs ys zs (omega arith)))

-- bytes that only one side has
pub surplus_departs : (n : ℕ) (part given : List ℕ) → 0 < length part → departing n [] (part ++ given) ≡ some (suc n)
surplus_departs n [] given h = absurd (omega arith)
surplus_departs n (y ∷ ys) given h = departing_surplus n y (ys ++ given)

pub missing_departs : (n : ℕ) (piece more : List ℕ) → 0 < length piece → departing n (piece ++ more) [] ≡ some (suc n)
missing_departs n [] more h = absurd (omega arith)
missing_departs n (x ∷ xs) more h = departing_missing n x (xs ++ more)
