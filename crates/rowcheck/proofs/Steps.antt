-- What lies behind one read of either file.
use mathlib.Core.Path.{◌≡◌, refl, ◌∙◌}
use mathlib.Core.Bool.{Bool, true, false}
use mathlib.Core.List.{List, ◌++◌}
use Prim.Native.Nat.{ℕ, ◌+◌, ◌-◌, ◌≤◌, ◌<◌}
use native.Mathlib.Omega.{arith}
use borrow.Author.Tests.{lt-ltb, le-ltb, ltb-true}
use lib.Dec.{ltb}
use lib.ListN.{length, take, drop, length-append}
use lib.Seq.{take-append-le, take-take, length-slice}
use Rattle.std.specs.Prelude.{Result, Ok, Err}
use Rattle.laws.proofs.Cases.{split}
use Rattle.std.proofs.lemmas.Slice.{between_is}
use Rattle.input.specs.declared.Input.{Input}
use Rattle.input.specs.declared.Input.TheVariants.{Bytes, End, Failed}
use Rattle.input.specs.AtHand.{Within, Came}
use Rattle.turns.specs.declared.Turn.{Turn}
use Rattle.turns.specs.Turns.{turn_in}
use Rattle.checker.specs.Comparison.{compared}
use Rattle.checker.proofs.Comparison.{all_few, some_few}
use Rattle.rowcheck.specs.declared.Answer.TheVariants.{Departs}
use Rattle.rowcheck.specs.declared.Check.{Check}
use Rattle.rowcheck.specs.Turns.{behind_trace, lines_among, answer_among, given_beside, behind_listing, beside, ReadBeside, State, wants_trace, after_listing, Stepped, of_listing}
use Rattle.rowcheck.specs.InnerContracts.{Comparable, ListingChecked}

module _ (k : Check) (required given : List ℕ) (end len : ℕ) (inside : k.at < end) {c : Result ℕ ℕ} (e : c ≡ compared k.lines (take (len - k.at) (drop k.at required)) (take (len - k.at) (drop k.at given))) where
  beside_compared : c ≡ compared k.lines (drop k.at (take len required)) (drop k.at (take len given))
  beside_compared = e ∙ rw (between_is required k.at len, between_is given k.at len)

  pub beside_required : record { at = len; lines = lines_among c; answer = answer_among c } ≡ given_beside k required end given len
  unfolding given_beside
  beside_required = rw (lt-ltb k.at end inside, ← beside_compared)

pub beside_surplus : (k : Check) (required given : List ℕ) (end len : ℕ) → end ≤ k.at → record { at = k.at; lines = k.lines; answer = Departs } ≡ given_beside k required end given len
unfolding given_beside
beside_surplus k required given end len h = rw (le-ltb k.at end h)

-- no more lines end than bytes are given
lines_few : (c : Result ℕ ℕ) (n : ℕ) (required given : List ℕ) → compared n required given ≡ c → lines_among c ≤ n + length given
lines_few (Ok lines) n required given e = let f = all_few n required given lines e in omega arith
lines_few (Err lines) n required given e = (some_few n required given lines e).1

module _ (k : Check) (required given : List ℕ) (end : ℕ) where
  given_lines : (len : ℕ) → (k.at < end → len ≤ length given) → (given_beside k required end given len).lines ≤ k.lines + length given
  unfolding given_beside
  given_lines len within =
      split (ltb k.at end)
      (λ on.
      let fits = within (ltb-true k.at end on) in
      rw on (omega (arith, lines_few _ k.lines (drop k.at (take len required)) (drop k.at (take len given)) refl, length-slice k.at len given fits)))
      (λ off. rw off (omega arith))

  pub lines_behind : (input : Input) → Comparable k end input required given → (behind_listing k required end given input).lines ≤ k.lines + length given
  unfolding behind_listing Within
  lines_behind (Bytes len) c = given_lines len (λ inside. omega (arith, (c.most inside).1, c.given_long))
  lines_behind End c = omega arith
  lines_behind Failed c = omega arith

-- a read of the listing is compared within what is required
pub comparable : {k : Check} {end : ℕ} {input : Input} {before given : List ℕ} (required : List ℕ) → ReadBeside input k.at end before given → length given ≡ length before → end ≤ length required → end ≤ length before → k.lines + length before ≤ 18446744073709551615 → Comparable k end input required given
comparable required read long required_long before_long few =
    record { most = read.most; required_long = required_long; given_long = omega arith; few = omega arith }

-- a read into the front of a buffer
within_more : (input : Input) (kept : ℕ) {most most' : ℕ} → most ≤ most' → Within input kept most → Within input kept most'
unfolding Within
within_more (Bytes len) kept h w = (w.0, omega (arith, w.1))
within_more End kept h w = tt
within_more Failed kept h w = tt

pub read_part : (input : Input) (at end : ℕ) (before part rest : List ℕ) → at < end → length part ≡ end → Came input at (take end before) part → ReadBeside input at end before (part ++ rest)
unfolding beside
read_part input at end before part rest inside long c =
    record {
      came = rw (lt-ltb at end inside)
          (record {
            front = take-append-le at part rest (omega arith) ∙ c.front ∙ take-take at end before (omega arith);
            within = within_more input at (omega (arith, length-append part rest)) c.within;
          });
      most = λ h. rw long at c.within;
    }

pub read_whole : (input : Input) (at end : ℕ) (before after : List ℕ) → end ≤ at → Came input 0 before after → ReadBeside input at end before after
unfolding beside
read_whole input at end before after h c =
    record { came = rw (le-ltb at end h) c; most = λ inside. absurd (omega arith) }

pub trace_lines : (k : Check) (failed : Bool) → (behind_trace k failed).lines ≡ k.lines
unfolding behind_trace
trace_lines k true = refl
trace_lines k false = refl

-- a step of the listing leaves what the trace's did
pub listing_stepped : {from to : State} {before after : List ℕ} → wants_trace from ≡ false → to.turn ≡ from.turn → ListingChecked from.check to.check from.turn.buffer from.turn.end before after → Stepped from to before after
unfolding after_listing
listing_stepped wants turn c = of_listing wants c.input c.came (λ i. record { turn = turn i; check = c.same i })

-- the turn that the code holds is the state's
pub turn_alike : {t t' : Turn} (counts text out : List ℕ) → t' ≡ t → turn_in t' counts text out ≡ turn_in t counts text out
turn_alike counts text out e = rw e
