-- What is printed: texts one right behind another, numbers in columns, and the line of a refusal.
use mathlib.Core.Path.{◌≡◌, refl, ap, sym, ◌∙◌}
use mathlib.Core.List.{List, [], ◌∷◌, ◌++◌, append_assoc, append-nil}
use Prim.Native.Nat.{ℕ, suc, ◌+◌, ◌*◌, ◌%◌, ◌≤◌, ◌<◌}
use native.Mathlib.Numerals.{add-one}
use native.Mathlib.Nat.{add-zero, zero-add}
use native.Mathlib.Omega.{arith}
use lib.ListN.{length, get_or, take, drop, set, length-append, length-drop, take-append-drop}
use lib.Seq.{take_at, drop-append-add, drop-drop, length-take-le, set_split, take-suc}
use Rattle.columns.specs.Numbers.{printed, written}
use Rattle.columns.proofs.Numbers.Printed.{length_printed}
use Rattle.columns.specs.Output.{number_columns, refusal_line, Prints}

length_front : (b x : List ℕ) (at : ℕ) → at ≤ length b → length (take at b ++ x) ≡ at + length x
length_front b x at h = rw (length-append, length-take-le at b h)

length_written : (b x : List ℕ) (at : ℕ) → at + length x ≤ length b → length (written b at x) ≡ length b
unfolding written
length_written b x at h =
    rw (length-append (take at b ++ x) (drop (at + length x) b), length_front b x at (omega arith), length-drop) (omega arith)

drop_behind : (p q : List ℕ) (n m : ℕ) → length p ≡ n → drop (n + m) (p ++ q) ≡ drop m q
drop_behind p q n m h = rw (sym h) (drop-append-add p q m)

-- a text right behind another
written_behind : (b : List ℕ) (at : ℕ) (x y : List ℕ) → at + length x ≤ length b → written (written b at x) (at + length x) y ≡ written b at (x ++ y)
unfolding written
written_behind b at x y h =
    let front = length_front b x at (omega arith) in
    let rest = drop (at + length x) b in
    let all : at + length x + length y ≡ at + length (x ++ y) = omega (arith, length-append x y) in
    rw (
      take_at (take at b ++ x) rest (at + length x) front,
      drop_behind (take at b ++ x) rest (at + length x) (length y) front,
      drop-drop (length y) (at + length x) b,
      all,
    )
    (simp append_assoc)

pub prints_nothing : (b : List ℕ) (at : ℕ) → at ≤ length b → Prints b at [] b at
unfolding written
prints_nothing b at h =
    record { fits = omega arith; holds = rw (append-nil, add-zero, take-append-drop); behind = omega arith }

pub prints_byte : (b : List ℕ) (at x : ℕ) → at < length b → Prints b at (x ∷ []) (set b at x) (at + 1)
unfolding written
prints_byte b at x h =
    record { fits = omega arith; holds = set_split b at x h ∙ rw (add-one, append_assoc); behind = refl }

-- the buffer stays as long as it was
pub prints_long : {b c x : List ℕ} {at p : ℕ} → Prints b at x c p → length c ≡ length b
prints_long {b} {c} {x} {at} {p} f = ap length f.holds ∙ length_written b x at f.fits

pub prints_then : {b c d x y : List ℕ} {at p q : ℕ} → Prints b at x c p → Prints c p y d q → Prints b at (x ++ y) d q
prints_then {b} {c} {d} {x} {y} {at} {p} {q} f s =
    let long = prints_long f in
    let both = length-append x y in
    record {
      fits = omega arith;
      holds = s.holds ∙ rw (f.holds, f.behind) (written_behind b at x y f.fits);
      behind = omega arith;
    }

pub length_number_columns : (ns : List ℕ) → length (number_columns ns) ≡ 6 * length ns
unfolding number_columns
length_number_columns [] = refl
length_number_columns (n ∷ ns) = rw length-append (omega (arith, length_printed 6 n, length_number_columns ns))

pub length_number_columns_take : (ns : List ℕ) (i : ℕ) → i ≤ length ns → length (number_columns (take i ns)) ≡ 6 * i
length_number_columns_take ns i h = length_number_columns (take i ns) ∙ rw (length-take-le i ns h)

columns_append : (xs ys : List ℕ) → number_columns (xs ++ ys) ≡ number_columns xs ++ number_columns ys
unfolding number_columns
columns_append [] ys = refl
columns_append (x ∷ xs) ys = rw (columns_append xs ys, append_assoc)

-- one number more
pub number_columns_more : (ns : List ℕ) (i : ℕ) → i < length ns → number_columns (take (i + 1) ns) ≡ number_columns (take i ns) ++ printed 6 (get_or ns i 0)
unfolding number_columns
number_columns_more ns i h = rw (add-one i, take-suc ns i 0 h, columns_append, append-nil)

pub length_refusal_line : (number k : ℕ) → length (refusal_line number k) ≡ 18
unfolding refusal_line
length_refusal_line number k =
    simp length-append (omega (arith, length_printed 10 (number % 10000000000), length_printed 6 k))

-- lines whose numbers are alike modulo 10,000,000,000 print the same
pub refusal_alike : (n m : ℕ) → n % 10000000000 ≡ m % 10000000000 → (k : ℕ) → refusal_line n k ≡ refusal_line m k
unfolding refusal_line
refusal_alike n m e k = rw e

-- the number of the next line, from lines counted modulo 10,000,000,000
pub counted_on : (lines count : ℕ) → lines % 10000000000 ≡ count % 10000000000 → (lines % 10000000000 + 1) % 10000000000 ≡ suc count % 10000000000
counted_on lines count e = omega arith

-- what was printed stands at the buffer's front
pub take_written : (buffer text : List ℕ) → take (length text) (written buffer 0 text) ≡ text
unfolding written
take_written buffer text = take_at text (drop (0 + length text) buffer) (length text) refl

pub take_printed : {before text buffer : List ℕ} {end : ℕ} → Prints before 0 text buffer end → take end buffer ≡ text
take_printed {before} {text} {buffer} {end} p = rw (p.holds, p.behind, zero-add) (take_written before text)
