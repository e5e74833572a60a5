-- One table, numbers and then zeros: its length, reading a place, what storing, putting in and taking out make of it, and the entries read back.
use mathlib.Core.Path.{◌≡◌, refl, ap}
use mathlib.Core.List.{List, [], ◌∷◌, ◌++◌}
use Prim.Native.Nat.{ℕ, zero, suc, ◌-◌, ◌≤◌, ◌<◌}
use native.Mathlib.Omega.{arith}
use native.Mathlib.Numerals.{add-one}
use lib.ListN.{length, replicate, length-append, length-replicate, get_or, take, drop, set, length-drop, length-set, get_or-append}
use lib.Seq.{take_at, drop_at, take-append-le, drop-append-le, drop-append-add, set-append_left}
use Rattle.tables.specs.InnerContracts.{put_in, taken_at}
use Rattle.summary.specs.Entries.{Entry, rows_of, counts_of}
use Rattle.summary.specs.Tables.{table, entries_of}
use Rattle.summary.proofs.Entries.Columns.{length_inside, length_out, out, inside}

pub length_table : (places : ℕ) (xs : List ℕ) → length xs ≤ places → length (table places xs) ≡ places
unfolding table
length_table places xs h =
    rw (length-append xs (replicate (places - length xs) 0), length-replicate {A = ℕ} (places - length xs) 0) (omega arith)

pub take_table : (places : ℕ) (xs : List ℕ) → take (length xs) (table places xs) ≡ xs
unfolding table
take_table places xs = take_at xs (replicate (places - length xs) 0) (length xs) refl

pub getD_table : (places : ℕ) (xs : List ℕ) (i : ℕ) → i < length xs → get_or (table places xs) i 0 ≡ get_or xs i 0
unfolding table
getD_table places xs i h = get_or-append xs (replicate (places - length xs) 0) 0 i h

pub set_table : (places : ℕ) (xs : List ℕ) (i v : ℕ) → i < length xs → set (table places xs) i v ≡ table places (set xs i v)
unfolding table
set_table places xs i v h = rw (length-set xs i v) (set-append_left xs (replicate (places - length xs) 0) i v h)

drop_zeros : (n : ℕ) → drop {A = ℕ} 1 (replicate n 0) ≡ replicate (n - 1) 0
drop_zeros zero = refl
drop_zeros (suc n) = let same : suc n - 1 ≡ n = omega arith in rw same

pub put_in_table : (places : ℕ) (xs : List ℕ) (at x : ℕ) → at ≤ length xs → length xs < places → put_in (table places xs) (length xs) at x ≡ table places (inside at x xs)
unfolding put_in table
put_in_table places xs at x h room =
    let zeros : List ℕ = replicate (places - length xs) 0 in
    let rest : take (length xs - at) (drop at xs ++ zeros) ≡ drop at xs = take_at (drop at xs) zeros (length xs - at) (length-drop at xs) in
    let fewer : places - length xs - 1 ≡ places - length (inside at x xs) = omega (arith, length_inside at x xs h) in
    rw (take-append-le at xs zeros h, drop-append-le at xs zeros h, rest, drop-append-add xs zeros 1, drop_zeros (places - length xs), fewer)

pub taken_at_table : (places : ℕ) (xs : List ℕ) (at : ℕ) → at < length xs → length xs ≤ places → taken_at (table places xs) (length xs) at ≡ table places (out at xs)
unfolding taken_at table
taken_at_table places xs at h room =
    let zeros : List ℕ = replicate (places - length xs) 0 in
    let rest : take (length xs - suc at) (drop (suc at) xs ++ zeros) ≡ drop (suc at) xs = take_at (drop (suc at) xs) zeros (length xs - suc at) (length-drop (suc at) xs) in
    let more : suc (places - length xs) ≡ places - length (out at xs) = omega (arith, length_out at xs h) in
    rw (add-one at, take-append-le at xs zeros (omega arith), drop-append-le (suc at) xs zeros h, rest, drop_at xs zeros (length xs) refl, ← more)

pub entries_back : (es : List Entry) (behind behind' : List ℕ) → entries_of (length es) (rows_of es ++ behind) (counts_of es ++ behind') ≡ es
unfolding entries_of rows_of counts_of
entries_back [] behind behind' = refl
entries_back (x ∷ xs) behind behind' = ap (λ (es : List Entry). x ∷ es) (entries_back xs behind behind')
