-- An `R` line read back: the rows that it names are those that were printed.
use mathlib.Core.Path.{◌≡◌, ap, ◌∙◌}
use mathlib.Core.List.{List, [], ◌∷◌, ◌++◌, append_assoc}
use mathlib.Core.Option.{some, bind}
use Prim.Native.Nat.{ℕ, ◌<◌}
use native.Mathlib.Omega.{arith}
use lib.ListN.{length, drop, length-append}
use lib.Seq.{drop_at}
use Rattle.columns.specs.Numbers.{field, fields, printed}
use Rattle.columns.specs.Output.{number_columns}
use Rattle.columns.proofs.Numbers.Printed.{length_printed}
use Rattle.columns.proofs.Numbers.ReadBack.{Narrow, field_printed, fields_columns}
use Rattle.steps.specs.Output.{refresh_line}
use Rattle.silicon.specs.EventLines.{or_none, rows_named}

-- a letter, a number, how many rows there are and the rows
named_front : (b : ℕ) (e count rows : List ℕ) (n : ℕ) (ns : List ℕ) → length e ≡ 6 → length count ≡ 6 → field 0 (count ++ rows) ≡ some n → fields n rows ≡ some ns
    → rows_named (b ∷ (e ++ (count ++ rows))) ≡ ns
unfolding rows_named field or_none bind
named_front b e count rows n ns long wide counts named =
    let both : length (e ++ count) ≡ 12 = rw length-append (omega arith) in
    let behind : drop 12 (e ++ (count ++ rows)) ≡ rows = rw (← append_assoc e count rows) (drop_at (e ++ count) rows 12 both) in
    rw (drop_at e (count ++ rows) 6 long, counts) (ap (λ (bytes : List ℕ). or_none (fields n bytes)) behind ∙ ap or_none named)

pub names_read : (e : ℕ) {rows : List ℕ} → length rows < 1000000 → Narrow rows → rows_named (refresh_line e rows) ≡ rows
unfolding refresh_line
names_read e {rows} few narrow =
    let named = number_columns rows ++ 10 ∷ [] in
    simp append_assoc
    (named_front 82 (printed 6 e) (printed 6 (length rows)) named (length rows) rows (length_printed 6 e) (length_printed 6 (length rows)) (field_printed (length rows) named few) (fields_columns narrow (10 ∷ [])))
