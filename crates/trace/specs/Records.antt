-- 'Lines': what the bytes of a line say.
use Rattle.std.specs.Prelude.{cond, ℕ, ◌*◌, List, [], ◌∷◌, eqb, length, get_or}
use Rattle.std.proofs.Math.Option.{Option, none, some, bind}
use Rattle.trace.specs.Bytes.{letter_A, letter_F, letter_H, letter_R, letter_S}
use Rattle.columns.specs.Numbers.{field, fields}
use Rattle.device.specs.declared.Settings.{Settings}
use Rattle.trace.specs.declared.Sixteen.{Sixteen}
use Rattle.trace.specs.declared.Record.{Record}
use Rattle.trace.specs.declared.Record.TheVariants.{Set, Remap, Activate, Refresh, Blank}

-- numbers as 'the seven settings', in their order
unfoldable pub as_settings : List ℕ → Settings
as_settings numbers =
    record {
      rows = get_or numbers 0 0;
      blast_diameter = get_or numbers 1 0;
      volume = get_or numbers 2 0;
      counters = get_or numbers 3 0;
      interval = get_or numbers 4 0;
      window = get_or numbers 5 0;
      block = get_or numbers 6 0;
    }

-- a record of so many numbers, 6 columns each, and of nothing behind them
unfoldable pub numbered : ℕ → (List ℕ → Record) → List ℕ → Option Record
numbered count says bytes = cond (eqb (length bytes) (6 * count)) (bind (fields count bytes) λ numbers. some (says numbers)) none

-- 'a settings record': the seven settings behind an `S`
unfoldable pub settings : List ℕ → Option Record
settings bytes = numbered 7 (λ numbers. Set (as_settings numbers)) bytes

-- numbers as the 'table of 16 numbers' of a remap record, and back, in their order
unfoldable pub as_sixteen : List ℕ → Sixteen
as_sixteen numbers =
    record {
      n0 = get_or numbers 0 0;
      n1 = get_or numbers 1 0;
      n2 = get_or numbers 2 0;
      n3 = get_or numbers 3 0;
      n4 = get_or numbers 4 0;
      n5 = get_or numbers 5 0;
      n6 = get_or numbers 6 0;
      n7 = get_or numbers 7 0;
      n8 = get_or numbers 8 0;
      n9 = get_or numbers 9 0;
      n10 = get_or numbers 10 0;
      n11 = get_or numbers 11 0;
      n12 = get_or numbers 12 0;
      n13 = get_or numbers 13 0;
      n14 = get_or numbers 14 0;
      n15 = get_or numbers 15 0;
    }

unfoldable pub sixteen_of : Sixteen → List ℕ
sixteen_of t =
    t.n0 ∷ t.n1 ∷ t.n2 ∷ t.n3 ∷ t.n4 ∷ t.n5 ∷ t.n6 ∷ t.n7 ∷
    t.n8 ∷ t.n9 ∷ t.n10 ∷ t.n11 ∷ t.n12 ∷ t.n13 ∷ t.n14 ∷ t.n15 ∷ []

-- a remap record: '`F` with 16 fields of 6 columns', whose numbers the reader 'hands on untested'
unfoldable pub remap : List ℕ → Option Record
remap bytes = numbered 16 (λ numbers. Remap (as_sixteen numbers)) bytes

-- 'an activation record holding its row': a bus row (logical row) behind an `A`, in 6 columns; '`A` and a hold of 1 are one record'
unfoldable pub activation : List ℕ → Option Record
activation bytes = cond (eqb (length bytes) 6) (bind (field 0 bytes) λ row. some (Activate row 1)) none

-- numbers as 'a bus row and a hold', in this order
unfoldable pub as_activation : List ℕ → Record
as_activation numbers = Activate (get_or numbers 0 0) (get_or numbers 1 0)

-- a row held open: both behind an `H`, '6 columns each', which the reader hands on untested
unfoldable pub held_activation : List ℕ → Option Record
held_activation bytes = numbered 2 as_activation bytes

-- 'an event': `R` 'alone', nothing behind it
unfoldable pub refresh : List ℕ → Option Record
refresh [] = some Refresh
refresh (b ∷ bs) = none

-- 'Lines: `S` and the seven settings; `A` and a bus row; `R` alone; or blank (no bytes)'; `F` with a fold; and `H` with a bus row and a hold
unfoldable pub record_of : List ℕ → Option Record
record_of [] = some Blank
record_of (b ∷ bs) =
    cond (eqb b letter_S) (settings bs)
    (cond (eqb b letter_A) (activation bs)
    (cond (eqb b letter_R) (refresh bs)
    (cond (eqb b letter_F) (remap bs)
    (cond (eqb b letter_H) (held_activation bs) none))))
