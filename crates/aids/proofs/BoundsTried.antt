-- A try for the highest count: a group's bound or a block's was too high and is lowered, or the row is found.
use mathlib.Core.Path.{◌≡◌, ap, ◌∙◌}
use mathlib.Core.Logic.{⊎_elim}
use mathlib.Core.List.{List, [], ◌∷◌}
use Prim.Native.Nat.{ℕ, zero, suc, ◌+◌, ◌-◌, ◌*◌, ◌/◌, ◌≤◌, ◌<◌}
use native.Mathlib.Omega.{arith}
use Rattle.std.specs.Prelude.{Some, None}
use lib.ListN.{length, get_or, set, length-set, get_or-eq_default}
use lib.Seq.{get_or-set_other}
use Rattle.device.specs.Acceptance.{most_rows}
use Rattle.laws.proofs.Cases.{le_or_lt, same_or_other}
use Rattle.aids.specs.Bounds.{Capped, Top, total, Tried}
use Rattle.aids.proofs.BoundsCapped.{stored_at}

-- a number is stored below what was there
total_less : (xs : List ℕ) (i v : ℕ) → i < length xs → v < get_or xs i 0 → total (set xs i v) < total xs
unfolding total
total_less [] i v l h = absurd (omega arith)
total_less (x ∷ xs) zero v l h = omega arith
total_less (x ∷ xs) (suc i) v l h = omega (arith, total_less xs i v (omega arith) h)

-- a bound is lowered, and the bounds still hold
lowered : (counts bounds : List ℕ) (i v : ℕ) → i < length bounds → v < get_or bounds i 0 → Capped counts (set bounds i v) → Tried counts bounds (set bounds i v) None
lowered counts bounds i v l h c = (c, total_less bounds i v l h)

-- a group's bound that is too high
module _ {counts bounds : List ℕ} (long : length counts ≡ most_rows) (c : Capped counts bounds) (g b : ℕ) (tg : Top bounds 4096 4160 g) (tb : Top bounds ((g - 4096) * 64) ((g - 4096) * 64 + 64) b) where
  pub try_group : get_or bounds b 0 < get_or bounds g 0 → Tried counts bounds (set bounds g (get_or bounds b 0)) None
  try_group h =
      let l : g < length bounds = omega (arith, c.nested.bounds_long, tg.inside) in
      lowered counts bounds g (get_or bounds b 0) l h
      (record {
        nested =
            record {
              bounds_long = length-set bounds g (get_or bounds b 0) ∙ c.nested.bounds_long;
              under = λ j k.
                  let kept = get_or-set_other bounds g j (get_or bounds b 0) 0 (λ e. omega (arith, tg.onward)) in
                  ⊎_elim
                  (λ same. omega (arith, stored_at bounds g (get_or bounds b 0) (4096 + j / 64) l same, tb.highest j (omega arith) (omega arith)))
                  (λ other. omega (arith, get_or-set_other bounds g (4096 + j / 64) (get_or bounds b 0) 0 other, c.nested.under j k))
                  (same_or_other (4096 + j / 64) g);
            };
        most = λ row.
            ⊎_elim
            (λ same. omega (arith, get_or-eq_default counts 0 {n = row} (omega (arith, tg.onward))))
            (λ other. omega (arith, get_or-set_other bounds g (row / 64) (get_or bounds b 0) 0 other, c.most row))
            (same_or_other (row / 64) g);
      })

-- the highest of the block with the highest bound, where both bounds are exact; else the block's bound is too high
module _ {counts bounds : List ℕ} (c : Capped counts bounds) (g b r : ℕ) (tg : Top bounds 4096 4160 g) (tb : Top bounds ((g - 4096) * 64) ((g - 4096) * 64 + 64) b) (tr : Top counts (b * 64) (b * 64 + 64) r) where
  in_group : 4096 + b / 64 ≡ g
  in_group = omega (arith, tg.onward, tb.onward, tb.inside)

  in_block : r / 64 ≡ b
  in_block = omega (arith, tr.onward, tr.inside)

  block_low : b < 4096
  block_low = omega (arith, tg.inside, in_group)

  pub try_block : get_or counts r 0 < get_or bounds b 0 → Tried counts bounds (set bounds b (get_or counts r 0)) None
  try_block h =
      let l : b < length bounds = omega (arith, c.nested.bounds_long, block_low) in
      lowered counts bounds b (get_or counts r 0) l h
      (record {
        nested =
            record {
              bounds_long = length-set bounds b (get_or counts r 0) ∙ c.nested.bounds_long;
              under = λ j k.
                  let kept = get_or-set_other bounds b (4096 + j / 64) (get_or counts r 0) 0 (λ e. omega (arith, block_low)) in
                  ⊎_elim
                  (λ same.
                  let at : get_or bounds j 0 ≡ get_or bounds b 0 = ap (λ (n : ℕ). get_or bounds n 0) same in
                  omega (arith, stored_at bounds b (get_or counts r 0) j l same, c.nested.under j k))
                  (λ other. omega (arith, get_or-set_other bounds b j (get_or counts r 0) 0 other, c.nested.under j k))
                  (same_or_other j b);
            };
        most = λ row.
            ⊎_elim
            (λ same. omega (arith, stored_at bounds b (get_or counts r 0) (row / 64) l same, tr.highest row (omega arith) (omega arith)))
            (λ other. omega (arith, get_or-set_other bounds b (row / 64) (get_or counts r 0) 0 other, c.most row))
            (same_or_other (row / 64) b);
      })

  pub try_row : get_or bounds g 0 ≤ get_or bounds b 0 → get_or bounds b 0 ≤ get_or counts r 0 → Tried counts bounds bounds (Some r)
  try_row hg hb =
      let inside : r < most_rows = omega (arith, block_low, tr.inside) in (
        c,
        record {
          onward = omega arith;
          inside = inside;
          highest = λ i a l. omega (arith, c.most i, c.nested.under (i / 64) (omega arith), tg.highest (4096 + i / 64 / 64) (omega arith) (omega arith));
          first = λ i a l.
              ⊎_elim
              (λ lower_block.
              ⊎_elim
              (λ lower_group. omega (arith, c.most i, c.nested.under (i / 64) (omega (arith, block_low)), tg.first (4096 + i / 64 / 64) (omega arith) lower_group))
              (λ same_group. omega (arith, c.most i, tb.first (i / 64) (omega (arith, in_group)) lower_block))
              (le_or_lt (suc (4096 + i / 64 / 64)) g))
              (λ same_block. omega (arith, tr.first i (omega (arith, in_block)) l))
              (le_or_lt (suc (i / 64)) b);
        },
      )
