-- Bounds hold while counts fall, after a row's bounds rose to its count, and where no row has a count. The two stores by which a row's bounds rise.
use mathlib.Core.Path.{◌≡◌, ap, ◌∙◌}
use mathlib.Core.Logic.{⊎_elim}
use mathlib.Core.List.{List}
use Prim.Native.Nat.{ℕ, ◌+◌, ◌/◌, ◌≤◌, ◌<◌, max}
use native.Mathlib.Omega.{arith}
use native.Mathlib.Nat.{le-max_left, le-max_right, max-le}
use lib.ListN.{length, get_or, set, replicate, length-set, length-replicate, get_or-replicate}
use lib.Seq.{get_or-set_same, get_or-set_other}
use Rattle.device.specs.Acceptance.{most_rows}
use Rattle.laws.proofs.Cases.{same_or_other}
use Rattle.aids.specs.Bounds.{Nested, Capped, Covers}

-- no count rose
pub capped_fewer : {counts counts' bounds : List ℕ} → Capped counts bounds → ((i : ℕ) → get_or counts' i 0 ≤ get_or counts i 0) → Capped counts' bounds
capped_fewer c fewer = record { nested = c.nested; most = λ i. omega (arith, fewer i, c.most i) }

-- no count but one row's rose, and its bounds rose to it
pub capped_covered : {counts counts' bounds bounds' : List ℕ} {row : ℕ} → Capped counts bounds → ((i : ℕ) → (i ≡ row → ⊥) → get_or counts' i 0 ≤ get_or counts i 0) → Covers bounds bounds' row (get_or counts' row 0) → Capped counts' bounds'
capped_covered {counts} {counts'} {bounds} {bounds'} {row} c fewer v =
    record {
      nested = v.nested;
      most = λ i.
          ⊎_elim
          (λ same.
          let e : get_or counts' i 0 ≡ get_or counts' row 0 = ap (λ (n : ℕ). get_or counts' n 0) same in
          let at : get_or bounds' (i / 64) 0 ≡ get_or bounds' (row / 64) 0 = ap (λ (n : ℕ). get_or bounds' (n / 64) 0) same in
          omega (arith, v.here))
          (λ other. omega (arith, fewer i other, c.most i, v.rise (i / 64)))
          (same_or_other i row);
    }

-- no row has a count, and all bounds are 0
pub capped_none : {counts bounds : List ℕ} → ((i : ℕ) → get_or counts i 0 ≡ 0) → bounds ≡ replicate 4160 0 → Capped counts bounds
capped_none {counts} {bounds} none e =
    record {
      nested =
          record {
            bounds_long = rw e (length-replicate {A = ℕ} 4160 0);
            under = λ b l. rw e (omega (arith, get_or-replicate {A = ℕ} 4160 b 0 0 (omega arith)));
          };
      most = λ row. omega (arith, none row);
    }

-- a stored number is read back
pub stored_at : (xs : List ℕ) (i v j : ℕ) → i < length xs → j ≡ i → get_or (set xs i v) j 0 ≡ v
stored_at xs i v j l same = ap (λ (n : ℕ). get_or (set xs i v) n 0) same ∙ get_or-set_same xs i v 0 l

-- where a number is stored that is not below the one before, none falls
rise_stored : (xs : List ℕ) (i v : ℕ) → i < length xs → get_or xs i 0 ≤ v → (j : ℕ) → get_or xs j 0 ≤ get_or (set xs i v) j 0
rise_stored xs i v l h j =
    ⊎_elim
    (λ same.
    let at : get_or xs j 0 ≡ get_or xs i 0 = ap (λ (n : ℕ). get_or xs n 0) same in
    omega (arith, stored_at xs i v j l same))
    (λ other. omega (arith, get_or-set_other xs i j v 0 other))
    (same_or_other j i)

-- the bounds with a number stored for a row's block, and then one for its group
abbrev block_set : List ℕ → ℕ → ℕ → List ℕ
block_set bounds row v = set bounds (row / 64) v

abbrev pub both_set : List ℕ → ℕ → ℕ → ℕ → List ℕ
both_set bounds row v w = set (block_set bounds row v) (4096 + row / 64 / 64) w

-- both rise to a count
module _ {bounds : List ℕ} (n : Nested bounds) (row count v w : ℕ) (l : row < most_rows) (ev : v ≡ max (get_or bounds (row / 64) 0) count) (ew : w ≡ max (get_or (block_set bounds row v) (4096 + row / 64 / 64) 0) count) where
  block_fits : row / 64 < length bounds
  block_fits = omega (arith, n.bounds_long)

  group_fits : 4096 + row / 64 / 64 < length (block_set bounds row v)
  group_fits = rw length-set (omega (arith, n.bounds_long))

  rise_block : (j : ℕ) → get_or bounds j 0 ≤ get_or (block_set bounds row v) j 0
  rise_block = rise_stored bounds (row / 64) v block_fits (rw ev (le-max_left (get_or bounds (row / 64) 0) count))

  rise_group : (j : ℕ) → get_or (block_set bounds row v) j 0 ≤ get_or (both_set bounds row v w) j 0
  rise_group =
      rise_stored (block_set bounds row v) (4096 + row / 64 / 64) w group_fits (rw ew (le-max_left (get_or (block_set bounds row v) (4096 + row / 64 / 64) 0) count))

  block_under_group : v ≤ w
  block_under_group =
      let held : count ≤ w = rw ew (le-max_right (get_or (block_set bounds row v) (4096 + row / 64 / 64) 0) count) in
      let low : get_or (block_set bounds row v) (4096 + row / 64 / 64) 0 ≤ w = rw ew (le-max_left (get_or (block_set bounds row v) (4096 + row / 64 / 64) 0) count) in
      let was : get_or bounds (row / 64) 0 ≤ w = omega (arith, n.under (row / 64) (omega arith), rise_block (4096 + row / 64 / 64)) in
      rw ev (max-le was held)

  pub covers_stored : Covers bounds (both_set bounds row v w) row count
  covers_stored =
      record {
        nested =
            record {
              bounds_long = length-set (block_set bounds row v) (4096 + row / 64 / 64) w ∙ length-set bounds (row / 64) v ∙ n.bounds_long;
              under = λ b k.
                  let kept = get_or-set_other (block_set bounds row v) (4096 + row / 64 / 64) b w 0 (λ e. omega arith) in
                  ⊎_elim
                  (λ same.
                  let here = stored_at bounds (row / 64) v b block_fits same in
                  let there = stored_at (block_set bounds row v) (4096 + row / 64 / 64) w (4096 + b / 64) group_fits (omega arith) in
                  omega (arith, block_under_group))
                  (λ other.
                  let here = get_or-set_other bounds (row / 64) b v 0 other in
                  omega (arith, n.under b k, rise_block (4096 + b / 64), rise_group (4096 + b / 64)))
                  (same_or_other b (row / 64));
            };
        rise = λ b. omega (arith, rise_block b, rise_group b);
        here =
            let held : count ≤ v = rw ev (le-max_right (get_or bounds (row / 64) 0) count) in
            omega (arith, get_or-set_same bounds (row / 64) v 0 block_fits, rise_group (row / 64));
      }
