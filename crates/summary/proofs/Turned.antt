-- Steps on a summary one after the other, in whatever memory it is kept, and loops of them.
use mathlib.Core.Path.{◌≡◌, refl, ap, sym, ◌∙◌}
use mathlib.Core.List.{List, [], ◌∷◌, ◌++◌, append_assoc, append-nil}
use Prim.Native.Nat.{ℕ, suc, ◌+◌, ◌-◌, ◌≤◌, ◌<◌}
use native.Mathlib.Nat.{sub-zero}
use native.Mathlib.Numerals.{add-one}
use native.Mathlib.Omega.{arith}
use lib.ListN.{length, get_or, drop, set, length-append, length-drop}
use lib.Seq.{drop-cons, set_at}
use Rattle.device.specs.Victims.{rows_between}
use Rattle.device.proofs.Victims.{between_step}
use Rattle.summary.specs.Entries.{Entry, picks, without, without_all}
use Rattle.summary.specs.Steps.{Summary, disturb, disturb_each, drop_rows}
use Rattle.summary.specs.Rules.{Room}
use Rattle.summary.specs.InnerContracts.{PickedFrom, picked_out}
use Rattle.summary.specs.Ledger.{Turned}
use Rattle.summary.proofs.Entries.Picks.{picks_step, picks_none}

-- the rows left of a run
pub drop_next : (row high : ℕ) → row < high → (s : Summary) → drop_rows (rows_between row high) s ≡ drop_rows (rows_between (row + 1) high) (drop_rows (row ∷ []) s)
unfolding drop_rows without_all
drop_next row high less s = rw (between_step row high less)

pub disturb_next : (counters row high : ℕ) → row < high → (s : Summary) → disturb_each counters (rows_between row high) s ≡ disturb_each counters (rows_between (row + 1) high) (disturb counters row s)
unfolding disturb_each
disturb_next counters row high less s = rw (between_step row high less)

pub each_append : (counters : ℕ) (xs ys : List ℕ) (s : Summary) → disturb_each counters (xs ++ ys) s ≡ disturb_each counters ys (disturb_each counters xs s)
unfolding disturb_each
each_append counters [] ys s = refl
each_append counters (x ∷ xs) ys s = each_append counters xs ys (disturb counters x s)

-- what is picked of a summary that tracks no row
none_left : (m : ℕ) (es : List Entry) → [] ≡ picks 1 es → picks m es ≡ []
unfolding picks
none_left m [] e = picks_none m [] (omega arith)
none_left m (x ∷ xs) e = absurd (omega (arith, ap length e))

some_left : (r : ℕ) (es : List Entry) → r ∷ [] ≡ picks 1 es → 0 < length es
unfolding picks
some_left r [] e = absurd (omega (arith, ap length e))
some_left r (x ∷ xs) e = omega arith

module _ {A : Type 0} {kept : A → Type 0} {summary : A → Summary} {places bound : A → ℕ} {same : A → A → Type 0} where
  -- the same step, said otherwise
  pub turned_as : {f g : Summary → Summary} {a b : A} → Turned kept summary places bound same f a b → f (summary a) ≡ g (summary a) → Turned kept summary places bound same g a b
  turned_as t e = record { keeps = t.keeps; holds = t.holds ∙ e; as_many = t.as_many; one_bank = t.one_bank; one_memory = t.one_memory }

  -- a step that changes nothing
  pub turned_none : ((a : A) → same a a) → {f : Summary → Summary} {a : A} → kept a → summary a ≡ f (summary a) → Turned kept summary places bound same f a a
  turned_none same_self {a = a} k e = record { keeps = k; holds = e; as_many = refl; one_bank = refl; one_memory = same_self a }

  -- two steps
  pub turned_then : ((a b c : A) → same a b → same b c → same a c) → {f g h : Summary → Summary} {a b c : A} → Turned kept summary places bound same f a b → Turned kept summary places bound same g b c → g (f (summary a)) ≡ h (summary a) → Turned kept summary places bound same h a c
  turned_then trans {f} {g} {h} {a} {b} {c} t u e =
      record {
        keeps = u.keeps;
        holds = u.holds ∙ ap g t.holds ∙ e;
        as_many = u.as_many ∙ t.as_many;
        one_bank = u.one_bank ∙ t.one_bank;
        one_memory = trans a b c t.one_memory u.one_memory;
      }

  pub turned_room : {f : Summary → Summary} {a b : A} {most : ℕ} → Turned kept summary places bound same f a b → Room most (f (summary a)) → Room most (summary b)
  turned_room t r = rw t.holds r

-- a loop of steps: what is left to do on the summary as it is now is what was to be done on the one at the start
pub record Left {A : Type 0} (kept : A → Type 0) (summary : A → Summary) (places bound : A → ℕ) (same : A → A → Type 0) (whole rest : Summary → Summary) (a b : A) : Type 0 where
  pub keeps : kept b
  pub left : rest (summary b) ≡ whole (summary a)
  pub as_many : places b ≡ places a
  pub one_bank : bound b ≡ bound a
  pub one_memory : same a b

module _ {A : Type 0} {kept : A → Type 0} {summary : A → Summary} {places bound : A → ℕ} {same : A → A → Type 0} where
  pub left_init : ((a : A) → same a a) → {whole : Summary → Summary} {a : A} → kept a → Left kept summary places bound same whole whole a a
  left_init same_self {a = a} k = record { keeps = k; left = refl; as_many = refl; one_bank = refl; one_memory = same_self a }

  pub left_step : ((a b c : A) → same a b → same b c → same a c) → {whole rest rest' step : Summary → Summary} {a b c : A} → Left kept summary places bound same whole rest a b → Turned kept summary places bound same step b c → rest (summary b) ≡ rest' (step (summary b)) → Left kept summary places bound same whole rest' a c
  left_step trans {whole} {rest} {rest'} {step} {a} {b} {c} l t e =
      record {
        keeps = t.keeps;
        left = ap rest' t.holds ∙ sym e ∙ l.left;
        as_many = t.as_many ∙ l.as_many;
        one_bank = t.one_bank ∙ l.one_bank;
        one_memory = trans a b c l.one_memory t.one_memory;
      }

  -- the same rest, of what was to be done otherwise
  pub left_as : {whole rest whole' rest' : Summary → Summary} {a b : A} → Left kept summary places bound same whole rest a b → rest' (summary b) ≡ rest (summary b) → whole (summary a) ≡ whole' (summary a) → Left kept summary places bound same whole' rest' a b
  left_as l e e' = record { keeps = l.keeps; left = e ∙ l.left ∙ e'; as_many = l.as_many; one_bank = l.one_bank; one_memory = l.one_memory }

  pub left_done : {whole rest : Summary → Summary} {a b : A} → Left kept summary places bound same whole rest a b → rest (summary b) ≡ summary b → Turned kept summary places bound same whole a b
  left_done l e = record { keeps = l.keeps; holds = sym e ∙ l.left; as_many = l.as_many; one_bank = l.one_bank; one_memory = l.one_memory }

-- rows are picked into a list, i of them so far
pub record Picking {A : Type 0} (kept : A → Type 0) (summary : A → Summary) (places bound : A → ℕ) (same : A → A → Type 0) (volume : ℕ) (list₀ : List ℕ) (a b : A) (list : List ℕ) (i : ℕ) : Type 0 where
  pub names : List ℕ
  pub goes_on : Left kept summary places bound same (picked_out volume) (picked_out (volume - i)) a b
  pub counted : length names ≡ i
  pub picked : names ++ picks (volume - i) (summary b).entries ≡ picks volume (summary a).entries
  pub written : list ≡ names ++ drop i list₀
  pub most : i ≤ volume

module _ {A : Type 0} {kept : A → Type 0} {summary : A → Summary} {places bound : A → ℕ} {same : A → A → Type 0} {volume : ℕ} {list₀ : List ℕ} {a : A} where
  pub picking_init : ((a : A) → same a a) → kept a → Picking kept summary places bound same volume list₀ a a list₀ 0
  picking_init same_self k =
      record {
        names = [];
        goes_on = left_as (left_init same_self {whole = picked_out volume} k) (rw (sub-zero volume)) refl;
        counted = refl;
        picked = rw (sub-zero volume);
        written = refl;
        most = omega arith;
      }

  module _ {b : A} {list : List ℕ} {i : ℕ} (l : Picking kept summary places bound same volume list₀ a b list i) where
    pub picking_long : i ≤ length list₀ → length list ≡ length list₀
    picking_long fits = rw (l.written, length-append l.names (drop i list₀), length-drop i list₀, l.counted) (omega arith)

    pub picking_again : ((a b c : A) → same a b → same b c → same a c) → {c : A} {r : ℕ} → i < volume → volume ≤ length list₀ → r ∷ [] ≡ picks 1 (summary b).entries → Turned kept summary places bound same (picked_out 1) b c → Picking kept summary places bound same volume list₀ a c (set list i r) (i + 1)
    unfolding drop_rows without_all
    picking_again trans {c} {r} less fits one t =
        let sum = summary b in
        let left : volume - i ≡ suc (volume - (i + 1)) = omega arith in
        let step : picks (volume - i) sum.entries ≡ r ∷ picks (volume - (i + 1)) (without r sum.entries) =
        rw left (picks_step (volume - (i + 1)) r sum.entries (some_left r sum.entries one) one) in
        let taken : picked_out 1 sum ≡ drop_rows (r ∷ []) sum = ap (λ rows. drop_rows rows sum) (sym one) in
        let now : summary c ≡ drop_rows (r ∷ []) sum = t.holds ∙ taken in
        record {
          names = l.names ++ (r ∷ []);
          goes_on = left_step trans {rest' = picked_out (volume - (i + 1))} l.goes_on t (ap (λ rows. drop_rows rows sum) step ∙ ap (picked_out (volume - (i + 1))) (sym taken));
          counted = rw (length-append l.names (r ∷ [])) (omega (arith, l.counted));
          picked = rw (now, append_assoc l.names (r ∷ []) (picks (volume - (i + 1)) (without r sum.entries))) (rw step at l.picked);
          written =
              rw (l.written, drop-cons list₀ i 0 (omega arith), set_at l.names (get_or list₀ i 0) (drop (suc i) list₀) r i l.counted, add-one i)
              (sym (append_assoc l.names (r ∷ []) (drop (suc i) list₀)));
          most = omega arith;
        }

    picking_done : picks (volume - i) (summary b).entries ≡ [] → PickedFrom volume (summary a) list₀ list i × Turned kept summary places bound same (picked_out volume) a b
    unfolding drop_rows without_all
    picking_done none =
        let all : l.names ≡ picks volume (summary a).entries = sym (append-nil l.names) ∙ rw none at l.picked in (
          record { named = rw (← all, l.counted) l.written; counted = rw (← all) (sym l.counted) },
          left_done l.goes_on (ap (λ rows. drop_rows rows (summary b)) none),
        )

    -- as many as wanted are picked, or none is left to pick
    pub picking_full : volume ≤ i → PickedFrom volume (summary a) list₀ list volume × Turned kept summary places bound same (picked_out volume) a b
    unfolding picks
    picking_full full = let nothing : volume - i ≡ 0 = omega arith in let all : i ≡ volume = omega (arith, l.most) in rw all at (picking_done (rw nothing))

    pub picking_empty : ((a b c : A) → same a b → same b c → same a c) → {c : A} → [] ≡ picks 1 (summary b).entries → Turned kept summary places bound same (picked_out 1) b c → PickedFrom volume (summary a) list₀ list i × Turned kept summary places bound same (picked_out volume) a c
    unfolding drop_rows without_all
    picking_empty trans {c} one t =
        let sum = summary b in
        let none = none_left (volume - i) sum.entries one in
        let stay : picked_out 1 sum ≡ sum = ap (λ rows. drop_rows rows sum) (sym one) in
        let quiet : picked_out (volume - i) sum ≡ sum = ap (λ rows. drop_rows rows sum) none in
        let now : summary c ≡ sum = t.holds ∙ stay in (
          (picking_done none).0,
          left_done (left_step trans {rest' = picked_out (volume - i)} l.goes_on t (ap (picked_out (volume - i)) (sym stay)))
              (ap (picked_out (volume - i)) now ∙ quiet ∙ sym now),
        )
