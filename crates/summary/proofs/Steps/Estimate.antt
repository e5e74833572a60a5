-- Estimates: a disturbance raises the disturbed row's by at least 1 and lowers none; a drop leaves the other rows' as they are.
use mathlib.Core.Path.{◌≡◌, refl, ◌∙◌, sym, subst}
use mathlib.Core.Bool.{true, false}
use mathlib.Core.List.{List, [], ◌∷◌}
use Prim.Native.Nat.{ℕ, ◌+◌, ◌≤◌}
use native.Mathlib.Omega.{arith}
use borrow.Author.Tests.{eqb-true, eqb-false, ne_eqb}
use lib.Dec.{eqb, ltb}
use Rattle.laws.proofs.Cases.{split, zero_one, or_neither}
use Rattle.device.proofs.Occurrences.{hit, times, hit_le, hit_other}
use Rattle.summary.specs.Entries.{Entry, has, count_or, without, without_all, raised, entered, without_count}
use Rattle.summary.specs.Steps.{Summary, estimate, disturb, drop_rows}
use Rattle.summary.specs.Rules.{Floor, floor_none, floor_more}
use Rattle.summary.proofs.Steps.Disturb.{by_cases}
use Rattle.summary.proofs.Entries.Tracked.{untracked_without_count}

module _ (other row : ℕ) where
  count_untracked : (es : List Entry) → has row es ≡ false → count_or other row es ≡ other
  unfolding has count_or
  count_untracked [] e = refl
  count_untracked (x ∷ xs) e =
      let parts = or_neither (eqb x.row row) (has row xs) e in
      rw parts.0 (count_untracked xs parts.1)

  count_floor : {es : List Entry} → Floor other es → other ≤ count_or other row es
  unfolding count_or
  count_floor floor_none = omega arith
  count_floor (floor_more x f l) = split (eqb x.row row) (λ e. rw e l) (λ e. rw e (count_floor f))

  count_raised : (v : ℕ) (es : List Entry) → has v es ≡ true → count_or other row es + hit v row ≤ count_or other row (raised v es)
  unfolding has count_or raised
  count_raised v [] e = zero_one (cc)
  count_raised v (x ∷ xs) e =
      split (eqb x.row v)
      (λ this.
      let same = eqb-true x.row v this in
      split (eqb x.row row)
      (λ on. rw (this, on) (omega (arith, hit_le v row)))
      (λ off. rw (this, off) (omega (arith, hit_other v row (λ q. eqb-false x.row row off (same ∙ q))))))
      (λ another.
      split (eqb x.row row)
      (λ on. rw (another, on) (omega (arith, hit_other v row (λ q. eqb-false x.row v another (eqb-true x.row row on ∙ sym q)))))
      (λ off. rw (another, off) (count_raised v xs (rw another at e))))

  count_entered : (v : ℕ) (es : List Entry) → has v es ≡ false → count_or other row es + hit v row ≤ count_or other row (entered v (other + 1) es)
  unfolding has count_or entered hit
  count_entered v [] e = split (eqb v row) (λ on. rw on (omega arith)) (λ off. rw off (omega arith))
  count_entered v (x ∷ xs) e =
      let parts = or_neither (eqb x.row v) (has v xs) e in
      split (ltb v x.row)
      (λ front.
      split (eqb v row)
      (λ on.
      let same = eqb-true v row on in
      rw (front, on) (omega (arith, count_untracked (x ∷ xs) (subst (λ (q : ℕ). has q (x ∷ xs) ≡ false) same e))))
      (λ off. rw (front, off) (omega arith)))
      (λ behind.
      split (eqb x.row row)
      (λ on.
      let off : eqb v row ≡ false = ne_eqb v row (λ q. eqb-false x.row v parts.0 (eqb-true x.row row on ∙ sym q)) in
      rw (behind, on, off) (omega arith))
      (λ off. rw (behind, off) (count_entered v xs parts.1)))

  count_without_count : {es : List Entry} → Floor other es → count_or other row es ≤ count_or other row (without_count other es)
  unfolding count_or without_count
  count_without_count floor_none = omega arith
  count_without_count (floor_more x {xs} f l) =
      split (eqb x.count other)
      (λ low.
      let same = eqb-true x.count other low in
      split (eqb x.row row)
      (λ on. rw (low, on) (omega (arith, count_floor f)))
      (λ off. rw (low, off) (omega arith)))
      (λ high.
      split (eqb x.row row) (λ on. rw (high, on) (omega arith)) (λ off. rw (high, off) (count_without_count f)))

  count_spill : (v : ℕ) (es : List Entry) → has v es ≡ false → count_or other row es + hit v row ≤ count_or (other + 1) row es
  unfolding has count_or
  count_spill v [] e = omega (arith, hit_le v row)
  count_spill v (x ∷ xs) e =
      let parts = or_neither (eqb x.row v) (has v xs) e in
      split (eqb x.row row)
      (λ on. rw on (omega (arith, hit_other v row (λ q. eqb-false x.row v parts.0 (eqb-true x.row row on ∙ sym q)))))
      (λ off. rw off (count_spill v xs parts.1))

  pub count_without : (v : ℕ) (es : List Entry) → (v ≡ row → ⊥) → count_or other row (without v es) ≡ count_or other row es
  unfolding count_or without
  count_without v [] h = refl
  count_without v (x ∷ xs) h =
      split (eqb x.row v)
      (λ this.
      let off : eqb x.row row ≡ false = ne_eqb x.row row (λ q. h (sym (eqb-true x.row v this) ∙ q)) in
      rw (this, off))
      (λ another. rw another (split (eqb x.row row) (λ on. rw on) (λ off. rw off (count_without v xs h))))

  count_without_all : (rows : List ℕ) (es : List Entry) → times row rows ≡ 0 → count_or other row (without_all rows es) ≡ count_or other row es
  unfolding without_all times hit
  count_without_all [] es e = refl
  count_without_all (v ∷ vs) es e =
      split (eqb v row)
      (λ on. absurd (let e' = rw on at e in omega arith))
      (λ off. count_without_all vs (without v es) (omega (arith, rw off at e)) ∙ count_without v es (eqb-false v row off))

-- a disturbance raises the row's estimate by at least 1, and lowers none
pub estimate_disturb : (counters v row : ℕ) (s : Summary) → Floor s.spillover s.entries → estimate s row + hit v row ≤ estimate (disturb counters v s) row
unfolding estimate
estimate_disturb counters v row s f =
    let other : ℕ = s.spillover in
    let es : List Entry = s.entries in
    by_cases (λ made. estimate s row + hit v row ≤ estimate made row) counters v s
    (λ tracked. count_raised other row v es tracked)
    (λ untracked free. count_entered other row v es untracked)
    (λ untracked full low.
    omega (
      arith,
      count_without_count other row f,
      count_entered other row v (without_count other es) (untracked_without_count v other es untracked),
    ))
    (λ untracked full high. count_spill other row v es untracked)

-- a drop leaves the estimates of the rows that are not dropped
pub estimate_drop : (row : ℕ) (rows : List ℕ) (s : Summary) → times row rows ≡ 0 → estimate (drop_rows rows s) row ≡ estimate s row
unfolding estimate drop_rows
estimate_drop row rows s e = count_without_all s.spillover row rows s.entries e
