-- `same_settings`, `same_position` and `same_tracked`: they say yes exactly where settings, positions and entries are the same.
use mathlib.Core.Path.{◌≡◌, refl, sym, ap, ◌∙◌}
use mathlib.Core.Bool.{Bool, true, ◌&&◌}
use mathlib.Core.List.{List, [], ◌∷◌}
use Prim.Native.Nat.{ℕ, zero, suc}
use borrow.Author.Tests.{eqb-true, eq-eqb}
use lib.Dec.{eqb}
use lib.ListN.{take}
use Rattle.std.specs.Cmp.Lexicographic.{pointwise}
use Rattle.laws.specs.Same.{same}
use Rattle.laws.proofs.Cases.{and_both}
use Rattle.laws.proofs.Same.{same_alike, alike_same}
use Rattle.device.specs.declared.Settings.{Settings}
use Rattle.summary.specs.Entries.{Entry}
use Rattle.summary.specs.Tables.{entries_of, read}
use Rattle.state.specs.declared.Position.{Position}
use Rattle.state.specs.State.{State, summary_of}
use Rattle.agreement.specs.Calls.{same_settings, same_position, same_tracked}

itself : (n : ℕ) → eqb n n ≡ true
itself n = eq-eqb n n refl

pub same_settings_alike : (s s' : Settings) → same_settings s s' ≡ true → s ≡ s'
unfolding same_settings
same_settings_alike s s' e =
    let p6 = and_both _ (eqb s.block s'.block) e in
    let p5 = and_both _ (eqb s.window s'.window) p6.0 in
    let p4 = and_both _ (eqb s.interval s'.interval) p5.0 in
    let p3 = and_both _ (eqb s.counters s'.counters) p4.0 in
    let p2 = and_both _ (eqb s.volume s'.volume) p3.0 in
    let p1 = and_both (eqb s.rows s'.rows) (eqb s.blast_diameter s'.blast_diameter) p2.0 in
    λ i. record {
      rows = eqb-true s.rows s'.rows p1.0 i;
      blast_diameter = eqb-true s.blast_diameter s'.blast_diameter p1.1 i;
      volume = eqb-true s.volume s'.volume p2.1 i;
      counters = eqb-true s.counters s'.counters p3.1 i;
      interval = eqb-true s.interval s'.interval p4.1 i;
      window = eqb-true s.window s'.window p5.1 i;
      block = eqb-true s.block s'.block p6.1 i;
    }

pub alike_same_settings : (s : Settings) → same_settings s s ≡ true
unfolding same_settings
alike_same_settings s = rw (itself s.rows, itself s.blast_diameter, itself s.volume, itself s.counters, itself s.interval, itself s.window, itself s.block)

pub same_position_alike : (p p' : Position) → same_position p p' ≡ true → p ≡ p'
unfolding same_position
same_position_alike p p' e =
    let p3 = and_both _ (eqb p.spillover p'.spillover) e in
    let p2 = and_both _ (eqb p.tracked p'.tracked) p3.0 in
    let p1 = and_both (eqb p.events p'.events) (eqb p.activations p'.activations) p2.0 in
    λ i. record {
      events = eqb-true p.events p'.events p1.0 i;
      activations = eqb-true p.activations p'.activations p1.1 i;
      tracked = eqb-true p.tracked p'.tracked p2.1 i;
      spillover = eqb-true p.spillover p'.spillover p3.1 i;
    }

pub alike_same_position : (p : Position) → same_position p p ≡ true
unfolding same_position
alike_same_position p = simp (itself p.events, itself p.activations, itself p.tracked, itself p.spillover)

pub alike_same_tracked : (st : State) → same_tracked st st ≡ true
unfolding same_tracked
alike_same_tracked st = rw (alike_same (take st.position.tracked st.rows), alike_same (take st.position.tracked st.counts))

-- what `==` says of two slices
pub same_compared : (l m : List ℕ) → pointwise eqb l m ≡ same l m
unfolding same
same_compared [] [] = refl
same_compared [] (y ∷ ys) = refl
same_compared (x ∷ xs) [] = refl
same_compared (x ∷ xs) (y ∷ ys) = ap (λ (b : Bool). eqb x y && b) (same_compared xs ys)

-- the entries are read from the fronts of the tables
entries_front : (k : ℕ) (rows counts : List ℕ) → entries_of k rows counts ≡ entries_of k (take k rows) (take k counts)
unfolding entries_of
entries_front zero rows counts = refl
entries_front (suc k) [] counts = refl
entries_front (suc k) (row ∷ rows) [] = refl
entries_front (suc k) (row ∷ rows) (count ∷ counts) = ap (λ (es : List Entry). record { row = row; count = count } ∷ es) (entries_front k rows counts)

pub same_tracked_alike : (st st' : State) → st.position ≡ st'.position → same_tracked st st' ≡ true → (summary_of st).entries ≡ (summary_of st').entries
unfolding same_tracked summary_of read
same_tracked_alike st st' e same_ones =
    let k = st.position.tracked in
    let k' = st'.position.tracked in
    let parts = and_both (same (take k st.rows) (take k' st'.rows)) (same (take k st.counts) (take k' st'.counts)) same_ones in
    let tracked : k ≡ k' = ap (λ (p : Position). p.tracked) e in
    let rows = same_alike (take k st.rows) (take k' st'.rows) parts.0 in
    let counts = same_alike (take k st.counts) (take k' st'.counts) parts.1 in
    entries_front k st.rows st.counts ∙ (λ i. entries_of (tracked i) (rows i) (counts i)) ∙ sym (entries_front k' st'.rows st'.counts)
