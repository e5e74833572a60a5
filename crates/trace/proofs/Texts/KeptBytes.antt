-- The bytes of a text that `keep` keeps: those from one place to another, by where they begin and how many they are.
use mathlib.Core.Path.{◌≡◌, sym, ◌∙◌, ap}
use mathlib.Core.List.{List}
use Prim.Native.Nat.{ℕ, ◌+◌, ◌-◌, ◌≤◌, min}
use native.Mathlib.Omega.{arith}
use lib.ListN.{length, take, drop, length-drop}
use lib.Seq.{length-take-le, take-take}
use Rattle.std.proofs.lemmas.List.{take_min, drop_min, drop-take}
use Rattle.trace.specs.Texts.{most_kept, kept_bytes}

module _ (t : List ℕ) (from to : ℕ) {end begin : ℕ} (e : end ≡ min to (length t)) (b : begin ≡ min from end) where
  -- however many are kept at most
  pub kept_within : {kept : ℕ} (most : ℕ) → kept ≡ min (end - begin) most → begin + kept ≤ length t
  kept_within most k = omega arith

  pub kept_is : {kept : ℕ} → kept ≡ min (end - begin) most_kept → take kept (drop begin t) ≡ kept_bytes from to t
  unfolding kept_bytes
  kept_is {kept} k =
      let part = take (end - begin) (drop begin t) in
      let long = length-take-le end t (omega arith) in
      let width = length-take-le (end - begin) (drop begin t) (omega (arith, length-drop begin t)) in
      let first : min from (length (take end t)) ≡ begin = omega arith in
      let all : begin + (end - begin) ≡ end = omega arith in
      let few : min most_kept (length part) ≡ kept = omega arith in
      let to_end : take to t ≡ take end t = rw e (sym (take_min to t)) in
      let from_begin : drop from (take end t) ≡ part =
      sym (drop_min from (take end t)) ∙ rw first (ap (λ (n : ℕ). drop begin (take n t)) (sym all) ∙ drop-take begin (end - begin) t) in
      sym (rw (to_end, from_begin) (sym (take_min most_kept part) ∙ rw few (take-take kept (end - begin) (drop begin t) (omega arith))))
