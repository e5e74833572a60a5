-- Laws of what private functions promise each other: where a byte 10 stands.
use mathlib.Core.Path.{◌≡◌, sym}
use mathlib.Core.Bool.{true}
use mathlib.Core.List.{List, ◌∷◌, ◌++◌}
use Prim.Native.Nat.{ℕ, suc, ◌+◌, ◌<◌}
use native.Mathlib.Omega.{arith}
use borrow.Author.Tests.{eqb-true, eq-eqb, lt-ltb, ltb-true}
use lib.Dec.{ltb}
use lib.ListN.{length, get_or, take, drop, length-drop}
use lib.Seq.{split_at}
use Rattle.laws.proofs.Cases.{split, clash}
use Rattle.trace.specs.InnerContracts.{ends_after}

-- the place of a byte 10 lies within the text
pub ends_after_lt : (w : ℕ) (text : List ℕ) → ends_after w text ≡ true → w < length text
unfolding ends_after
ends_after_lt w text h = split (ltb w (length text)) (λ e. ltb-true w (length text) e) (λ e. clash (sym (rw e at h)))

pub ends_after_within : (w at : ℕ) (text : List ℕ) → ends_after w (drop at text) ≡ true → at + w < length text
ends_after_within w at text h = omega (arith, length-drop at text, ends_after_lt w (drop at text) h)

ends_after_byte : (w : ℕ) (text : List ℕ) → ends_after w text ≡ true → get_or text w 0 ≡ 10
unfolding ends_after
ends_after_byte w text h =
    split (ltb w (length text)) (λ e. eqb-true (get_or text w 0) 10 (rw e at h)) (λ e. clash (sym (rw e at h)))

pub ends_after_true : (w : ℕ) (text : List ℕ) → w < length text → get_or text w 0 ≡ 10 → ends_after w text ≡ true
unfolding ends_after
ends_after_true w text h e = rw (lt-ltb _ _ h, eq-eqb _ _ e)

-- so the text is the line's bytes, byte 10 and the rest
pub ends_after_rest : (w : ℕ) (text : List ℕ) → ends_after w text ≡ true → text ≡ take w text ++ (10 ∷ drop (suc w) text)
ends_after_rest w text h = rw (ends_after_byte w text h) at (split_at text w 0 (ends_after_lt w text h))
