-- The bytes that a read leaves at hand.
use mathlib.Core.Path.{◌≡◌, sym, ap, ◌∙◌}
use mathlib.Core.List.{List, ◌++◌}
use Prim.Native.Nat.{ℕ, ◌+◌, ◌≤◌, zero, suc}
use native.Mathlib.Omega.{arith}
use lib.ListN.{length, take, drop, take-append-drop}
use lib.Seq.{take-take}
use Rattle.std.specs.Prelude.{Result, Ok, Err}
use Rattle.std.specs.Io.{ReadsAtMost}
use Rattle.std.specs.declared.io.Error.{Error}
use Rattle.input.specs.declared.Input.TheVariants.{Bytes}
use Rattle.input.specs.AtHand.{at_hand as bytes_at_hand, input_of, Within, Came}

-- what a read's answer says is within the text that the part lies in
pub within_input : (got : Result ℕ Error) (kept : ℕ) (part : List ℕ) (most : ℕ) → ReadsAtMost got part → kept + length part ≤ most → Within (input_of got kept) kept most
unfolding input_of bytes_at_hand Within
within_input (Ok zero) kept part most read h = tt
within_input (Ok (suc more)) kept part most read h = (omega arith, omega (arith, read))
within_input (Err e) kept part most read h = tt

-- the bytes at hand are those kept, and behind them those that the read brought
pub at_hand : {kept len : ℕ} {text text₁ : List ℕ} → Came (Bytes len) kept text text₁ → take len text₁ ≡ take kept text ++ drop kept (take len text₁)
unfolding Within
at_hand {kept} {len} {text} {text₁} c =
    let front : take kept (take len text₁) ≡ take kept text = take-take kept len text₁ (omega (arith, c.within.0)) ∙ c.front in
    sym (ap (λ (f : List ℕ). f ++ drop kept (take len text₁)) (sym front) ∙ take-append-drop kept (take len text₁))
