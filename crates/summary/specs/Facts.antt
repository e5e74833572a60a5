-- That two tables hold a summary is a fact, which a ghost field may say: it holds in one way. Nobody has to believe it: antt checks it.
use mathlib.Core.Path.{refl, ap, ◌∙◌}
use mathlib.Core.List.{List}
use Prim.Native.Nat.{ℕ}
use native.Mathlib.Nat.{ℕ_set}
use native.Mathlib.Bridge.{le_prop}
use Rattle.std.proofs.Props.{props}
use Rattle.summary.specs.Entries.{Entry}
use Rattle.summary.specs.Steps.{Summary}
use Rattle.summary.specs.Rules.{Floor, floor_none, floor_more, Ordered, ordered_none, ordered_more, Sound}
use Rattle.summary.specs.InnerContracts.{Holds}

pub floor_prop : (low : ℕ) (es : List Entry) → IsProp (Floor low es)
floor_prop low es floor_none floor_none = refl
floor_prop low es (floor_more x {xs} f h) (floor_more _ g k) = ap (λ p. floor_more x p h) (floor_prop low xs f g) ∙ ap (λ q. floor_more x g q) (le_prop h k)

pub ordered_prop : (high low : ℕ) (es : List Entry) → IsProp (Ordered high low es)
ordered_prop high low es ordered_none ordered_none = refl
ordered_prop high low es (ordered_more _ x {xs} f h l) (ordered_more _ _ g k m) =
    ap (λ p. ordered_more low x p h l) (ordered_prop high _ xs f g) ∙ ap (λ q. ordered_more low x g q l) (le_prop h k) ∙ ap (λ q. ordered_more low x g k q) (le_prop l m)

pub sound_prop : (high counters : ℕ) (s : Summary) → IsProp (Sound high counters s)
sound_prop high counters s = hlevel (props, le_prop, floor_prop, ordered_prop)

pub holds_prop : (places high : ℕ) (sum : Summary) (rows counts : List ℕ) (tracked spillover : ℕ) → IsProp (Holds places high sum rows counts tracked spillover)
holds_prop places high sum rows counts tracked spillover = hlevel (props, ℕ_set, sound_prop)
