-- What a step of a run asks and leaves: buffers of fixed size.
use Rattle.std.specs.Prelude.{ℕ, ◌≤◌, ◌≡◌, List, length}
use Rattle.tracefmt.specs.declared.Turn.{Turn}

-- no more is kept or to be written than the buffers hold
pub record Carried (t : Turn) (text out : List ℕ) : Type 0 where
  pub text_long : length text ≡ 65536
  pub out_long : length out ≡ 65536
  pub kept_few : t.kept ≤ 65536
  pub end_few : t.end ≤ 65536

abbrev pub CarriedIn : Turn → List ℕ → List ℕ → Type 0
CarriedIn t text out = Carried t text out
