-- What a step of a run asks and leaves: memory and tables that are a listing's, in buffers of fixed size.
use Rattle.std.specs.Prelude.{ℕ, ◌≤◌, ◌≡◌, List, length}
use Rattle.steps.specs.Memory.{memory, Ready, Banked}
use Rattle.turns.specs.declared.Turn.{Turn}

-- the tables are a listing's, and no more is kept or to be written than the buffers hold
pub record Carried (t : Turn) (counts marks bounds text out : List ℕ) : Type 0 where
  pub ready : Ready (memory t.place counts)
  pub banked : Banked t.place counts marks bounds
  pub text_long : length text ≡ 6144
  pub out_long : length out ≡ 339968
  pub kept_few : t.kept ≤ 6144
  pub end_few : t.end ≤ 339968

abbrev pub CarriedIn : Turn → List ℕ → List ℕ → List ℕ → List ℕ → List ℕ → Type 0
CarriedIn t counts marks bounds text out = Carried t counts marks bounds text out
