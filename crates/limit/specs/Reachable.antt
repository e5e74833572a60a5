-- The states that a list of calls can reach after an accepted setting up.
use Rattle.std.specs.Prelude.{◌≡◌, List}
use Rattle.device.specs.declared.Settings.{Settings}
use Rattle.state.specs.State.{State}
use Rattle.limit.specs.Run.{Command, Begun, state_after}

-- a state that some list of calls reaches after an accepted setting up
pub record Reached (s : Settings) (st : State) : Type 0 where
  pub begun : State
  pub starts : Begun s begun
  pub calls : List Command
  pub leads : st ≡ state_after s calls begun
