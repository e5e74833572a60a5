-- A sequence of answers that meet their contracts is a run: a list of calls leads where it leads and tells the counter the same.
use mathlib.Core.Path.{◌≡◌, refl, sym, ◌∙◌, ap}
use mathlib.Core.List.{List, [], ◌∷◌, ◌++◌}
use lib.ListN.{take}
use Rattle.device.specs.declared.Settings.{Settings}
use Rattle.state.specs.State.{State, given}
use Rattle.tracker.specs.Calls.{SetUpCall, ActivationCall, RefreshCall}
use Rattle.tracker.specs.Answers.{set_up_call, activation_call, refresh_call}
use Rattle.limit.specs.Exact.{Happened, activated, refreshed}
use Rattle.limit.specs.Run.{Command, activation_of, refresh_into, left_by, told_by, state_after, happened, Begun}
use Rattle.limit.specs.Answered.{Answered, set_up_answered, activation_answered, refresh_answered}
use Rattle.limit.proofs.Run.{state_after_append, happened_append}

-- the run of a sequence of answers
pub record RunOf (s : Settings) (st : State) (told : List Happened) : Type 0 where
  pub begun : State
  pub starts : Begun s begun
  pub calls : List Command
  pub leads : st ≡ state_after s calls begun
  pub tells : told ≡ happened s calls begun

-- one call more
pub run_of_call : {s : Settings} {st : State} {told : List Happened} (c : Command) → RunOf s st told → (st' : State) (h : Happened) → st' ≡ left_by s c st → h ≡ told_by s c st → RunOf s st' (told ++ h ∷ [])
unfolding state_after happened
run_of_call {s} c k st' h left tells =
    record {
      begun = k.begun;
      starts = k.starts;
      calls = k.calls ++ c ∷ [];
      leads = rw (left, k.leads, state_after_append s k.calls (c ∷ []) k.begun);
      tells = rw (tells, k.leads, k.tells, happened_append s k.calls (c ∷ []) k.begun);
    }

pub answered_run : {s : Settings} {st : State} {told : List Happened} → Answered s st told → RunOf s st told
unfolding set_up_call activation_call refresh_call given state_after happened left_by told_by
answered_run (set_up_answered r p remap rows₀ counts₀ rows counts meets ready) =
    record {
      begun = given rows counts p;
      starts = record {
        remap = remap;
        rows = rows₀;
        counts = counts₀;
        accepts = sym (ap (λ (c : SetUpCall). c.answer) meets) ∙ ready;
        rows_left = ap (λ (c : SetUpCall). c.rows) meets;
        counts_left = ap (λ (c : SetUpCall). c.counts) meets;
      };
      calls = [];
      leads = refl;
      tells = refl;
    }
answered_run (activation_answered a remap row hold r rows counts meets) =
    run_of_call (activation_of remap row hold) (answered_run a) _ _
    (ap (λ (c : ActivationCall). c.state) meets)
    (ap (λ (c : ActivationCall). activated remap row hold c.accepts) meets)
answered_run (refresh_answered a list₀ r rows counts list meets) =
    run_of_call (refresh_into list₀) (answered_run a) _ _
    (ap (λ (c : RefreshCall). c.state) meets)
    (ap (λ (c : RefreshCall). refreshed c.accepts (take c.count c.picks)) meets)
