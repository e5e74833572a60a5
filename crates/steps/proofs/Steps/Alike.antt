-- Lines of settings whose N is judged alike where it may be up to another most: each does the same there and here. And such a line with N above it.
use mathlib.Core.Path.{◌≡◌, refl, ap}
use mathlib.Core.List.Memᴰ
use mathlib.Core.List.{List, ◌∷◌}
use mathlib.Core.Option.{Option, none, some}
use Prim.Native.Nat.{ℕ, suc, ◌<◌}
use lib.ListN.{replicate}
use Rattle.device.specs.declared.Settings.{Settings}
use Rattle.device.specs.Claims.{Alike}
use Rattle.device.specs.Refusal.{Outcome, accepted, refused}
use Rattle.state.specs.declared.Position.{Position}
use Rattle.tracker.specs.Calls.{SetUpCall, ActivationCall, RefreshCall}
use Rattle.tracker.specs.Claims.{CallsStay}
use Rattle.tracker.proofs.Claims.{calls_stay}
use Rattle.trace.specs.declared.Record.{Record}
use Rattle.trace.specs.declared.Record.TheVariants.{Set, Remap, Activate, Refresh, Blank}
use Rattle.trace.specs.Claims.{AllAlike}
use Rattle.steps.specs.Steps.{Tracker, Progress, refused_step, set_up_step, remap_step, activation_step, refresh_step, record_step_to, line_step_to, step_to, line_step}

-- the settings of a tracker that stands
unfoldable pub StandingAlike : ℕ → Option Tracker → Type 0
StandingAlike most none = Unit {0}
StandingAlike most (some t) = Alike most t.settings

pub line_same : (most number : ℕ) (loaded : List ℕ) (t : Option Tracker) (o : Outcome Record) (os : List (Outcome Record)) → StandingAlike most t → AllAlike most (o ∷ os) → line_step_to most number loaded t o ≡ line_step number loaded t o
unfolding StandingAlike line_step_to record_step_to CallsStay
line_same most number loaded t (refused k) os h all = refl
line_same most number loaded t (accepted (Set s)) os h all =
    ap (λ (call : SetUpCall). set_up_step number s loaded call call.answer)
    (((calls_stay most s).0 (all s (Memᴰ.head refl))).same_set_up loaded (replicate s.counters 0) (replicate s.counters 0))
line_same most number loaded t (accepted (Remap table)) os h all = refl
line_same most number loaded none (accepted (Activate row hold)) os h all = refl
line_same most number loaded (some t) (accepted (Activate row hold)) os h all =
    ap (λ (call : ActivationCall). activation_step number t.settings t.remap call) (((calls_stay most t.settings).0 h).same_activation t.remap t.state row hold)
line_same most number loaded none (accepted Refresh) os h all = refl
line_same most number loaded (some t) (accepted Refresh) os h all =
    ap (λ (call : RefreshCall). refresh_step number t.settings t.remap t.state.position.events call)
    (((calls_stay most t.settings).0 h).same_refresh t.state (replicate t.settings.volume 0))
line_same most number loaded t (accepted Blank) os h all = refl

set_up_alike : (most number : ℕ) (s : Settings) (remap : List ℕ) (call : SetUpCall) (answer : Outcome Position) → Alike most s → StandingAlike most (set_up_step number s remap call answer).tracker
unfolding StandingAlike set_up_step refused_step
set_up_alike most number s remap call (accepted p) h = h
set_up_alike most number s remap call (refused k) h = tt

pub line_stands_alike : (most number : ℕ) (loaded : List ℕ) (t : Option Tracker) (o : Outcome Record) (os : List (Outcome Record)) → StandingAlike most t → AllAlike most (o ∷ os) → StandingAlike most (line_step number loaded t o).tracker
unfolding StandingAlike line_step_to record_step_to refused_step remap_step activation_step refresh_step
line_stands_alike most number loaded t (refused k) os h all = h
line_stands_alike most number loaded t (accepted (Set s)) os h all = set_up_alike most number s loaded _ _ (all s (Memᴰ.head refl))
line_stands_alike most number loaded t (accepted (Remap table)) os h all = h
line_stands_alike most number loaded none (accepted (Activate row hold)) os h all = tt
line_stands_alike most number loaded (some t) (accepted (Activate row hold)) os h all = h
line_stands_alike most number loaded none (accepted Refresh) os h all = tt
line_stands_alike most number loaded (some t) (accepted Refresh) os h all = h
line_stands_alike most number loaded t (accepted Blank) os h all = h

-- a settings line with N above the most
pub step_above : (most : ℕ) (g : Progress) (s : Settings) → most < s.rows → step_to most g (accepted (Set s)) ≡ refused_step (suc g.count) 1 none
unfolding step_to line_step_to record_step_to set_up_step CallsStay
step_above most g s h =
    ap (λ (call : SetUpCall). set_up_step (suc g.count) s g.loaded call call.answer)
    (((calls_stay most s).1 h).refused_set_up g.loaded (replicate s.counters 0) (replicate s.counters 0))
