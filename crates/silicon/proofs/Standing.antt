-- The silicon beside a listing's tracker: the same settings, remap and units, and the accepted calls that lead to the tracker's state.
use mathlib.Core.Path.{◌≡◌, refl, ◌∙◌, ap, subst}
use mathlib.Core.Bool.{Bool, true, false, not, ◌&&◌}
use mathlib.Core.List.{List, [], ◌∷◌, ◌++◌}
use mathlib.Core.Option.{Option, none, some}
use Prim.Native.Nat.{ℕ, ◌+◌}
use lib.Dec.{eqb, leb, ltb}
use Rattle.device.specs.Refusal.{first_failed, refuse}
use Rattle.device.specs.Remap.{remap_allowed}
use Rattle.device.specs.Hold.{hold_allowed}
use Rattle.tracker.specs.Calls.{activation_tests}
use Rattle.limit.specs.Exact.{Happened}
use Rattle.limit.specs.Run.{Command, left_by, told_by}
use Rattle.limit.specs.Reachable.{Reached}
use Rattle.limit.proofs.Answered.{RunOf, run_of_call}
use Rattle.limit.proofs.Reachable.{activation_refused_with}
use Rattle.steps.specs.Steps.{Tracker}
use Rattle.silicon.specs.EventLines.{event_lines}
use Rattle.silicon.specs.Silicon.{Silicon, takes, Walk}

-- the silicon of a tracker that stands, with what it did
abbrev pub beside : Tracker → List Happened → Silicon
beside t did =
    record { stands = true; settings = t.settings; remap = t.remap; units = t.state.position.activations; did = did }

-- and of one that stood before an `S` was refused
abbrev pub beside_stopped : Tracker → List Happened → Silicon
beside_stopped t did =
    record { stands = false; settings = t.settings; remap = t.remap; units = t.state.position.activations; did = did }

-- a run of calls leads to the tracker's state, and if Own, that the `R` lines are the trace's own, the silicon did what the counter is told of it
pub record Matched (Own : Type 0) (t : Tracker) (did : List Happened) : Type 0 where
  pub allowed : remap_allowed t.remap ≡ true
  pub told : List Happened
  pub run : RunOf t.settings t.state told
  pub same : Own → did ≡ told

-- a tracker and the silicon stand, or neither, or no tracker stands and the silicon is that of an earlier one
pub data Stands (Own : Type 0) : Option Tracker → Option Silicon → Type 0 where
  neither : Stands Own none none
  both : (t : Tracker) (did : List Happened) → Matched Own t did → Stands Own (some t) (some (beside t did))
  earlier : (t : Tracker) (did : List Happened) → Matched Own t did → Stands Own none (some (beside_stopped t did))

pub stands_by : {Own : Type 0} (t : Tracker) (did : List Happened) (d : Silicon) → beside t did ≡ d → Matched Own t did → Stands Own (some t) (some d)
stands_by {Own} t did d same m = subst (λ (x : Silicon). Stands Own (some t) (some x)) same (both t did m)

module _ {Own : Type 0} {t : Tracker} {did : List Happened} (m : Matched Own t did) where
  unfoldable pub matched_reached : Reached t.settings t.state
  matched_reached = let r = m.run in record { begun = r.begun; starts = r.starts; calls = r.calls; leads = r.leads }

  -- one call more
  pub matched_on : (c : Command) (did' : List Happened) → (Own → did' ≡ did ++ told_by t.settings c t.state ∷ [])
      → Matched Own (record { settings = t.settings; remap = t.remap; state = left_by t.settings c t.state }) did'
  matched_on c did' same =
      let one = told_by t.settings c t.state in
      record {
        allowed = m.allowed;
        told = m.told ++ one ∷ [];
        run = run_of_call c m.run _ one refl refl;
        same = λ own. same own ∙ ap (λ (told : List Happened). told ++ one ∷ []) (m.same own);
      }

none_refuses : (inside held spare allowed : Bool) → allowed ≡ true
    → eqb (refuse (not inside) 9 (refuse (not held) 15 (refuse (not allowed) 14 (refuse (not spare) 22 0)))) 0 ≡ (inside && held && spare)
unfolding refuse
none_refuses false held spare allowed ok = refl
none_refuses true false spare allowed ok = refl
none_refuses true true false allowed ok = rw ok
none_refuses true true true allowed ok = rw ok

-- the silicon takes an activation where no test of the tracker's refuses it
module _ {Own : Type 0} {t : Tracker} {did : List Happened} (m : Matched Own t did) (row hold : ℕ) where
  pub accepts_taken : eqb (first_failed (activation_tests t.settings t.remap t.state row hold)) 0 ≡ takes (beside t did) row hold
  unfolding takes
  accepts_taken =
      let s = t.settings in
      rw (activation_refused_with (matched_reached m) t.remap row hold)
      (none_refuses (ltb row s.rows) (hold_allowed hold) (leb (t.state.position.activations + hold) s.interval) (remap_allowed t.remap) m.allowed)

-- behind a line: what stands on both sides, the remap that is loaded, and if Own the `R` lines that are left, those of the text still to be printed
pub record Behind (Own : Type 0) (t : Option Tracker) (loaded rest : List ℕ) (w : Walk) : Type 0 where
  pub stands : Stands Own t w.silicon
  pub alike : w.loaded ≡ loaded
  pub left : Own → w.events ≡ event_lines rest
