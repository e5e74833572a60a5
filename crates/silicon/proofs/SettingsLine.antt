-- A settings line on both sides: where the settings are accepted a tracker and the silicon begin anew, else no tracker stands and the silicon is stopped.
use mathlib.Core.Path.{◌≡◌, refl}
use mathlib.Core.Bool.{true}
use mathlib.Core.List.{List, []}
use mathlib.Core.Option.{Option, none, some}
use Prim.Native.Nat.{ℕ}
use borrow.Author.Tests.{eqb-true, eqb-false}
use lib.Dec.{eqb}
use lib.ListN.{replicate}
use Rattle.laws.proofs.Cases.{split}
use Rattle.device.specs.declared.Settings.{Settings}
use Rattle.device.specs.Refusal.{first_failed, tested}
use Rattle.device.specs.Acceptance.{settings_tests}
use Rattle.device.specs.Remap.{remap_allowed}
use Rattle.device.proofs.Tests.{or_later}
use Rattle.summary.specs.Steps.{empty}
use Rattle.state.specs.State.{state_of}
use Rattle.tracker.specs.Calls.{kept_unless, set_up_to}
use Rattle.limit.specs.Run.{Begun, state_after, happened}
use Rattle.trace.specs.declared.Record.TheVariants.{Set}
use Rattle.steps.specs.Steps.{Tracker, record_step}
use Rattle.steps.proofs.Steps.SettingsLine.{cleared_first, settings_refused, settings_stand}
use Rattle.silicon.specs.Silicon.{Silicon, stopped, set_up_by}
use Rattle.silicon.proofs.Standing.{Stands, neither, both, earlier, stands_by}

-- a refused `S` stops the silicon that stood, and leaves one that was stopped as it was
stopped_stands : {Own : Type 0} {t : Option Tracker} {x : Option Silicon} → Stands Own t x → Stands Own none (stopped x)
unfolding stopped
stopped_stands neither = neither
stopped_stands (both t did m) = earlier t did m
stopped_stands (earlier t did m) = earlier t did m

-- the loaded remap is an accepted one
module _ (loaded : List ℕ) (ok : remap_allowed loaded ≡ true) where
  settings_begin : (s : Settings) → first_failed (settings_tests s) ≡ 0 → Begun s (state_of s 0 0 empty)
  unfolding set_up_to tested kept_unless or_later
  settings_begin s e =
      record {
        remap = loaded;
        rows = replicate s.counters 0;
        counts = replicate s.counters 0;
        accepts = rw (cleared_first s loaded ok, e);
        rows_left = rw (cleared_first s loaded ok, e);
        counts_left = rw (cleared_first s loaded ok, e);
      }

  -- no call yet
  begins : (Own : Type 0) (s : Settings) → first_failed (settings_tests s) ≡ 0
      → Stands Own (some (record { settings = s; remap = loaded; state = state_of s 0 0 empty })) (some (record { stands = true; settings = s; remap = loaded; units = 0; did = [] }))
  unfolding state_of state_after happened
  begins Own s free =
      stands_by (record { settings = s; remap = loaded; state = state_of s 0 0 empty }) [] _ refl
      (record {
        allowed = ok;
        told = [];
        run = record { begun = state_of s 0 0 empty; starts = settings_begin s free; calls = []; leads = refl; tells = refl };
        same = λ own. refl;
      })

  pub set_up_stands : {Own : Type 0} (number : ℕ) (s : Settings) {t : Option Tracker} {x : Option Silicon} → Stands Own t x
      → Stands Own (record_step number loaded t (Set s)).tracker (set_up_by loaded x s)
  unfolding set_up_by
  set_up_stands {Own} number s {t} stands =
      split (eqb (first_failed (settings_tests s)) 0)
      (λ on.
      let free = eqb-true (first_failed (settings_tests s)) 0 on in
      rw (on, settings_stand loaded ok number s t free) (begins Own s free))
      (λ off. rw (off, settings_refused loaded ok number s t (eqb-false (first_failed (settings_tests s)) 0 off)) (stopped_stands stands))
