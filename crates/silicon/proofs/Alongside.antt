-- The walk through a trace beside its listing: line by line, what stands on both sides goes together.
use mathlib.Core.Path.{◌≡◌, refl, sym, ◌∙◌, ap, subst}
use mathlib.Core.Bool.{true}
use mathlib.Core.List.{List, [], ◌∷◌, ◌++◌}
use mathlib.Core.Option.{Option}
use Prim.Native.Nat.{ℕ, suc}
use lib.ListN.{take, drop, take-append-drop}
use Rattle.device.specs.Refusal.{Outcome, accepted, refused, first_failed, unless}
use Rattle.device.specs.Remap.{remap_allowed}
use Rattle.device.proofs.Remap.{own_allowed}
use Rattle.trace.specs.declared.Record.{Record}
use Rattle.trace.specs.declared.Record.TheVariants.{Set, Remap, Activate, Refresh, Blank}
use Rattle.trace.specs.Records.{sixteen_of}
use Rattle.trace.specs.Texts.{outcomes}
use Rattle.steps.specs.Steps.{Tracker, Progress, start, refused_step, remap_step, activation_step, record_step_to, line_step_to, line_step, loaded_behind, step_to, next_to, next}
use Rattle.listing.specs.Texts.{listed_to, listed, passed, listing_to, listing}
use Rattle.steps.proofs.Memory.Progress.{loadable_behind}
use Rattle.silicon.specs.EventLines.{event_lines}
use Rattle.silicon.specs.Silicon.{Silicon, Walk, begin, record_by, behind, walked}
use Rattle.silicon.proofs.Pieces.{Quiet, quiet_refusal, quiet_set_up, quiet_answered}
use Rattle.silicon.proofs.Standing.{Stands, neither, both, earlier, Behind}
use Rattle.silicon.proofs.SettingsLine.{set_up_stands}
use Rattle.silicon.proofs.ActivationLine.{activation_stands, stopped_stays}
use Rattle.silicon.proofs.EventLine.{event_behind}

module _ {Own : Type 0} where
  -- a line that prints no `R` line
  quiet_behind : {t : Option Tracker} {x : Option Silicon} (loaded prints rest : List ℕ) (events : List (List ℕ)) → Quiet prints → (Own → events ≡ event_lines (prints ++ rest)) → Stands Own t x
      → Behind Own t loaded rest (record { silicon = x; loaded = loaded; events = events })
  quiet_behind loaded prints rest events quiet h stands =
      record { stands = stands; alike = refl; left = λ own. h own ∙ quiet.passes rest }

  -- any line
  line_behind : (number : ℕ) (loaded : List ℕ) (ok : remap_allowed loaded ≡ true) {t : Option Tracker} {x : Option Silicon} (events : List (List ℕ)) (rest : List ℕ) (o : Outcome Record) → Stands Own t x
      → (Own → events ≡ event_lines ((line_step number loaded t o).prints ++ rest))
      → Behind Own (line_step number loaded t o).tracker (loaded_behind loaded o) rest (behind (record { silicon = x; loaded = loaded; events = events }) o)
  unfolding behind record_by line_step_to record_step_to loaded_behind refused_step remap_step activation_step
  line_behind number loaded ok events rest (refused k) stands h = quiet_behind loaded _ rest events (quiet_refusal number k) h stands
  line_behind number loaded ok events rest (accepted (Set s)) stands h =
      quiet_behind loaded _ rest events (quiet_set_up number s loaded _ _) h (set_up_stands loaded ok number s stands)
  line_behind number loaded ok events rest (accepted (Remap table)) stands h =
      quiet_behind _ _ rest events (quiet_answered number (first_failed (unless (remap_allowed (sixteen_of table)) 14 ∷ []))) h stands
  line_behind number loaded ok events rest (accepted (Activate row hold)) neither h = quiet_behind loaded _ rest events (quiet_refusal number 11) h neither
  line_behind number loaded ok events rest (accepted (Activate row hold)) (both t did m) h =
      quiet_behind loaded _ rest events (quiet_answered number _) h (activation_stands t did m row hold number)
  line_behind number loaded ok events rest (accepted (Activate row hold)) (earlier t did m) h =
      quiet_behind loaded _ rest events (quiet_refusal number 11) h (stopped_stays t did m row hold)
  line_behind number loaded ok events rest (accepted Refresh) neither h = quiet_behind loaded _ rest events (quiet_refusal number 11) h neither
  line_behind number loaded ok events rest (accepted Refresh) (both t did m) h = event_behind t did m number t.state.position.events loaded events rest h
  line_behind number loaded ok events rest (accepted Refresh) (earlier t did m) h = quiet_behind loaded _ rest events (quiet_refusal number 11) h (earlier t did m)
  line_behind number loaded ok events rest (accepted Blank) stands h = record { stands = stands; alike = refl; left = h }

-- a walk is where the listing is, with lines still to come
pub record Alike (Own : Type 0) (g : Progress) (os : List (Outcome Record)) (w : Walk) : Type 0 where
  pub loadable : remap_allowed g.loaded ≡ true
  pub here : Behind Own g.tracker g.loaded (listed g os) w

module _ {Own : Type 0} where
  -- one line further
  alike_next : (g : Progress) (o : Outcome Record) (os : List (Outcome Record)) (w : Walk) → Alike Own g (o ∷ os) w → Alike Own (next g o) os (behind w o)
  unfolding listed_to step_to next_to
  alike_next g o os w a =
      let same : record { silicon = w.silicon; loaded = g.loaded; events = w.events } ≡ w =
      λ i. record { silicon = w.silicon; loaded = sym a.here.alike i; events = w.events } in
      record {
        loadable = loadable_behind g.loaded o a.loadable;
        here =
            subst (λ (v : Walk). Behind Own (next g o).tracker (next g o).loaded (listed (next g o) os) (behind v o)) same
            (line_behind (suc g.count) g.loaded a.loadable w.events (listed (next g o) os) o a.here.stands a.here.left);
      }

  alike_on : (g : Progress) (os ps : List (Outcome Record)) (w : Walk) → Alike Own g (os ++ ps) w → Alike Own (passed g os) ps (walked w os)
  unfolding passed walked
  alike_on g [] ps w a = a
  alike_on g (o ∷ os) ps w a = alike_on (next g o) os ps (behind w o) (alike_next g o (os ++ ps) w a)

  alike_begin : (given : List ℕ) (os : List (Outcome Record)) → (Own → given ≡ listed start os) → Alike Own start os (begin given)
  unfolding start begin
  alike_begin given os own_listing =
      record {
        loadable = own_allowed;
        here = record { stands = neither; alike = refl; left = λ own. ap event_lines (own_listing own) };
      }

  -- behind so many lines of a trace, with any listing, or with its own
  pub alike_after : (trace given : List ℕ) (count : ℕ) → (Own → given ≡ listing start trace)
      → Alike Own (passed start (take count (outcomes trace))) (drop count (outcomes trace)) (walked (begin given) (take count (outcomes trace)))
  unfolding listing_to
  alike_after trace given count own_listing =
      let os = outcomes trace in
      alike_on start (take count os) (drop count os) (begin given) (rw take-append-drop (alike_begin given os own_listing))
