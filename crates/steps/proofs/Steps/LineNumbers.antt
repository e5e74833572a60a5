-- Lines alike: counted modulo 10,000,000,000 they print the same. And setting up on tables of C places with an accepted remap is refused for the settings only.
use mathlib.Core.Path.{◌≡◌, refl, ◌∙◌}
use mathlib.Core.Bool.{true}
use mathlib.Core.List.{List, [], ◌∷◌}
use mathlib.Core.Option.{Option, none, some}
use Prim.Native.Nat.{ℕ, zero, suc, ◌%◌}
use borrow.Author.Tests.{eq-eqb}
use lib.ListN.{length, replicate}
use Rattle.device.specs.declared.Settings.{Settings}
use Rattle.device.specs.Refusal.{unless, first_failed, refuse, Outcome, accepted, refused}
use Rattle.device.specs.Acceptance.{settings_tests}
use Rattle.device.specs.Remap.{remap_allowed}
use Rattle.device.proofs.Tests.{or_later}
use Rattle.state.specs.declared.Position.{Position}
use Rattle.state.specs.State.{tables_long}
use Rattle.tracker.specs.Calls.{SetUpCall, set_up_tests, set_up, activation_on, refresh_on}
use Rattle.tracker.proofs.Calls.Tests.{tables_tested, set_up_tested}
use Rattle.trace.specs.declared.Record.{Record}
use Rattle.trace.specs.declared.Record.TheVariants.{Set, Remap, Activate, Refresh, Blank}
use Rattle.trace.specs.Records.{sixteen_of}
use Rattle.columns.proofs.Output.{refusal_alike}
use Rattle.steps.specs.Steps.{Tracker, refused_step, set_up_step, answered, remap_step, activation_step, refresh_step, record_step_to, record_step, line_step_to, line_step}

module _ (n m : ℕ) (e : n % 10000000000 ≡ m % 10000000000) where
  answered_alike : (k : ℕ) (text : List ℕ) → answered n k text ≡ answered m k text
  unfolding answered
  answered_alike zero text = refl
  answered_alike (suc k) text = refusal_alike n m e (suc k)

  refused_alike : (k : ℕ) (t : Option Tracker) → refused_step n k t ≡ refused_step m k t
  unfolding refused_step
  refused_alike k t = rw (refusal_alike n m e k)

  set_up_step_alike : (s : Settings) (remap : List ℕ) (call : SetUpCall) (o : Outcome Position) → set_up_step n s remap call o ≡ set_up_step m s remap call o
  unfolding set_up_step
  set_up_step_alike s remap call (accepted p) = refl
  set_up_step_alike s remap call (refused k) = refused_alike k none

  record_alike : (loaded : List ℕ) (t : Option Tracker) (r : Record) → record_step n loaded t r ≡ record_step m loaded t r
  unfolding record_step_to remap_step activation_step refresh_step
  record_alike loaded t (Set s) =
      let call = set_up s loaded (replicate s.counters 0) (replicate s.counters 0) in
      set_up_step_alike s loaded call call.answer
  record_alike loaded t (Remap table) =
      rw (answered_alike (first_failed (unless (remap_allowed (sixteen_of table)) 14 ∷ [])) [])
  record_alike loaded none (Activate row hold) = refused_alike 11 none
  record_alike loaded (some t) (Activate row hold) = rw (answered_alike (activation_on t.settings t.remap t.state row hold).refusal [])
  record_alike loaded none Refresh = refused_alike 11 none
  record_alike loaded (some t) Refresh =
      rw (answered_alike (refresh_on t.settings t.state (replicate t.settings.volume 0)).refusal)
  record_alike loaded t Blank = refl

  -- any line
  pub line_alike : (loaded : List ℕ) (t : Option Tracker) (o : Outcome Record) → line_step n loaded t o ≡ line_step m loaded t o
  unfolding line_step_to
  line_alike loaded t (accepted r) = record_alike loaded t r
  line_alike loaded t (refused k) = refused_alike k t

or_later_twice : (k : ℕ) → or_later (or_later k 0) 0 ≡ or_later k 0
unfolding or_later
or_later_twice zero = refl
or_later_twice (suc k) = refl

-- setting up on tables of C places with an accepted remap is refused for the settings only
pub set_up_first : (s : Settings) (remap rows counts : List ℕ) → remap_allowed remap ≡ true → length rows ≡ s.counters → length counts ≡ s.counters → first_failed (set_up_tests s remap rows counts) ≡ or_later (first_failed (settings_tests s)) 0
unfolding tables_long refuse
set_up_first s remap rows counts ok h h' =
    set_up_tested s remap rows counts ∙
    rw (tables_tested s rows counts, eq-eqb (length rows) s.counters h, eq-eqb (length counts) s.counters h', ok) (or_later_twice (first_failed (settings_tests s)))
