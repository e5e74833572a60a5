-- The claims, each under its statement's name.
use mathlib.Core.Path.{◌≡◌, refl, sym, ◌∙◌, ap, subst}
use mathlib.Core.Bool.{true, false}
use mathlib.Core.List.{List, []}
use mathlib.Core.Option.{Option, none, some, some-injective}
use Prim.Native.Nat.{ℕ, ◌*◌, ◌≤◌, ◌<◌}
use lib.ListN.{take}
use Rattle.laws.proofs.Cases.{clash, missing}
use Rattle.device.specs.declared.Settings.{Settings}
use Rattle.bound.specs.Totals.{bound_of}
use Rattle.limit.specs.Exact.{Happened, exact}
use Rattle.limit.specs.ByRow.{RowLimited}
use Rattle.limit.specs.Claims.{Demand3, RowLimit}
use Rattle.limit.proofs.Claims.{demand_3, row_limit}
use Rattle.trace.specs.declared.Record.TheVariants.{Activate}
use Rattle.trace.specs.Texts.{outcomes}
use Rattle.columns.proofs.Numbers.ReadBack.{narrow_by}
use Rattle.steps.specs.Steps.{Tracker, start, refused_step, record_step_to, record_step, line_step_to, step_to}
use Rattle.listing.specs.Texts.{passed}
use Rattle.checker.specs.Departure.{departure}
use Rattle.checker.specs.Claims.{PassesExactly}
use Rattle.checker.proofs.Claims.{passes_exactly}
use Rattle.silicon.specs.Silicon.{Silicon, takes, silicon_after}
use Rattle.silicon.specs.Claims.{NamesBack, StandsAs, StandsTogether, TakesTheAccepted, DidAs, DidAsRequired, SiliconLimited}
use Rattle.silicon.proofs.Names.{names_read}
use Rattle.silicon.proofs.Standing.{beside, beside_stopped, Matched, Stands, neither, both, earlier, matched_reached}
use Rattle.silicon.proofs.ActivationLine.{refusal_prints, taken_prints, prints_taken, stopped_takes}
use Rattle.silicon.proofs.Alongside.{alike_after}

pub names_back : NamesBack
unfolding NamesBack
names_back e rows few narrow = names_read e few (narrow_by rows narrow)

-- what stands on both sides
together_by : {Own : Type 0} {t : Option Tracker} {x : Option Silicon} → Stands Own t x
    → (t ≡ none → (d : Silicon) → x ≡ some d → d.stands ≡ false) × ((u : Tracker) → t ≡ some u → StandsAs u x)
together_by neither = (λ e d stood. missing stood, λ u e. missing e)
together_by (both t did m) = (
  λ e d stood. missing (sym e),
  λ u e.
      subst (λ (u : Tracker). StandsAs u (some (beside t did))) (some-injective t u e)
      (record { silicon = beside t did; found = refl; stands = refl; same_settings = refl; same_remap = refl; same_units = refl }),
)
together_by (earlier t did m) = (
  λ e d stood. sym (ap (λ (d : Silicon). d.stands) (some-injective (beside_stopped t did) d stood)),
  λ u e. missing e,
)

pub stands_together : StandsTogether
unfolding StandsTogether silicon_after
stands_together trace given count = together_by (alike_after {Own = ⊥} trace given count (λ own. absurd own)).here.stands

takes_by : {Own : Type 0} (number : ℕ) (loaded : List ℕ) {t : Option Tracker} {x : Option Silicon} (d : Silicon) → Stands Own t x → x ≡ some d → (row hold : ℕ)
    → (takes d row hold ≡ true → (record_step number loaded t (Activate row hold)).prints ≡ []) ×
    ((record_step number loaded t (Activate row hold)).prints ≡ [] → takes d row hold ≡ true)
unfolding record_step_to refused_step
takes_by number loaded d neither e row hold = missing e
takes_by number loaded d (both t did m) e row hold =
    subst
    (λ (d : Silicon).
    (takes d row hold ≡ true → (record_step number loaded (some t) (Activate row hold)).prints ≡ []) ×
    ((record_step number loaded (some t) (Activate row hold)).prints ≡ [] → takes d row hold ≡ true))
    (some-injective (beside t did) d e)
    (taken_prints t did m row hold number, prints_taken t did m row hold number)
takes_by number loaded d (earlier t did m) e row hold =
    let off : takes d row hold ≡ false =
    subst (λ (d : Silicon). takes d row hold ≡ false) (some-injective (beside_stopped t did) d e) (stopped_takes t did m row hold) in
    (λ on. clash (sym on ∙ off), λ nothing. absurd (refusal_prints number 11 nothing))

pub takes_the_accepted : TakesTheAccepted
unfolding TakesTheAccepted silicon_after step_to line_step_to
takes_the_accepted trace given count d e row hold =
    let a = alike_after {Own = ⊥} trace given count (λ own. absurd own) in
    takes_by _ _ d a.here.stands e row hold

-- the run that leads to the tracker tells what the silicon did
matched_did : (t : Tracker) (did : List Happened) → Matched (Unit {0}) t did → DidAs t (beside t did)
unfolding matched_reached
matched_did t did m = record { reached = matched_reached m; same = m.same tt ∙ m.run.tells }

did_by : {t : Option Tracker} {x : Option Silicon} → Stands (Unit {0}) t x → (u : Tracker) (d : Silicon) → t ≡ some u → x ≡ some d → DidAs u d
did_by neither u d e stood = missing e
did_by (both t did m) u d e stood =
    subst (λ (d : Silicon). DidAs u d) (some-injective (beside t did) d stood)
    (subst (λ (u : Tracker). DidAs u (beside t did)) (some-injective t u e) (matched_did t did m))
did_by (earlier t did m) u d e stood = missing e

-- behind a passed listing the `R` lines are the trace's own
passed_alike : (trace given : List ℕ) → departure trace given ≡ none → (count : ℕ)
    → Stands (Unit {0}) (passed start (take count (outcomes trace))).tracker (silicon_after count trace given)
unfolding PassesExactly silicon_after
passed_alike trace given passes count = (alike_after trace given count (λ own. (passes_exactly trace given).0 passes)).here.stands

pub did_as_required : DidAsRequired
unfolding DidAsRequired
did_as_required trace given passes count = did_by (passed_alike trace given passes count)

-- each row's limits
abbrev Limited : Settings → List Happened → ℕ → Type 0
Limited s did row =
    ((exact s did).disturbance row ≤ 2 * bound_of s) ×
    ((exact s did).refreshes < s.window → (exact s did).disturbance row ≤ bound_of s) ×
    RowLimited s (exact s did) row

matched_limited : (t : Tracker) (did : List Happened) → Matched (Unit {0}) t did → (row : ℕ) → row < t.settings.rows → Limited t.settings did row
unfolding Demand3 RowLimit
matched_limited t did m row inside =
    let r = m.run in
    let both_limits = demand_3 t.settings r.begun r.starts r.calls row inside in
    rw (m.same tt ∙ r.tells) (both_limits.0, both_limits.1, row_limit t.settings r.begun r.starts r.calls row inside)

limited_by : {t : Option Tracker} {x : Option Silicon} (d : Silicon) → Stands (Unit {0}) t x → x ≡ some d → (row : ℕ) → row < d.settings.rows → Limited d.settings d.did row
limited_by d neither e = missing e
limited_by d (both t did m) e =
    subst (λ (d : Silicon). (row : ℕ) → row < d.settings.rows → Limited d.settings d.did row) (some-injective (beside t did) d e) (matched_limited t did m)
limited_by d (earlier t did m) e =
    subst (λ (d : Silicon). (row : ℕ) → row < d.settings.rows → Limited d.settings d.did row) (some-injective (beside_stopped t did) d e) (matched_limited t did m)

pub silicon_limited : SiliconLimited
unfolding SiliconLimited
silicon_limited trace given passes count d = limited_by d (passed_alike trace given passes count)
