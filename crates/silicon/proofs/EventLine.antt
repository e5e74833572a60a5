-- An event line on both sides: it is accepted, the silicon refreshes the rows of the next `R` line, and behind the trace's own listing those are the picked rows.
use mathlib.Core.Path.{◌≡◌, refl, ◌∙◌, ap}
use mathlib.Core.Bool.{true}
use mathlib.Core.List.{List, [], ◌∷◌, ◌++◌}
use mathlib.Core.Option.{some}
use Prim.Native.Nat.{ℕ, ◌≤◌}
use native.Mathlib.Omega.{arith}
use lib.ListN.{length, replicate}
use Rattle.laws.proofs.Cases.{zero_one}
use Rattle.device.specs.declared.Settings.{Settings}
use Rattle.device.proofs.Acceptance.{accepted_settings}
use Rattle.summary.specs.Steps.{picked}
use Rattle.summary.specs.Rules.{Below, below_none, below_more}
use Rattle.summary.proofs.Entries.Picks.{picks_below}
use Rattle.state.specs.State.{State, summary_of, state_of}
use Rattle.state.proofs.StateOf.{read_back}
use Rattle.tracker.specs.Calls.{RefreshCall, kept_unless, refresh_to, refresh_on}
use Rattle.limit.specs.Exact.{Happened, refreshed}
use Rattle.limit.specs.Run.{refresh_into, left_by, told_by}
use Rattle.limit.specs.Reachable.{Reached}
use Rattle.limit.proofs.Run.{plain_held, state_inv_run}
use Rattle.limit.proofs.Reachable.{reached_accepted}
use Rattle.columns.proofs.Numbers.ReadBack.{Narrow, no_number, one_more}
use Rattle.steps.specs.Output.{refresh_line}
use Rattle.steps.specs.Steps.{Tracker, answered, refresh_step}
use Rattle.steps.proofs.Steps.ReachedCalls.{event_accepted, event_is, names_few}
use Rattle.steps.proofs.Steps.CallLines.{volume_most, list_long}
use Rattle.silicon.specs.EventLines.{rows_named, event_lines}
use Rattle.silicon.specs.Silicon.{refreshed_by, event_by}
use Rattle.silicon.proofs.Names.{names_read}
use Rattle.silicon.proofs.Pieces.{event_in_front}
use Rattle.silicon.proofs.Standing.{beside, Matched, Stands, Behind, stands_by, matched_reached, matched_on}

narrow_below : {high : ℕ} {rows : List ℕ} → high ≤ 1000000 → Below high rows → Narrow rows
narrow_below h below_none = no_number
narrow_below h (below_more row rows less) = one_more {n = row} (omega arith) (narrow_below h rows)

-- the picked rows are rows of the bank
picked_narrow : {s : Settings} {st : State} → Reached s st → Narrow (picked s.volume (summary_of st))
unfolding picked
picked_narrow {s} {st} r =
    let k = state_inv_run r.starts r.calls in
    let held = plain_held s (reached_accepted r) k.inv in
    let most = (accepted_settings s (reached_accepted r)).others.rows.most in
    rw (r.leads ∙ k.stored, read_back s k.events k.activations k.sum)
    (narrow_below (omega arith) (picks_below s.volume k.sum.entries held.sound.ordered))

names_picked : {s : Settings} {st : State} → Reached s st → (e : ℕ) → rows_named (refresh_line e (picked s.volume (summary_of st))) ≡ picked s.volume (summary_of st)
names_picked {s} {st} r e = names_read e (omega (arith, names_few s st, volume_most r)) (picked_narrow r)

nothing_left {ℓ} : {X : Type ℓ} {l : List ℕ} {ls : List (List ℕ)} → [] ≡ l ∷ ls → X
nothing_left e = zero_one (cc)

first_same : {l k : List ℕ} {ls ks : List (List ℕ)} → l ∷ ls ≡ k ∷ ks → l ≡ k
first_same e = cc

others_same : {l k : List ℕ} {ls ks : List (List ℕ)} → l ∷ ls ≡ k ∷ ks → ls ≡ ks
others_same e = cc

module _ {Own : Type 0} (t : Tracker) (did : List Happened) (m : Matched Own t did) where
  abbrev lent : List ℕ
  lent = replicate t.settings.volume 0

  abbrev call : RefreshCall
  call = refresh_on t.settings t.state lent

  abbrev named : List ℕ
  named = picked t.settings.volume (summary_of t.state)

  long : t.settings.volume ≤ length lent
  long = list_long t.settings.volume

  call_accepts : call.accepts ≡ true
  unfolding refresh_to
  call_accepts = rw (event_accepted (matched_reached m) lent long)

  call_units : call.state.position.activations ≡ 0
  unfolding refresh_to kept_unless state_of
  call_units = rw (event_accepted (matched_reached m) lent long)

  -- what the counter is told of it
  call_told : told_by t.settings (refresh_into lent) t.state ≡ refreshed true named
  unfolding told_by
  call_told = rw (call_accepts, (event_is (matched_reached m) lent long).named)

  -- whatever rows a listing names
  refreshed_stands : (rows : List ℕ) → (Own → rows ≡ named) → Stands Own (some (record { settings = t.settings; remap = t.remap; state = call.state })) (some (refreshed_by rows (beside t did)))
  unfolding refreshed_by left_by
  refreshed_stands rows same =
      let did' : List Happened = did ++ refreshed true rows ∷ [] in
      stands_by (record { settings = t.settings; remap = t.remap; state = call.state }) did' (refreshed_by rows (beside t did))
      (rw call_units)
      (matched_on m (refresh_into lent) did' (λ own. rw (call_told, same own)))

  event_prints : (number e : ℕ) → (refresh_step number t.settings t.remap e call).prints ≡ refresh_line e named
  unfolding refresh_step answered
  event_prints number e =
      let is = event_is (matched_reached m) lent long in
      rw (is.free, is.named)

  -- behind the trace's own listing its line is the next
  line_next : (number e : ℕ) (events : List (List ℕ)) (rest : List ℕ) → events ≡ event_lines ((refresh_step number t.settings t.remap e call).prints ++ rest)
      → events ≡ refresh_line e named ∷ event_lines rest
  line_next number e events rest h =
      h ∙ ap (λ (text : List ℕ). event_lines (text ++ rest)) (event_prints number e) ∙ event_in_front e named rest

  pub event_behind : (number e : ℕ) (loaded : List ℕ) (events : List (List ℕ)) (rest : List ℕ) → (Own → events ≡ event_lines ((refresh_step number t.settings t.remap e call).prints ++ rest))
      → Behind Own (refresh_step number t.settings t.remap e call).tracker loaded rest (event_by loaded events (beside t did))
  unfolding event_by refresh_step
  event_behind number e loaded [] rest h =
      let next : Own → [] ≡ refresh_line e named ∷ event_lines rest = λ own. line_next number e [] rest (h own) in
      record {
        stands = refreshed_stands [] (λ own. nothing_left (next own));
        alike = refl;
        left = λ own. nothing_left (next own);
      }
  event_behind number e loaded (l ∷ ls) rest h =
      let next : Own → l ∷ ls ≡ refresh_line e named ∷ event_lines rest = λ own. line_next number e (l ∷ ls) rest (h own) in
      record {
        stands = refreshed_stands (rows_named l) (λ own. ap rows_named (first_same (next own)) ∙ names_picked (matched_reached m) e);
        alike = refl;
        left = λ own. others_same (next own);
      }
