-- How long the printed lines are: at most 110 bytes, and nothing for a blank line; so at most 55 bytes for each byte of the text.
use mathlib.Core.Path.{◌≡◌, refl, sym}
use mathlib.Core.Bool.{true}
use mathlib.Core.List.{List, [], ◌∷◌}
use mathlib.Core.Option.{Option, none, some}
use Prim.Native.Nat.{ℕ, zero, suc, ◌+◌, ◌*◌, ◌≤◌}
use native.Mathlib.Omega.{arith}
use borrow.Author.Tests.{eqb-true}
use lib.Dec.{eqb}
use lib.ListN.{length, take, replicate, length-append}
use Rattle.device.specs.declared.Settings.{Settings}
use Rattle.device.specs.Refusal.{Outcome, accepted, refused}
use Rattle.bound.specs.Totals.{bound_of}
use Rattle.summary.specs.Steps.{picked}
use Rattle.state.specs.declared.Position.{Position}
use Rattle.state.specs.State.{State, summary_of}
use Rattle.tracker.specs.Calls.{SetUpCall, refresh_on}
use Rattle.limit.specs.Reachable.{Reached}
use Rattle.trace.specs.declared.Record.{Record}
use Rattle.trace.specs.declared.Record.TheVariants.{Set, Remap, Activate, Refresh, Blank}
use Rattle.trace.specs.Lines.{line as line_bytes, ended}
use Rattle.trace.specs.Records.{record_of}
use Rattle.trace.specs.Reading.{reading, reading_by, or_refused}
use Rattle.columns.proofs.Numbers.Printed.{length_printed}
use Rattle.laws.proofs.Cases.{split, clash}
use Rattle.steps.specs.Output.{bound_line, refresh_line}
use Rattle.steps.specs.Steps.{Tracker, refused_step, set_up_step, answered, remap_step, activation_step, refresh_step, record_step_to, line_step_to, line_step}
use Rattle.trace.specs.Texts.{read}
use Rattle.steps.specs.Memory.{Running}
use Rattle.steps.proofs.Steps.ReachedCalls.{event_is, names_few}
use Rattle.steps.proofs.Steps.CallLines.{volume_most, list_long}
use Rattle.columns.proofs.Output.{length_number_columns, length_refusal_line}

length_bound_line : (h : ℕ) → length (bound_line h) ≡ 22
unfolding bound_line
length_bound_line h = simp length-append (omega (arith, length_printed 10 h, length_printed 10 (2 * h)))

length_refresh_line : (e : ℕ) (picks : List ℕ) → length (refresh_line e picks) ≡ 14 + 6 * length picks
unfolding refresh_line
length_refresh_line e picks =
    simp length-append (omega (arith, length_printed 6 e, length_printed 6 (length picks), length_number_columns picks))

set_up_most : (number : ℕ) (s : Settings) (remap : List ℕ) (call : SetUpCall) (o : Outcome Position) → length (set_up_step number s remap call o).prints ≤ 110
unfolding set_up_step refused_step
set_up_most number s remap call (accepted p) = omega (arith, length_bound_line (bound_of s))
set_up_most number s remap call (refused k) = omega (arith, length_refusal_line number k)

answered_most : (number k : ℕ) (text : List ℕ) → length text ≤ 110 → length (answered number k text) ≤ 110
unfolding answered
answered_most number zero text h = h
answered_most number (suc k) text h = omega (arith, length_refusal_line number (suc k))

names_most : {s : Settings} {st : State} → Reached s st → (e : ℕ) → length (refresh_line e (take (refresh_on s st (replicate s.volume 0)).count (refresh_on s st (replicate s.volume 0)).picks)) ≤ 110
names_most {s} {st} r e =
    rw (event_is r (replicate s.volume 0) (list_long s.volume)).named
    (omega (arith, length_refresh_line e (picked s.volume (summary_of st)), names_few s st, volume_most r))

pub length_step_le : (number : ℕ) (loaded : List ℕ) (t : Option Tracker) (o : Outcome Record) → Running t → length (line_step number loaded t o).prints ≤ 110
unfolding Running line_step_to record_step_to refused_step remap_step activation_step refresh_step
length_step_le number loaded t (refused k) r = omega (arith, length_refusal_line number k)
length_step_le number loaded t (accepted (Set s)) r = set_up_most number s loaded _ _
length_step_le number loaded t (accepted (Remap table)) r = answered_most number _ [] (omega arith)
length_step_le number loaded none (accepted (Activate row hold)) r = omega (arith, length_refusal_line number 11)
length_step_le number loaded (some t) (accepted (Activate row hold)) r = answered_most number _ [] (omega arith)
length_step_le number loaded none (accepted Refresh) r = omega (arith, length_refusal_line number 11)
length_step_le number loaded (some t) (accepted Refresh) r = answered_most number _ _ (names_most r.0 t.state.position.events)
length_step_le number loaded t (accepted Blank) r = omega arith

-- a line that ended and has one byte is blank
blank_read : (line : List ℕ) → ended line ≡ true → length line ≡ 1 → read line ≡ accepted Blank
unfolding read reading reading_by or_refused ended line_bytes record_of
blank_read [] e h = absurd (omega arith)
blank_read (b ∷ []) e h = split (eqb b 10) (λ ten. let same : b ≡ 10 = eqb-true b 10 ten in rw same) (λ other. clash (sym (rw other at e)))
blank_read (b ∷ c ∷ cs) e h = absurd (omega arith)

pub length_step_line : (number : ℕ) (loaded : List ℕ) (t : Option Tracker) (line : List ℕ) → ended line ≡ true → Running t → length (line_step number loaded t (read line)).prints ≤ 55 * length line
unfolding line_step_to record_step_to ended
length_step_line number loaded t [] e r = clash (sym e)
length_step_line number loaded t (b ∷ []) e r = rw (blank_read (b ∷ []) e refl) (omega arith)
length_step_line number loaded t (b ∷ c ∷ cs) e r = omega (arith, length_step_le number loaded t (read (b ∷ c ∷ cs)) r)
