-- The call's tests: which refusal comes first, and what it says that none does.
use mathlib.Core.Path.{◌≡◌, sym, ◌∙◌}
use mathlib.Core.Bool.{true, not}
use mathlib.Core.List.{List, [], ◌∷◌}
use Prim.Native.Nat.{ℕ, ◌≤◌, ◌<◌}
use native.Mathlib.Omega.{arith}
use borrow.Author.Tests.{ltb-true}
use lib.Dec.{ltb, lit≤}
use Rattle.device.specs.declared.Settings.{Settings}
use Rattle.device.specs.declared.refusal.Refusal.{Refusal}
use Rattle.device.specs.Refusal.{unless, refuse, first_failed, number, accepted, refused}
use Rattle.device.specs.Acceptance.{settings_tests}
use Rattle.device.specs.Remap.{remap_allowed, physical}
use Rattle.device.proofs.Tests.{or_later, or_later_le, refuse_passed, refuse_le, or_later_none, outcome_refused, outcome_accepted}
use Rattle.device.proofs.Acceptance.{settings_then, refusals_le, accepted_settings}
use Rattle.device.proofs.Remap.{physical_below}
use Rattle.state.specs.declared.Position.{Position}
use Rattle.state.specs.State.{position_allowed}
use Rattle.state.proofs.PositionAllowed.{position_facts}
use Rattle.limit.specs.ByRow.{row_figure}
use Rattle.rowlimit.specs.Answers.{row_limit_tests, row_limit_answer}

-- no test failed
pub record Passed (s : Settings) (remap : List ℕ) (row : ℕ) (p : Position) : Type 0 where
  pub settled : first_failed (settings_tests s) ≡ 0
  pub inside : row < s.rows
  pub allowed : remap_allowed remap ≡ true
  pub early : p.events < s.window

module _ (s : Settings) (remap : List ℕ) (row : ℕ) (p : Position) where
  pub row_limit_tested : first_failed (row_limit_tests s remap row p) ≡ or_later (first_failed (settings_tests s)) (refuse (not (ltb row s.rows)) 9 (refuse (not (remap_allowed remap)) 14 (refuse (not (position_allowed s p)) 21 0)))
  unfolding row_limit_tests first_failed unless
  row_limit_tested = settings_then s (unless (ltb row s.rows) 9 ∷ unless (remap_allowed remap) 14 ∷ unless (position_allowed s p) 21 ∷ [])

  -- no refusal is above 21
  pub row_limit_refusal_le : first_failed (row_limit_tests s remap row p) ≤ 21
  row_limit_refusal_le =
      rw row_limit_tested
      (or_later_le (first_failed (settings_tests s)) (omega (arith, refusals_le s))
      (refuse_le (not (ltb row s.rows)) 9 (lit≤ tt)
      (refuse_le (not (remap_allowed remap)) 14 (lit≤ tt)
      (refuse_le (not (position_allowed s p)) 21 (lit≤ tt) (lit≤ tt)))))

  pub row_limit_passed : first_failed (row_limit_tests s remap row p) ≡ 0 → Passed s remap row p
  row_limit_passed e =
      let settled = or_later_none (first_failed (settings_tests s)) _ (sym row_limit_tested ∙ e) in
      let nine = refuse_passed (ltb row s.rows) 8 _ settled.1 in
      let fourteen = refuse_passed (remap_allowed remap) 13 _ nine.1 in
      let last = refuse_passed (position_allowed s p) 20 0 fourteen.1 in
      record {
        settled = settled.0;
        inside = ltb-true row s.rows nine.0;
        allowed = fourteen.0;
        early = (position_facts s p last.0).early;
      }

  -- what the figure needs where no test failed
  pub row_limit_ready : 0 ≡ first_failed (row_limit_tests s remap row p) → (first_failed (settings_tests s) ≡ 0) × (remap_allowed remap ≡ true) × (p.events < s.window) × (physical remap row < s.rows)
  row_limit_ready e =
      let o = row_limit_passed (sym e) in
      (o.settled, o.allowed, o.early, physical_below remap o.allowed s.rows row (accepted_settings s o.settled).others.rows_whole o.inside)

  -- the answer where a test failed, and where none did
  pub row_limit_refused : (r : Refusal) → number r ≡ first_failed (row_limit_tests s remap row p) → refused (number r) ≡ row_limit_answer s remap row p
  unfolding row_limit_answer
  row_limit_refused r e = outcome_refused r _ e

  pub row_limit_answered : 0 ≡ first_failed (row_limit_tests s remap row p) → accepted (row_figure s p.events (physical remap row)) ≡ row_limit_answer s remap row p
  unfolding row_limit_answer
  row_limit_answered e = outcome_accepted _ e
