-- Figures of agreement in both senses: what follows by hand from documents 01 and 02, and what the definitions give.
use Rattle.std.specs.Prelude.{ℕ, Bool, cond, List, [], ◌∷◌, ◌++◌}
use Rattle.device.specs.declared.Settings.{Settings}
use Rattle.device.specs.Refusal.{Outcome, accepted, refused}
use Rattle.device.specs.Remap.{own_remap}
use Rattle.state.specs.State.{State}
use Rattle.agreement.specs.Calls.{agreement_of, estimates_of}
use Rattle.bound.specs.Answers.{settings_of}
use Rattle.figures.specs.Table.{Figure, shown}
use Rattle.figures.specs.Edges.{small, two_places, untracked, event_figure}
use Rattle.figures.specs.Remaps.{identity, doubled}

-- tables of one place, no row tracked, after so many events and activations
unfoldable pub one_place : ℕ → ℕ → State
one_place e a =
    record {
      rows = 0 ∷ [];
      counts = 0 ∷ [];
      position = record { events = e; activations = a; tracked = 0; spillover = 0 };
    }

-- an answer as numbers: the refusal, and 1 where the two agree
unfoldable pub agreement_numbers : Outcome Bool → List ℕ
agreement_numbers (accepted agreed) = 0 ∷ cond agreed 1 0 ∷ []
agreement_numbers (refused k) = k ∷ []

-- two trackers, each with settings, a remap and its memory: the finer answer, and the older
unfoldable pub agreement_between : Settings → List ℕ → State → Settings → List ℕ → State → List ℕ → List ℕ → Figure
agreement_between s remap st s' remap' st' finer older =
    shown (finer ++ older)
    (agreement_numbers (agreement_of s remap st s' remap' st') ++ agreement_numbers (estimates_of s st s' st'))

-- a fresh tracker with the settings 16 2 1 2 4 4 4 and our own remap beside another, and beside one with our own remap too
unfoldable pub agreement_under : List ℕ → Settings → State → List ℕ → List ℕ → Figure
agreement_under remap s st finer older =
    agreement_between (small 2 1) own_remap (untracked 0 0) s remap st finer older

unfoldable pub agreement_figure : Settings → State → List ℕ → List ℕ → Figure
agreement_figure s st finer older = agreement_under own_remap s st finer older

-- tables of two places, one row tracked or none, and a spillover, after one event and one activation
unfoldable pub tracking : ℕ → ℕ → ℕ → ℕ → State
tracking row count tracked spillover =
    record {
      rows = row ∷ 0 ∷ [];
      counts = count ∷ 0 ∷ [];
      position = record { events = 1; activations = 1; tracked = tracked; spillover = spillover };
    }

-- row 9 with a count of 4 and a spillover of 3, beside another
unfoldable pub beside_nine : State → List ℕ → List ℕ → Figure
beside_nine st finer older = agreement_between (small 2 1) own_remap (tracking 9 4 1 3) (small 2 1) own_remap st finer older

-- two fresh trackers; another N; another B, V, C, T, n and P; another e and a; a row tracked in the second alone; another remap; the
-- same row, count and spillover, and each of them another
unfoldable pub compared_figures : List Figure
compared_figures =
    agreement_figure (small 2 1) (untracked 0 0) (0 ∷ 1 ∷ []) (0 ∷ 1 ∷ []) ∷
    agreement_figure (settings_of 32 2 1 2 4 4 8) (untracked 0 0) (0 ∷ 0 ∷ []) (0 ∷ 0 ∷ []) ∷
    agreement_figure (settings_of 16 4 1 2 4 4 4) (untracked 0 0) (0 ∷ 0 ∷ []) (0 ∷ 1 ∷ []) ∷
    agreement_figure (settings_of 16 2 2 2 4 4 4) (untracked 0 0) (0 ∷ 0 ∷ []) (0 ∷ 1 ∷ []) ∷
    agreement_figure (settings_of 16 2 1 1 4 4 4) (one_place 0 0) (0 ∷ 0 ∷ []) (0 ∷ 1 ∷ []) ∷
    agreement_figure (settings_of 16 2 1 2 5 4 4) (untracked 0 0) (0 ∷ 0 ∷ []) (0 ∷ 1 ∷ []) ∷
    agreement_figure (settings_of 16 2 1 2 4 5 4) (untracked 0 0) (0 ∷ 0 ∷ []) (0 ∷ 1 ∷ []) ∷
    agreement_figure (settings_of 16 2 1 2 4 4 5) (untracked 0 0) (0 ∷ 0 ∷ []) (0 ∷ 1 ∷ []) ∷
    agreement_figure (small 2 1) (untracked 1 0) (0 ∷ 0 ∷ []) (0 ∷ 1 ∷ []) ∷
    agreement_figure (small 2 1) (untracked 0 1) (0 ∷ 0 ∷ []) (0 ∷ 1 ∷ []) ∷
    agreement_figure (small 2 1) (two_places 1 0 1 0 0 1 1) (0 ∷ 0 ∷ []) (0 ∷ 0 ∷ []) ∷
    agreement_under identity (small 2 1) (untracked 0 0) (0 ∷ 0 ∷ []) (0 ∷ 1 ∷ []) ∷
    beside_nine (tracking 9 4 1 3) (0 ∷ 1 ∷ []) (0 ∷ 1 ∷ []) ∷
    beside_nine (tracking 8 4 1 3) (0 ∷ 0 ∷ []) (0 ∷ 0 ∷ []) ∷
    beside_nine (tracking 9 5 1 3) (0 ∷ 0 ∷ []) (0 ∷ 0 ∷ []) ∷
    beside_nine (tracking 9 4 1 2) (0 ∷ 0 ∷ []) (0 ∷ 0 ∷ []) ∷ []

-- the second's settings, tables and position refused; a remap too, which comes 'between 8 and 21'; what decides where both sides are refused, and the first's
-- position alone
unfoldable pub refused_figures : List Figure
refused_figures =
    agreement_figure (small 3 1) (untracked 0 0) (2 ∷ []) (2 ∷ []) ∷
    agreement_figure (settings_of 16 2 1 3 4 4 4) (untracked 0 0) (8 ∷ []) (8 ∷ []) ∷
    agreement_figure (small 2 1) (untracked 4 0) (21 ∷ []) (21 ∷ []) ∷
    agreement_under doubled (small 2 1) (untracked 0 0) (14 ∷ []) (0 ∷ 1 ∷ []) ∷
    agreement_under doubled (small 2 1) (untracked 4 0) (14 ∷ []) (21 ∷ []) ∷
    agreement_between (small 2 1) doubled (untracked 0 0) (small 2 1) own_remap (untracked 0 0) (14 ∷ []) (0 ∷ 1 ∷ []) ∷
    agreement_under doubled (settings_of 16 2 1 3 4 4 4) (untracked 0 0) (8 ∷ []) (8 ∷ []) ∷
    agreement_between (small 2 0) own_remap (untracked 0 0) (small 3 1) own_remap (untracked 0 0) (3 ∷ []) (3 ∷ []) ∷
    agreement_between (small 2 1) doubled (one_place 0 0) (small 3 1) own_remap (untracked 0 0) (2 ∷ []) (2 ∷ []) ∷
    agreement_between (small 2 1) doubled (untracked 4 0) (small 2 1) own_remap (one_place 0 0) (8 ∷ []) (8 ∷ []) ∷
    agreement_between (small 2 1) doubled (untracked 4 0) (small 2 1) own_remap (untracked 0 0) (14 ∷ []) (21 ∷ []) ∷
    agreement_between (small 2 1) doubled (untracked 0 0) (small 2 1) own_remap (untracked 4 0) (14 ∷ []) (21 ∷ []) ∷
    agreement_between (small 2 1) own_remap (untracked 4 0) (small 2 1) doubled (untracked 0 0) (14 ∷ []) (21 ∷ []) ∷
    agreement_between (small 2 1) own_remap (untracked 4 0) (small 2 1) own_remap (untracked 0 0) (21 ∷ []) (21 ∷ []) ∷ []

-- 'one of them tracked a row whose count equalled the spill': row 9, which its event names, and the other's names none
unfoldable pub parting_figures : List Figure
parting_figures =
    let s = settings_of 16 2 2 2 4 4 16 in
    agreement_between s own_remap (tracking 9 3 1 3) s own_remap (tracking 0 0 0 3) (0 ∷ 0 ∷ []) (0 ∷ 1 ∷ []) ∷
    event_figure s (tracking 9 3 1 3) (0 ∷ 1 ∷ 9 ∷ 7 ∷ 8 ∷ 10 ∷ 4 ∷ 4 ∷ 2 ∷ 0 ∷ 2 ∷ 3 ∷ []) ∷
    event_figure s (tracking 0 0 0 3) (0 ∷ 0 ∷ 7 ∷ 7 ∷ 0 ∷ 0 ∷ 0 ∷ 0 ∷ 2 ∷ 0 ∷ 0 ∷ 3 ∷ []) ∷ []

-- all of them
unfoldable pub agreements : List Figure
agreements = compared_figures ++ refused_figures ++ parting_figures
