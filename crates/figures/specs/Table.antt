-- 'Edge figures', those marked *: what document 01 gives, and what the definitions give, as numbers.
use Rattle.std.specs.Prelude.{ℕ, zero, suc, List, [], ◌∷◌, ◌++◌, replicate}
use Rattle.device.specs.declared.Settings.{Settings}
use Rattle.device.specs.Refusal.{Outcome, accepted, refused}
use Rattle.device.specs.Remap.{own_remap, physical}
use Rattle.state.specs.declared.Position.{Position}
use Rattle.state.specs.State.{State}
use Rattle.tracker.specs.Calls.{RefreshCall, ActivationCall, set_up, activation_on, refresh_on}
use Rattle.limit.specs.Run.{Command, activation_of, state_after}
use Rattle.steps.specs.Steps.{start}
use Rattle.listing.specs.Texts.{listing}
use Rattle.bound.specs.Answers.{bound_answer, least_answer, settings_of}

-- an 'edge figure': what document 01 gives, and what the definitions give
pub record Figure : Type 0 where
  pub given : List ℕ
  pub defined : List ℕ

-- the answer of 'bound' or 'least counter count' as numbers: the 'refusal', 0 where there is none, and the value
unfoldable pub numbers : Outcome ℕ → List ℕ
numbers (accepted v) = 0 ∷ v ∷ []
numbers (refused k) = k ∷ []

-- 'fold of .. is ..'
unfoldable pub remap_figure : ℕ → ℕ → Figure
remap_figure row place = record { given = place ∷ []; defined = physical own_remap row ∷ [] }

-- 'H for N B V C T n P: .. gives ..'
unfoldable pub bound_figure : Settings → ℕ → Figure
bound_figure s bound = record { given = 0 ∷ bound ∷ []; defined = numbers (bound_answer s) }

-- 'for 16 2 1 _ 4 4 4: threshold .. gives ..'
unfoldable pub least_figure : ℕ → List ℕ → Figure
least_figure threshold given =
    record { given = given; defined = numbers (least_answer (settings_of 16 2 1 0 4 4 4) threshold) }

-- the 'position' that 'setting up' hands back; 'a refused setting up has no position to hand back'
unfoldable pub position_of : Outcome Position → Position
position_of (accepted p) = p
position_of (refused k) = record { events = k; activations = k; tracked = k; spillover = k }

-- the 'two number tables' and 'position' that 'setting up' leaves, where the tables held 7
unfoldable pub begun : Settings → State
begun s =
    let call = set_up s own_remap (replicate s.counters 7) (replicate s.counters 7) in
    record { rows = call.rows; counts = call.counts; position = position_of call.answer }

-- the tables 'rows' and 'counts' and the 'position' as numbers: e, a, 'number of tracked rows', 'spill'
unfoldable pub state_numbers : State → List ℕ
state_numbers st =
    st.rows ++ st.counts ++
    st.position.events ∷ st.position.activations ∷ st.position.tracked ∷ st.position.spillover ∷ []

-- 'the trace above': the settings of its line 1, `S    16     2     1     2     4     4     4`
unfoldable pub traced : Settings
traced = settings_of 16 2 1 2 4 4 4

-- its lines 2 to 4, `A     5`, `A     5`, `A     2`
unfoldable pub calls_to_4 : List Command
calls_to_4 = activation_of own_remap 5 1 ∷ activation_of own_remap 5 1 ∷ activation_of own_remap 2 1 ∷ []

-- 'after line 4 the summary is ..'
unfoldable pub line_4 : State
line_4 = state_after traced calls_to_4 (begun traced)

-- 'after line 5 it is ..': line 5 is `R`; the 'lent list' has three places that hold 9
unfoldable pub line_5 : RefreshCall
line_5 = refresh_on traced line_4 (9 ∷ 9 ∷ 9 ∷ [])

-- line 6, `A    16`, which the trace's output refuses with 9
unfoldable pub line_6 : ActivationCall
line_6 = activation_on traced own_remap line_5.state 16 1

-- so many activations of 'an interval with T = 4'
unfoldable pub activations : ℕ → State
activations zero = begun traced
activations (suc k) = (activation_on traced own_remap (activations k) 8 1).state

-- the trace's 'input', a line to a row
unfoldable pub trace_input : List ℕ
trace_input =
    83 ∷ 32 ∷ 32 ∷ 32 ∷ 32 ∷ 49 ∷ 54 ∷ 32 ∷ 32 ∷ 32 ∷ 32 ∷ 32 ∷ 50 ∷ 32 ∷ 32 ∷ 32 ∷ 32 ∷ 32 ∷ 49 ∷ 32 ∷ 32 ∷ 32 ∷ 32 ∷ 32 ∷ 50 ∷ 32 ∷ 32 ∷ 32 ∷ 32 ∷ 32 ∷ 52 ∷ 32 ∷ 32 ∷ 32 ∷ 32 ∷ 32 ∷ 52 ∷ 32 ∷ 32 ∷ 32 ∷ 32 ∷ 32 ∷ 52 ∷ 10 ∷
    65 ∷ 32 ∷ 32 ∷ 32 ∷ 32 ∷ 32 ∷ 53 ∷ 10 ∷
    65 ∷ 32 ∷ 32 ∷ 32 ∷ 32 ∷ 32 ∷ 53 ∷ 10 ∷
    65 ∷ 32 ∷ 32 ∷ 32 ∷ 32 ∷ 32 ∷ 50 ∷ 10 ∷
    82 ∷ 10 ∷
    65 ∷ 32 ∷ 32 ∷ 32 ∷ 32 ∷ 49 ∷ 54 ∷ 10 ∷ []

-- its 'output whole'
unfoldable pub trace_output : List ℕ
trace_output =
    66 ∷ 32 ∷ 32 ∷ 32 ∷ 32 ∷ 32 ∷ 32 ∷ 32 ∷ 32 ∷ 51 ∷ 48 ∷ 32 ∷ 32 ∷ 32 ∷ 32 ∷ 32 ∷ 32 ∷ 32 ∷ 32 ∷ 54 ∷ 48 ∷ 10 ∷
    82 ∷ 32 ∷ 32 ∷ 32 ∷ 32 ∷ 32 ∷ 48 ∷ 32 ∷ 32 ∷ 32 ∷ 32 ∷ 32 ∷ 49 ∷ 32 ∷ 32 ∷ 32 ∷ 32 ∷ 32 ∷ 52 ∷ 10 ∷
    88 ∷ 32 ∷ 32 ∷ 32 ∷ 32 ∷ 32 ∷ 32 ∷ 32 ∷ 32 ∷ 32 ∷ 54 ∷ 32 ∷ 32 ∷ 32 ∷ 32 ∷ 32 ∷ 57 ∷ 10 ∷ []

-- a figure of these two
unfoldable pub shown : List ℕ → List ℕ → Figure
shown given defined = record { given = given; defined = defined }

-- the figures 'marked *, to be proved': folds, the trace, activations 4 and 5, H, 'least counter count'
unfoldable pub figures : List Figure
figures =
    remap_figure 2 3 ∷
    remap_figure 17 17 ∷
    shown trace_output (listing start trace_input) ∷
    shown (4 ∷ 6 ∷ 3 ∷ 2 ∷ 0 ∷ 3 ∷ 2 ∷ 1 ∷ []) (state_numbers line_4) ∷
    shown (0 ∷ 1 ∷ 4 ∷ 9 ∷ 9 ∷ []) (line_5.refusal ∷ line_5.count ∷ line_5.picks) ∷
    shown (3 ∷ 4 ∷ 4 ∷ 5 ∷ 1 ∷ 0 ∷ 2 ∷ 4 ∷ []) (state_numbers line_5.state) ∷
    shown (9 ∷ []) (line_6.refusal ∷ []) ∷
    shown (0 ∷ []) ((activation_on traced own_remap (activations 3) 8 1).refusal ∷ []) ∷
    shown (22 ∷ []) ((activation_on traced own_remap (activations 4) 8 1).refusal ∷ []) ∷
    bound_figure traced 30 ∷
    bound_figure (settings_of 16 2 1 1 1 1 16) 18 ∷
    bound_figure (settings_of 16 2 1 1 4 2 8) 26 ∷
    bound_figure (settings_of 16 2 2 2 4 2 8) 23 ∷
    bound_figure (settings_of 16 4 1 4 4 4 4) 48 ∷
    bound_figure (settings_of 16 2 1 3 4 4 4) 28 ∷
    least_figure 73 (0 ∷ 1 ∷ []) ∷
    least_figure 61 (0 ∷ 2 ∷ []) ∷
    least_figure 60 (0 ∷ 3 ∷ []) ∷
    least_figure 56 (12 ∷ []) ∷ []
