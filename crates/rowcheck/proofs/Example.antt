-- Runs on a trace of one line, by computing: with what it requires the run passes, with another listing line 1 departs.
use mathlib.Core.Path.{refl}
use mathlib.Core.List.{List, [], ◌∷◌}
use Prim.Native.Nat.{ℕ}
use native.Mathlib.Omega.{arith}
use lib.ListN.{replicate}
use Rattle.device.specs.Remap.{own_remap}
use Rattle.columns.specs.Numbers.{is_digit, digits, number, field, fields, digit_or_blank, columns_before, printed, written}
use Rattle.trace.specs.Lines.{line, ended, extent}
use Rattle.trace.specs.Records.{numbered, settings, remap, activation, held_activation, refresh, record_of}
use Rattle.trace.specs.Reading.{or_refused, reading_by, reading}
use Rattle.columns.specs.Output.{refusal_line}
use Rattle.trace.specs.Texts.{in_front, lines, read, kept_bytes}
use Rattle.steps.specs.Steps.{refused_step, line_step_to, loaded_behind}
use Rattle.steps.specs.Memory.{tracker_in, start_place, next_number, step_in, next_in}
use Rattle.listing.specs.Chunks.{gone, takes, going, part, chunk, last_line}
use Rattle.checker.specs.Comparison.{counted, compared}
use Rattle.input.specs.declared.Input.TheVariants.{Bytes, End}
use Rattle.input.specs.AtHand.{Within, brought}
use Rattle.turns.specs.Turns.{turn_of, first_turned}
use Rattle.rowcheck.specs.declared.Answer.TheVariants.{Passes, Departs}
use Rattle.rowcheck.specs.Turns.{behind_trace, given_beside, behind_listing, beside, State, first_state, wants_trace, after_trace, after_listing, open_so_far, of_trace, of_listing, trace_part, listing_part, none_yet, one_more}
use Rattle.rowcheck.specs.Example.{example_trace, example_listing, other_listing}
use Rattle.rowcheck.specs.Claims.{Answered}

module _ (counts text other : List ℕ) where
  abbrev first : State
  first = first_state counts text (replicate 310 0)

  abbrev line_read : State
  line_read = after_trace first example_trace (Bytes 2)

  abbrev listing_read : List ℕ → State
  listing_read given = after_listing line_read given (Bytes 18)

  abbrev trace_ended : State
  trace_ended = after_trace (listing_read example_listing) (listing_read example_listing).turn.text End

  pub both_answers : Answered first other (example_trace ∷ []) (example_listing ∷ []) Passes × Answered first other (example_trace ∷ []) (other_listing ∷ []) Departs
  unfolding
      first_state first_turned after_trace turn_of behind_trace after_listing behind_listing given_beside beside wants_trace open_so_far compared counted
      example_trace example_listing other_listing own_remap brought trace_part listing_part Within
      is_digit digits number field fields digit_or_blank columns_before printed written line ended extent
      numbered settings remap activation held_activation refresh record_of or_refused reading_by reading refusal_line in_front lines read kept_bytes
      refused_step line_step_to loaded_behind tracker_in start_place next_number step_in next_in gone takes going part chunk last_line
  both_answers = (
    record {
      reads = 4;
      last = after_listing trace_ended [] End;
      left = [];
      chain = one_more {after = []}
          (one_more {after = example_listing}
          (one_more {after = example_listing}
          (one_more {after = other} none_yet refl
          (of_trace refl (record { input = Bytes 2; text = example_trace; came = record { front = refl; within = (omega arith, omega arith) }; room = omega arith; same = refl }) refl refl))
          refl
          (of_listing refl (Bytes 18) (record { came = record { front = refl; within = (omega arith, omega arith) }; most = λ inside. (omega arith, omega arith) }) refl))
          refl
          (of_trace refl (record { input = End; text = (listing_read example_listing).turn.text; came = record { front = refl; within = tt }; room = omega arith; same = refl }) refl refl))
          refl
          (of_listing refl End (record { came = record { front = refl; within = tt }; most = λ inside. tt }) refl);
      came = refl;
    },
    record {
      reads = 2;
      last = listing_read other_listing;
      left = other_listing;
      chain = one_more {after = other_listing}
          (one_more {after = other} none_yet refl
          (of_trace refl (record { input = Bytes 2; text = example_trace; came = record { front = refl; within = (omega arith, omega arith) }; room = omega arith; same = refl }) refl refl))
          refl
          (of_listing refl (Bytes 18) (record { came = record { front = refl; within = (omega arith, omega arith) }; most = λ inside. (omega arith, omega arith) }) refl);
      came = refl;
    },
  )
