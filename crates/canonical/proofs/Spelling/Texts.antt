-- Spelled texts: read line by line they give the records again, and blank records leave no trace in them.
use mathlib.Core.Path.{◌≡◌, refl, ◌∙◌}
use mathlib.Core.Bool.{true}
use mathlib.Core.List.{List, [], ◌∷◌}
use Rattle.device.specs.Refusal.{Outcome, accepted, refused}
use Rattle.trace.specs.declared.Record.{Record}
use Rattle.trace.specs.declared.Record.TheVariants.{Set, Remap, Activate, Refresh, Blank}
use Rattle.canonical.specs.Spelling.{record_spelling, answer_spelling, spelling, is_blank, unblank, unrefused}
use Rattle.trace.specs.Texts.{lines, outcomes}
use Rattle.canonical.proofs.Spelling.Lines.{outcomes_settings, outcomes_remap, outcomes_activation, outcomes_refresh}
use Rattle.canonical.proofs.Spelling.Readable.{Readables, no_answer, one_answer_more, of_settings, of_remap, of_activation, of_refresh, of_blank}

pub outcomes_spelling : {os : List (Outcome Record)} → Readables os → outcomes (spelling os) ≡ unblank os
unfolding outcomes lines spelling answer_spelling record_spelling is_blank unblank
outcomes_spelling no_answer = refl
outcomes_spelling (one_answer_more {os = os} (of_settings {s} h) hs) = outcomes_settings s (spelling os) h ∙ rw (outcomes_spelling hs)
outcomes_spelling (one_answer_more {os = os} (of_remap {t} h) hs) = outcomes_remap t (spelling os) h ∙ rw (outcomes_spelling hs)
outcomes_spelling (one_answer_more {os = os} (of_activation {row} {hold} h k) hs) = outcomes_activation row hold (spelling os) h k ∙ rw (outcomes_spelling hs)
outcomes_spelling (one_answer_more {os = os} of_refresh hs) = outcomes_refresh (spelling os) ∙ rw (outcomes_spelling hs)
outcomes_spelling (one_answer_more of_blank hs) = outcomes_spelling hs

pub unrefused_unblank : {os : List (Outcome Record)} → Readables os → unrefused (unblank os) ≡ true
unfolding is_blank unblank unrefused
unrefused_unblank no_answer = refl
unrefused_unblank (one_answer_more (of_settings h) hs) = unrefused_unblank hs
unrefused_unblank (one_answer_more (of_remap h) hs) = unrefused_unblank hs
unrefused_unblank (one_answer_more (of_activation h k) hs) = unrefused_unblank hs
unrefused_unblank (one_answer_more of_refresh hs) = unrefused_unblank hs
unrefused_unblank (one_answer_more of_blank hs) = unrefused_unblank hs

pub spelling_unblank : (os : List (Outcome Record)) → spelling (unblank os) ≡ spelling os
unfolding spelling answer_spelling record_spelling is_blank unblank
spelling_unblank [] = refl
spelling_unblank (accepted (Set s) ∷ os) = rw (spelling_unblank os)
spelling_unblank (accepted (Remap t) ∷ os) = rw (spelling_unblank os)
spelling_unblank (accepted (Activate row hold) ∷ os) = rw (spelling_unblank os)
spelling_unblank (accepted Refresh ∷ os) = rw (spelling_unblank os)
spelling_unblank (accepted Blank ∷ os) = spelling_unblank os
spelling_unblank (refused k ∷ os) = rw (spelling_unblank os)
