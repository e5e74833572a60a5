-- The claims of specs/Claims.antt, each under its own name.
use mathlib.Core.Path.{sym, ap, ◌∙◌}
use mathlib.Core.Option.{none}
use Rattle.device.proofs.Acceptance.{settings_above}
use Rattle.canonical.specs.Writing.{fault_to}
use Rattle.canonical.specs.Claims.{RoundTrip, ReadBack, OneSpelling, RewrittenStays, WriterSpells, WrittenStays, BeforeSound, WritingStays}
use Rattle.canonical.specs.Spelling.{spelling, unblank}
use Rattle.trace.specs.Texts.{outcomes}
use Rattle.canonical.proofs.Spelling.Readable.{outcomes_readable}
use Rattle.canonical.proofs.Spelling.Texts.{outcomes_spelling, unrefused_unblank, spelling_unblank}
use Rattle.canonical.proofs.Writing.{first_fault_before, first_faulty, before_fault_all, first_fault_unblank, faultless_readable, writing_fits, writing_accepted, first_fault_alike, before_fault_alike, writing_alike}

pub round_trip : RoundTrip
unfolding RoundTrip
round_trip os text n e =
    let told = writing_accepted os text n e in
    let readable = faultless_readable os told.0 in
    let spelled = (writing_fits os text told.0 told.1).1 in
    (rw (told.2, spelled) (outcomes_spelling readable), unrefused_unblank readable)

pub read_back : ReadBack
unfolding ReadBack
read_back text h = outcomes_spelling (outcomes_readable text h)

pub one_spelling : OneSpelling
unfolding OneSpelling ReadBack
one_spelling a b ha hb = (
  λ e. sym (spelling_unblank (outcomes a)) ∙ ap spelling e ∙ spelling_unblank (outcomes b),
  λ e. sym (read_back a ha) ∙ ap outcomes e ∙ read_back b hb,
)

pub rewritten_stays : RewrittenStays
unfolding RewrittenStays ReadBack
rewritten_stays text h = ap spelling (read_back text h) ∙ spelling_unblank (outcomes text)

pub writer_spells : WriterSpells
unfolding WriterSpells
writer_spells os text = (writing_fits os text, writing_accepted os text)

pub written_stays : WrittenStays
unfolding WrittenStays RoundTrip
written_stays os text text' n e h =
    let told = writing_accepted os text n e in
    let faultless = first_fault_unblank none os ∙ told.0 in
    let same = spelling_unblank os in
    let again = writing_fits (unblank os) text' faultless (rw (same, ← told.2) h) in
    let bytes = (writing_fits os text told.0 told.1).1 in
    rw ((round_trip os text n e).0, told.2, bytes) (rw same at again)

pub before_sound : BeforeSound
unfolding BeforeSound
before_sound os = (
  first_fault_before none os,
  before_fault_all none os,
  λ h.
      let f = first_faulty none os h in
      record { answer = f.answer; others = f.others; behind = f.behind; faulty = f.faulty },
)

pub writing_stays : WritingStays
unfolding WritingStays fault_to
writing_stays most os = (
  λ all. (λ text. writing_alike most os text all, first_fault_alike most none os all, before_fault_alike most none os all),
  λ standing s h. settings_above most s h,
)
