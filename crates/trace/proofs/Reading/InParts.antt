-- A text that comes in parts: a line that ended reads alike whatever follows, and one of which as many bytes are there as are kept, and no end yet, is refused whatever follows.
use mathlib.Core.Path.{◌≡◌, refl, sym, ap, ◌∙◌}
use mathlib.Core.Bool.{true, false, cond, Bool}
use mathlib.Core.List.{List, ◌∷◌, ◌++◌, append_assoc}
use mathlib.Core.Option.{none, Option}
use Prim.Native.Nat.{ℕ, ◌+◌, ◌≤◌, ◌<◌}
use native.Mathlib.Omega.{arith}
use lib.ListN.{length, drop, length-append, length-drop}
use lib.Seq.{drop-append-le}
use Rattle.device.specs.Refusal.{refused}
use Rattle.laws.proofs.Cases.{either}
use Rattle.trace.specs.declared.Record.{Record}
use Rattle.trace.specs.Lines.{line, ended, extent}
use Rattle.trace.specs.Reading.{or_refused, reading_by, reading}
use Rattle.trace.specs.Records.{record_of}
use Rattle.trace.specs.Texts.{most_kept}
use Rattle.trace.proofs.Lines.{line_append_end, ended_append_end, extent_append_end, line_end_rest, ended_line, line_append, extent_append, ended_drop_le}
use Rattle.trace.proofs.Records.{length_record_le}

-- a line that ended, with more text behind it
reading_by_append : (says : List ℕ → Option Record) (text more : List ℕ) (at : ℕ) → ended text ≡ true
    → reading_by says (text ++ more) at ≡ reading_by says text at
unfolding reading_by
reading_by_append says text more at h =
    let bytes = line text in
    let rest = drop (extent text) text in
    let plain = ended_line text in
    let whole = line_end_rest text h in
    let longer : text ++ more ≡ bytes ++ (10 ∷ (rest ++ more)) = ap (λ (t : List ℕ). t ++ more) whole ∙ append_assoc bytes (10 ∷ rest) more in
    let same_end : extent (text ++ more) ≡ extent text =
    ap extent longer ∙ extent_append_end (rest ++ more) bytes plain ∙ sym (ap extent whole ∙ extent_append_end rest bytes plain) in
    rw (ap ended longer ∙ ended_append_end (rest ++ more) bytes ∙ sym h, ap line longer ∙ line_append_end (rest ++ more) bytes plain, same_end)

-- a line that ends within a reads alike in a ++ b
pub reading_append_ended : (a b : List ℕ) (p : ℕ) → ended (drop p a) ≡ true → reading (a ++ b) p ≡ reading a p
unfolding reading
reading_append_ended a b p h = rw (drop-append-le p a b (ended_drop_le a p h)) (reading_by_append record_of (drop p a) b p h)

or_refused_wide : (ends : Bool) (bytes : List ℕ) → 97 < length bytes → or_refused (cond ends (record_of bytes) none) ≡ refused 11
unfolding or_refused
or_refused_wide false bytes h = refl
or_refused_wide true bytes h =
    either (record_of bytes) (λ e. rw e) (λ r e. absurd (omega (arith, length_record_le bytes r e)))

-- a line without byte 10 in as many bytes as are kept is refused whatever follows, and ends where the line that follows does
pub reading_append_unended : (a b : List ℕ) (p : ℕ) → p + most_kept ≤ length a → ended (drop p a) ≡ false
    → reading (a ++ b) p ≡ record { outcome = refused 11; place = length a + extent b }
unfolding reading reading_by
reading_append_unended a b p h e =
    let text = drop p a in
    let cut = drop-append-le p a b (omega arith) in
    let long = length-drop p a in
    let wide : 97 < length (line (text ++ b)) = rw (line_append text b e, length-append) (omega (arith, long)) in
    let end : p + extent (text ++ b) ≡ length a + extent b = omega (arith, extent_append text b e, long) in
    rw (cut, or_refused_wide (ended (text ++ b)) (line (text ++ b)) wide, end)
