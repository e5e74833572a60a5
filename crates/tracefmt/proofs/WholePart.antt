-- What a part leaves, where its loop stops; and that the bytes kept behind it are as good as all of them.
use mathlib.Core.Path.{◌≡◌, sym, ap, ◌∙◌}
use mathlib.Core.Bool.{false}
use mathlib.Core.List.{List, ◌++◌, append_assoc}
use Prim.Native.Nat.{ℕ, ◌≤◌}
use native.Mathlib.Omega.{arith}
use borrow.Author.Tests.{eqb-true, eq-eqb}
use lib.Dec.{eqb}
use lib.ListN.{length, take, drop, length-append, take-append-drop, drop_of_length-le}
use lib.Seq.{take_at}
use Rattle.laws.proofs.Cases.{split, clash}
use Rattle.trace.specs.Lines.{ended}
use Rattle.trace.specs.Texts.{most_kept, kept_bytes}
use Rattle.columns.proofs.Output.{prints_long, take_printed}
use Rattle.trace.proofs.Texts.Cuts.{outcomes_kept, ended_less}
use Rattle.tracefmt.specs.Rewriting.{Progress, rewriting, after}
use Rattle.tracefmt.specs.Turns.{Rewrites, Moves}
use Rattle.tracefmt.proofs.Faults.{after_stopped, rewriting_stopped}
use Rattle.tracefmt.proofs.Lines.{rewriting_cut, after_cut, Taken}

module _ {g₀ g : Progress} {text buffer₀ buffer : List ℕ} {at end : ℕ} (t : Taken g₀ text buffer₀ g buffer at end) where
  part_taken : (g.refusal ≡ 0 → ended (drop at text) ≡ false) → Rewrites g₀ text buffer₀ buffer g at end
  part_taken all = record { takes = record { lines = t.lines_taken; leaves = t.leaves; all = all }; prints = t.prints }

  -- at a line that has not ended
  pub part_unended : ended (drop at text) ≡ false → Rewrites g₀ text buffer₀ buffer g at end
  part_unended e = part_taken (λ _. e)

  -- behind a faulty line
  pub part_stopped : eqb g.refusal 0 ≡ false → Rewrites g₀ text buffer₀ buffer g at end
  part_stopped h = part_taken (λ e. clash (sym (eq-eqb _ _ e) ∙ h))

  -- at the text's end
  pub part_whole : length text ≤ at → Rewrites g₀ text buffer₀ buffer g at end
  unfolding ended
  part_whole h = part_taken (λ _. rw (drop_of_length-le text {i = at} h))

-- behind whole lines: either a line was faulty, or the kept bytes of the line that has not ended tell as much as all
module _ (g : Progress) (rest : List ℕ) (all : g.refusal ≡ 0 → ended rest ≡ false) (more : List ℕ) where
  rewriting_kept : rewriting g (rest ++ more) ≡ rewriting g (take most_kept rest ++ more)
  unfolding rewriting
  rewriting_kept =
      split (eqb g.refusal 0)
      (λ e. rw (outcomes_kept rest more (all (eqb-true _ _ e))))
      (λ e. rewriting_stopped g e (rest ++ more) ∙ sym (rewriting_stopped g e (take most_kept rest ++ more)))

  after_kept : after g (rest ++ more) ≡ after g (take most_kept rest ++ more)
  unfolding after
  after_kept =
      split (eqb g.refusal 0)
      (λ e. rw (outcomes_kept rest more (all (eqb-true _ _ e))))
      (λ e. after_stopped g e (rest ++ more) ∙ sym (after_stopped g e (take most_kept rest ++ more)))

-- a move: whatever comes behind the bytes at hand, the rewriting is the same
module _ {g g' : Progress} {text written left : List ℕ} (m : Moves g text written g' left) where
  cut : (more : List ℕ) → text ++ more ≡ take m.taken text ++ (drop m.taken text ++ more)
  cut more =
      ap (λ (t : List ℕ). t ++ more) (sym (take-append-drop m.taken text)) ∙ append_assoc (take m.taken text) (drop m.taken text) more

  pub moves_writes : (more : List ℕ) → rewriting g (text ++ more) ≡ written ++ rewriting g' (left ++ more)
  moves_writes more =
      let rest : List ℕ = drop m.taken text in
      ap (rewriting g) (cut more) ∙ rewriting_cut g (take m.taken text) (rest ++ more) m.takes.lines ∙
      rw (m.writes, m.keeps, ← m.takes.leaves) (ap (λ (t : List ℕ). rewriting g (take m.taken text) ++ t) (rewriting_kept g' rest m.takes.all more))

  pub moves_leaves : (more : List ℕ) → after g (text ++ more) ≡ after g' (left ++ more)
  moves_leaves more =
      let rest : List ℕ = drop m.taken text in
      ap (after g) (cut more) ∙ after_cut g (take m.taken text) (rest ++ more) m.takes.lines ∙
      rw (m.keeps, ← m.takes.leaves) (after_kept g' rest m.takes.all more)

  pub moves_unended : g'.refusal ≡ 0 → ended left ≡ false
  moves_unended e = rw m.keeps (ended_less most_kept (drop m.taken text) (m.takes.all e))

-- what lies between two reads, by what the part and the keeping left
pub chunk_moves : {g g' : Progress} {text' buffer₀ buffer : List ℕ} {taken end kept : ℕ} (text : List ℕ) (len : ℕ) → Rewrites g (take len text) buffer₀ buffer g' taken end
    → kept ≡ length (kept_bytes taken len text) → text' ≡ kept_bytes taken len text ++ drop kept text
    → Moves g (take len text) (take end buffer) g' (take kept text') × (kept ≤ length text') × (end ≤ length buffer)
unfolding kept_bytes
chunk_moves {text' = text'} {taken = taken} {kept = kept} text len r k t =
    let bytes : List ℕ = take most_kept (drop taken (take len text)) in
    let front : take kept text' ≡ bytes = ap (take kept) t ∙ take_at bytes (drop kept text) kept (sym k) in (
      record { taken = taken; takes = r.takes; writes = take_printed r.prints; keeps = front },
      omega (arith, k, ap length t, length-append bytes (drop kept text)),
      omega (arith, r.prints.fits, r.prints.behind, prints_long r.prints),
    )
