-- The listing of a text cut in two, and of one line more; that its lines end; and where N may be up to another most.
use mathlib.Core.Path.{◌≡◌, refl}
use mathlib.Core.Bool.{true, false}
use mathlib.Core.List.Memᴰ
use mathlib.Core.List.{List, [], ◌∷◌, ◌++◌, append_assoc, append-nil}
use Prim.Native.Nat.{ℕ, suc, ◌<◌}
use lib.ListN.{length, take}
use Rattle.device.specs.Refusal.{Outcome}
use Rattle.trace.specs.declared.Record.{Record}
use Rattle.trace.specs.Lines.{ended}
use Rattle.trace.specs.Reading.{reading}
use Rattle.trace.specs.Texts.{whole, outcomes, most_kept}
use Rattle.trace.specs.Claims.{AllAlike}
use Rattle.trace.proofs.Texts.Cuts.{outcomes_cut, outcomes_kept}
use Rattle.trace.proofs.Texts.NextLine.{whole_append, outcomes_on}
use Rattle.steps.specs.Steps.{Progress, step_to, step, next_to, next}
use Rattle.steps.proofs.Steps.LineEnds.{step_whole}
use Rattle.steps.proofs.Steps.Alike.{StandingAlike, line_same, line_stands_alike}
use Rattle.listing.specs.Texts.{listed_to, listed, passed, listing_to, listing, after}

listed_append : (g : Progress) (os ps : List (Outcome Record)) → listed g (os ++ ps) ≡ listed g os ++ listed (passed g os) ps
unfolding listed_to passed
listed_append g [] ps = refl
listed_append g (o ∷ os) ps = rw (listed_append (next g o) os ps, append_assoc)

passed_append : (g : Progress) (os ps : List (Outcome Record)) → passed g (os ++ ps) ≡ passed (passed g os) ps
unfolding passed
passed_append g [] ps = refl
passed_append g (o ∷ os) ps = passed_append (next g o) os ps

module _ (g : Progress) (a b : List ℕ) (h : whole a ≡ true) where
  pub listing_cut : listing g (a ++ b) ≡ listing g a ++ listing (after g a) b
  unfolding listing_to after
  listing_cut = rw (outcomes_cut a b h) (listed_append g (outcomes a) (outcomes b))

-- of a line that has not ended, the kept bytes tell as much as the whole
pub listing_kept : (g : Progress) (u b : List ℕ) → ended u ≡ false → listing g (u ++ b) ≡ listing g (take most_kept u ++ b)
unfolding listing_to
listing_kept g u b e = rw (outcomes_kept u b e)

-- one line more
module _ (text : List ℕ) (at : ℕ) (h : at < length text) (w : whole (take at text) ≡ true) where
  pub listing_on : (g : Progress) → listing g (take (reading text at).place text) ≡ listing g (take at text) ++ (step (after g (take at text)) (reading text at).outcome).prints
  unfolding listing_to after listed_to
  listing_on g =
      rw (outcomes_on text at h w, listed_append g (outcomes (take at text)) ((reading text at).outcome ∷ []), append-nil)

  pub after_on : (g : Progress) → after g (take (reading text at).place text) ≡ next (after g (take at text)) (reading text at).outcome
  unfolding after passed
  after_on g = rw (outcomes_on text at h w, passed_append g (outcomes (take at text)) ((reading text at).outcome ∷ []))

-- no line of a listing goes on
listed_whole : (g : Progress) (os : List (Outcome Record)) → whole (listed g os) ≡ true
unfolding listed_to step_to whole
listed_whole g [] = refl
listed_whole g (o ∷ os) =
    whole_append (step g o).prints (listed (next g o) os) (step_whole (suc g.count) g.loaded g.tracker o) (listed_whole (next g o) os)

pub listing_whole : (g : Progress) (text : List ℕ) → whole (listing g text) ≡ true
unfolding listing_to
listing_whole g text = listed_whole g (outcomes text)

-- settings lines whose N is judged alike where it may be up to another most
pub listed_alike : (most : ℕ) (g : Progress) (os : List (Outcome Record)) → StandingAlike most g.tracker → AllAlike most os → listed_to most g os ≡ listed g os
unfolding listed_to step_to next_to
listed_alike most g [] h all = refl
listed_alike most g (o ∷ os) h all =
    let number : ℕ = suc g.count in
    rw (
      line_same most number g.loaded g.tracker o os h all,
      listed_alike most (next g o) os (line_stands_alike most number g.loaded g.tracker o os h all) (λ s m. all s (Memᴰ.tail m)),
    )
