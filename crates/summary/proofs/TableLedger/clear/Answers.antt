-- `summary::TableLedger::clear` meets its contract.
use Rattle.std.proofs.Common.{refl, ap, ◌∙◌, ℕ, length, replicate}
use Rattle.summary.proofs.InnerContracts.Holds.{long_counts, held_again}
use Rattle.summary.proofs.InnerContracts.Changes.{holds_empty}
use Rattle.summary.proofs.Kept.{turns}
use Rattle.summary.proofs.TableLedger.clear.Goals as goal

pub invariant_of-self : goal.invariant_of-self
invariant_of-self c =
    let a = c.args.self.now in
    let e = c.clear_entries.ensures in
    record { tracks = held_again (holds_empty (length a.rows.now) e.0 (e.1 ∙ ap (λ (n : ℕ). replicate n 0) (long_counts a.tracks))) }

pub returns : goal.returns
returns c =
    let a = c.args.self.now in
    let e = c.clear_entries.ensures in
    turns (holds_empty (length a.rows.now) e.0 (e.1 ∙ ap (λ (n : ℕ). replicate n 0) (long_counts a.tracks))) (refl, refl)
