-- What is claimed of spellings and of the writer. proofs/Claims.antt proves each under the same name.
use Rattle.std.specs.Prelude.{ℕ, ◌≤◌, ◌<◌, ◌≡◌, true, List, ◌∷◌, ◌++◌, length, take}
use Rattle.std.proofs.Math.Option.{Option, none}
use Rattle.device.specs.declared.Settings.{Settings}
use Rattle.device.specs.Refusal.{Outcome, accepted}
use Rattle.trace.specs.declared.Record.{Record}
use Rattle.trace.specs.declared.Record.TheVariants.{Set}
use Rattle.trace.specs.Claims.{AllAlike}
use Rattle.trace.specs.Texts.{outcomes}
use Rattle.canonical.specs.Spelling.{spelling, unblank, unrefused}
use Rattle.canonical.specs.Writing.{fault_to, first_fault_to, before_fault_to, writing_to, standing_after, fault, first_fault, before_fault, writing}

-- 'The reader returns the records that were written': the written text, read line by line from its start, gives exactly these, blank ones
-- aside, and no refused line
unfoldable pub RoundTrip : Type 0
RoundTrip =
    (os : List (Outcome Record)) (text : List ℕ) (n : ℕ) → (writing os text).answer ≡ accepted n →
    (outcomes (take n (writing os text).text) ≡ unblank os) × (unrefused (unblank os) ≡ true)

-- the same of every trace that a reader can give, settings and rows out of range too
unfoldable pub ReadBack : Type 0
ReadBack = (text : List ℕ) → unrefused (outcomes text) ≡ true → outcomes (spelling (outcomes text)) ≡ unblank (outcomes text)

-- 'Two traces without a refused line carry the same records in the same order, blank lines aside, exactly when their rewritten texts are the
-- same bytes'
unfoldable pub OneSpelling : Type 0
OneSpelling =
    (a b : List ℕ) → unrefused (outcomes a) ≡ true → unrefused (outcomes b) ≡ true →
    (unblank (outcomes a) ≡ unblank (outcomes b) → spelling (outcomes a) ≡ spelling (outcomes b)) ×
    (spelling (outcomes a) ≡ spelling (outcomes b) → unblank (outcomes a) ≡ unblank (outcomes b))

-- rewriting a rewritten text changes nothing
unfoldable pub RewrittenStays : Type 0
RewrittenStays =
    (text : List ℕ) → unrefused (outcomes text) ≡ true → spelling (outcomes (spelling (outcomes text))) ≡ spelling (outcomes text)

-- when the writer gives the spelling: no answer is faulty, and it fits the lent text
unfoldable pub WriterSpells : Type 0
WriterSpells =
    (os : List (Outcome Record)) (text : List ℕ) →
    (first_fault none os ≡ 0 → length (spelling os) ≤ length text →
    ((writing os text).answer ≡ accepted (length (spelling os))) × (take (length (spelling os)) (writing os text).text ≡ spelling os)) ×
    ((n : ℕ) → (writing os text).answer ≡ accepted n → (first_fault none os ≡ 0) × (length (spelling os) ≤ length text) × (n ≡ length (spelling os)))

-- so a text that the writer wrote is rewritten to itself, wherever it fits
unfoldable pub WrittenStays : Type 0
WrittenStays =
    (os : List (Outcome Record)) (text text' : List ℕ) (n : ℕ) → (writing os text).answer ≡ accepted n → n ≤ length text' →
    let bytes = take n (writing os text).text in
    ((writing (outcomes bytes) text').answer ≡ accepted n) × (take n (writing (outcomes bytes) text').text ≡ bytes)

-- a faulty answer behind those without a fault, where they leave off
pub record FirstFaulty (os : List (Outcome Record)) : Type 0 where
  pub answer : Outcome Record
  pub others : List (Outcome Record)
  pub behind : os ≡ before_fault none os ++ (answer ∷ others)
  pub faulty : fault (standing_after none (before_fault none os)) answer ≡ first_fault none os

-- 'the first faulty record deciding': the answers before it have no fault; they are all, or it stands right behind them
unfoldable pub BeforeSound : Type 0
BeforeSound =
    (os : List (Outcome Record)) →
    (first_fault none (before_fault none os) ≡ 0) × (first_fault none os ≡ 0 → before_fault none os ≡ os) ×
    ((first_fault none os ≡ 0 → ⊥) → FirstFaulty os)

-- answers whose settings are all judged alike where N may be up to another most are written as they would be there, and the same one is the first faulty; settings with N above that most have fault 1 there
unfoldable pub WritingStays : Type 0
WritingStays =
    (most : ℕ) (os : List (Outcome Record)) →
    (AllAlike most os →
    ((text : List ℕ) → writing_to most os text ≡ writing os text) × (first_fault_to most none os ≡ first_fault none os) ×
    (before_fault_to most none os ≡ before_fault none os)) ×
    ((standing : Option ℕ) (s : Settings) → most < s.rows → fault_to most standing (accepted (Set s)) ≡ 1)
