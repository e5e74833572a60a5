-- What is claimed of the listing, besides the calls' contracts. proofs/Claims.antt proves each under the same name.
use Rattle.std.specs.Prelude.{ℕ, suc, ◌+◌, ◌*◌, ◌≤◌, ◌<◌, ◌≡◌, true, false, List, [], ◌++◌, length, take, drop}
use Rattle.std.proofs.Math.Option.{none}
use Rattle.trace.specs.Lines.{ended}
use Rattle.device.specs.declared.Settings.{Settings}
use Rattle.device.specs.Refusal.{accepted}
use Rattle.device.specs.Remap.{remap_allowed}
use Rattle.trace.specs.declared.Record.TheVariants.{Set}
use Rattle.trace.specs.Claims.{AllAlike}
use Rattle.steps.specs.Steps.{Progress, start, refused_step, step_to}
use Rattle.listing.specs.Texts.{listing_to, listing, after}
use Rattle.steps.specs.Memory.{Memory, Represents, next_number}
use Rattle.listing.specs.Chunks.{line_room, part, chunk, last_line}
use Rattle.trace.specs.Texts.{outcomes, joined}
use Rattle.listing.specs.Parts.{Printed, Moves}

-- however a text is cut into parts, and whatever is listed when: what is printed is the listing of the whole
unfoldable pub PartsJoined : Type 0
PartsJoined =
    (g : Progress) (text : List ℕ) (parts : List (List ℕ)) (out : List ℕ) → Printed g text parts out → out ≡ listing g (text ++ joined parts)

-- what `list_part` promises is the move `lists`
unfoldable pub PartMoves : Type 0
PartMoves =
    (m : Memory) (g : Progress) (text buffer : List ℕ) → Represents m g →
    let q = part m text buffer in
    Moves g text (take q.end q.buffer) q.memory (drop q.taken text)

-- what `list_chunk` promises, with `keep` in it, are the moves `lists` and `keeps`
unfoldable pub ChunkMoves : Type 0
ChunkMoves =
    (m : Memory) (g : Progress) (text : List ℕ) (len : ℕ) (buffer : List ℕ) → Represents m g → len ≤ length text → 55 * len + line_room ≤ length buffer →
    let q = chunk m text len buffer in
    Moves g (take len text) (take q.end q.buffer) q.memory (take q.kept q.text)

-- what `list_end` promises is the move `ends`
unfoldable pub EndMoves : Type 0
EndMoves =
    (m : Memory) (g : Progress) (text : List ℕ) (room : ℕ) → Represents m g → ended text ≡ false → 18 ≤ room →
    Printed g text [] (last_line (next_number m.lines) text room)

-- whatever lines came before, the remap for the next `S` is an accepted one: no `S` is refused with 14
unfoldable pub LoadedAllowed : Type 0
LoadedAllowed = (text : List ℕ) → remap_allowed (after start text).loaded ≡ true

-- 'settings that were valid give the listings they gave': a trace has the listing that it has where N may be up to another most, if that judges N of all
-- its settings lines alike, as it does every N up to its most and above `most_rows` (`SettingsStay`); a settings line with N above that most is refused with 1 there
unfoldable pub ListingsStay : Type 0
ListingsStay =
    (most : ℕ) →
    ((text : List ℕ) → AllAlike most (outcomes text) → listing_to most start text ≡ listing start text) ×
    ((g : Progress) (s : Settings) → most < s.rows → step_to most g (accepted (Set s)) ≡ refused_step (suc g.count) 1 none)
