-- What a line that is being read has of its bytes.
use Rattle.std.specs.Prelude.{◌≡◌, ℕ, ◌+◌, ◌<◌, ◌≤◌, List, [], ◌∷◌, ◌++◌, ◌==◌, length, Bool, true, false, Option, Result, Ok, Err}
use Rattle.std.specs.Io.KnownBytes.{prepend_known, IsAtEnd}
use Rattle.flow_base.specs.Lines.{HasNoEnd}
use Rattle.flow_base.specs.declared.no_memory.NoMemory.{NoMemory as OutOfMemory}
use Rattle.flow_io.specs.Reader.{Backlog}
use Rattle.flow_io.specs.declared.TheConstants.{LINE_LIMIT, INPUT_LIMIT}
use Rattle.flow_io.specs.declared.gathered.Gathered.{Gathered}
use Rattle.flow_io.specs.declared.line.LineFault.{LineFault}
use Rattle.flow_io.specs.declared.line.LineFault.TheVariants.{Read, InputLimit, NoMemory}

abbrev pub is_line_feed : ℕ → Bool
is_line_feed b = b == 10

abbrev pub IsKept : Bool → List ℕ → List ℕ → Type 0
IsKept true kept line = (LINE_LIMIT < length line) × (kept ≡ [])
IsKept false kept line = (kept ≡ line) × (length line ≤ LINE_LIMIT)

-- all of the line, or that it is too long
abbrev pub Holds : Gathered → List ℕ → Type 0
Holds g line = IsKept g.too_long g.kept.items line

-- What moves into a line that had begun: the bytes up to the first line feed, which goes, or all.
abbrev pub IsMoved : Result Bool OutOfMemory → List ℕ → List ℕ → List ℕ → Gathered → Type 0
IsMoved (Ok true) begun bytes rest g = (part : List ℕ) × HasNoEnd part × (bytes ≡ part ++ 10 ∷ rest) × Holds g (begun ++ part)
IsMoved (Ok false) begun bytes rest g = HasNoEnd bytes × (rest ≡ []) × Holds g (begun ++ bytes)
IsMoved (Err _) begun bytes rest g = Unit {0}

-- what was gathered of these bytes: a line up to its line feed (`true`), or all of them up to the end (`false`)
abbrev pub IsGathered : Result Bool LineFault → List ℕ → Option (List ℕ) → Backlog → Gathered → Type 0
IsGathered (Ok true) bytes left now g = (line : List ℕ) × HasNoEnd line × (bytes ≡ line ++ 10 ∷ now.bytes) × Holds g line
IsGathered (Ok false) bytes left now g = HasNoEnd bytes × IsAtEnd left × (now.bytes ≡ []) × (now.taken ≤ INPUT_LIMIT) × Holds g bytes
IsGathered (Err Read) bytes left now g = HasNoEnd bytes
IsGathered (Err InputLimit) bytes left now g = HasNoEnd bytes × (INPUT_LIMIT < now.taken)
IsGathered (Err NoMemory) bytes left now g = Unit {0}

-- a line was gathered from the bytes that were held and those that the source gave
pub record Gathers (given : List ℕ) (before after : Option (List ℕ)) (old new : Backlog) (result : Result Bool LineFault) (g : Gathered) : Type 0 where
  pub source : before ≡ prepend_known given after
  pub count : new.taken ≡ old.taken + length given
  pub gathered : IsGathered result (old.bytes ++ given) after new g
