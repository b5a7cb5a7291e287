-- How a search looks for a part: where it cuts it, and how far it may move.
use Rattle.std.specs.Prelude.{◌≡◌, ℕ, ◌+◌, ◌<◌, ◌≤◌, Bool, true, false, List, length, get_or}
use Rattle.memchr.specs.Critical.{IsCritical, NoPeriodBelow}

-- the code point at a place
abbrev pub point_of : List ℕ → ℕ → ℕ
point_of text k = get_or text k 0

-- which of two code points comes before the other, in their order or in its reverse
unfoldable pub Precedes : Bool → ℕ → ℕ → Type 0
Precedes false a b = a < b
Precedes true a b = b < a

-- the cut of a part is a critical place, no period of the part is below the shift, and what is kept are first code
-- points that stand in the part a shift on too, behind the cut
pub record IsPlan (part : List ℕ) (cut shift kept : ℕ) : Type 0 where
  pub below : cut ≤ length part
  pub critical : IsCritical (point_of part) (length part) cut
  pub moves : 0 < shift
  pub fits : kept + shift ≤ length part + 1
  pub least : NoPeriodBelow (point_of part) (length part) shift
  pub keeps : (k : ℕ) → k < kept → (cut ≤ k + shift) × (k + shift < length part) × (point_of part k ≡ point_of part (k + shift))
