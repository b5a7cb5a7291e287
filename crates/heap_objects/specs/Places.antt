-- How the index of the slots of a frame is tied to the list of them.
use Rattle.std.specs.Prelude.{◌≡◌, ◌==◌, ◌≢◌, ℕ, suc, AllPairs, [], ◌∷◌, Option, Some, None, if◌then◌else◌}
use Rattle.std.specs.BTreeMap.{BTreeMap, get}
use Rattle.std.specs.Ordering.{nat_cmp}
use Rattle.heap_objects.specs.Names.{SlotList, slot_names}

-- the place of the first slot with this name, where the first place is n
abbrev pub place_from : ℕ → SlotList → ℕ → Option ℕ
place_from n [] name = None
place_from n (slot ∷ slots) name = if slot.0.0 == name then Some n else place_from (suc n) slots name

abbrev pub ArePlaces : BTreeMap ℕ ℕ → SlotList → Type 0
ArePlaces places slots = (name : ℕ) → get nat_cmp places name ≡ place_from 0 slots name

-- and no two slots have the same name
pub record AreSlots (index : BTreeMap ℕ ℕ) (slots : SlotList) : Type 0 where
  pub places : ArePlaces index slots
  pub distinct : AllPairs (λ m n. m ≢ n) (slot_names slots)
