-- Values by name: in the global frame, an instance or a class by a finite map, and in the frame of a function by slots.
use Rattle.std.specs.Prelude.{◌≡◌, ◌==◌, ℕ, true, List, [], ◌∷◌, map, Option, Some, None, is_some, if◌then◌else◌, slice_index_or}
use Rattle.std.specs.FinMap as fin
use Rattle.std.specs.List.{list_any}
use Rattle.std.specs.List.Sorted.{IsStrictlySortedBy}
use Rattle.std.specs.Ordering.{nat_cmp}
use Rattle.flow_base.specs.declared.numbers.Sym.{Sym}
use Rattle.heap_objects.specs.declared.value.Value.{Value}

abbrev pub Names : Type 0
Names = fin.FinMap nat_cmp Value

-- the names with one that holds a value, or nothing
abbrev pub with_name : Names → Sym → Option Value → Names
with_name names n (Some v) = fin.insert names n.0 v
with_name names n None = fin.remove names n.0

-- the slots of a frame, each with its name and what it holds
abbrev pub SlotList : Type 0
SlotList = List (Sym × Option Value)

abbrev pub new_slots : List Sym → SlotList
new_slots names = map (λ n. (n, None)) names

abbrev pub slot_value : SlotList → Sym → Option Value
slot_value [] n = None
slot_value (slot ∷ slots) n = if slot.0.0 == n.0 then slot.1 else slot_value slots n

-- the slots with one that holds this; nothing changes where no slot has the name
abbrev pub with_slot : SlotList → Sym → Option Value → SlotList
with_slot [] n v = []
with_slot (slot ∷ slots) n v = if slot.0.0 == n.0 then (slot.0, v) ∷ slots else slot ∷ with_slot slots n v

abbrev pub slot_names : SlotList → List Sym
slot_names slots = map (λ slot. slot.0) slots

-- the name at a place of a list
abbrev pub name_at : List Sym → ℕ → Sym
name_at names i = slice_index_or names i (record { 0 = 0 })

-- the names that hold a value, in ascending order of their numbers
pub record IsSymbols (value : Sym → Option Value) (names : List Sym) : Type 0 where
  pub ascending : IsStrictlySortedBy nat_cmp (map (λ n. n.0) names)
  pub all : (n : Sym) → list_any (λ m. m.0 == n.0) names ≡ is_some (value n)

-- numbers in ascending order, among which are those of all names that hold a value
pub record AreNumbers (value : Sym → Option Value) (numbers : List ℕ) : Type 0 where
  pub ascending : IsStrictlySortedBy nat_cmp numbers
  pub all : (n : Sym) → is_some (value n) ≡ true → list_any (λ m. m == n.0) numbers ≡ true

-- the names with these numbers that hold a value
abbrev pub holding : (Sym → Option Value) → List ℕ → List Sym
holding value [] = []
holding value (n ∷ ns) = if is_some (value (record { 0 = n })) then record { 0 = n } ∷ holding value ns else holding value ns
