-- What the calls of the heap do to a state.
use Rattle.std.specs.Prelude.{◌==◌, ◌-◌, ℕ, zero, suc, Bool, true, false, List, [], ◌∷◌, ◌++◌, length, max, take, set, Option, Some, None}
use Rattle.std.specs.FinMap as fin
use Rattle.flow_base.specs.declared.event.Event.{Event}
use Rattle.flow_base.specs.declared.event.Event.TheVariants as event
use Rattle.flow_base.specs.declared.key.Key.{Key}
use Rattle.flow_base.specs.declared.loc.Loc.{Loc}
use Rattle.flow_base.specs.declared.loc.Loc.TheVariants as loc
use Rattle.flow_base.specs.declared.numbers.CodeRef.{CodeRef}
use Rattle.flow_base.specs.declared.numbers.ObjRef.{ObjRef}
use Rattle.flow_base.specs.declared.numbers.Sym.{Sym}
use Rattle.heap_objects.specs.Entries.{has_key, with_all, with_entry, without}
use Rattle.heap_objects.specs.Names.{new_slots, with_name, with_slot}
use Rattle.heap_objects.specs.State.{State, cell_at, item, logged, logged_all, made, next_object, with_cell}
use Rattle.heap_objects.specs.declared.tree.Entry.{Entry}
use Rattle.heap_objects.specs.declared.object.Cell.{Cell}
use Rattle.heap_objects.specs.declared.object.Cell.TheVariants as cell
use Rattle.heap_objects.specs.declared.object.Object.TheVariants as object
use Rattle.heap_objects.specs.declared.value.Value.{Value}

-- ---- names and attributes

abbrev pub store_name : Sym → Option Value → Cell → Cell
store_name n v (cell.Global names) = cell.Global (with_name names n v)
store_name n v (cell.Frame slots) = cell.Frame (with_slot slots n v)
store_name n v c = c

abbrev pub store_attr : Sym → Option Value → Cell → Cell
store_attr n v (cell.Attrs names) = cell.Attrs (with_name names n v)
store_attr n v c = c

abbrev pub store_at : Loc → Option Value → State → State
store_at (loc.Name f n) v s = with_cell f (store_name n v) s
store_at (loc.Attr o n) v s = with_cell o (store_attr n v) s
store_at _ v s = s

-- a name or an attribute holds the value, or nothing
unfoldable pub stored : Loc → Option Value → State → State
stored l v s = logged (event.Write l) (store_at l v s)

-- ---- lists

abbrev pub put_item : ℕ → Value → Cell → Cell
put_item i v (cell.List items) = cell.List (set items i v)
put_item i v c = c

-- an item that is there holds the value
unfoldable pub list_put : ObjRef → ℕ → Value → State → State
list_put o i v s = logged (event.Write (item o i)) (with_cell o (put_item i v) s)

abbrev pub spliced_items : List Value → ℕ → List Value → List Value
spliced_items items i tail = take i items ++ tail

abbrev pub splice_items : ℕ → List Value → Cell → Cell
splice_items i tail (cell.List items) = cell.List (spliced_items items i tail)
splice_items i tail c = c

-- writes of so many items of a list, from one on
abbrev pub item_writes : ObjRef → ℕ → ℕ → List Event
item_writes o i zero = []
item_writes o i (suc n) = event.Write (item o i) ∷ item_writes o (suc i) n

-- the shape is written where the length changes
abbrev pub length_write : ObjRef → Bool → List Event
length_write o true = []
length_write o false = event.Write (loc.Shape o) ∷ []

-- the items from one on, up to the greater of two lengths, and then the shape
abbrev pub splice_writes : ObjRef → ℕ → ℕ → ℕ → List Event
splice_writes o i old new = item_writes o i (max old new - i) ++ length_write o (old == new)

abbrev pub splice_events : ObjRef → ℕ → List Value → Cell → List Event
splice_events o i tail (cell.List items) = splice_writes o i (length items) (length (spliced_items items i tail))
splice_events o i tail c = []

-- a list has these items in the place of all from one on
unfoldable pub spliced : ObjRef → ℕ → List Value → State → State
spliced o i tail s = logged_all (splice_events o i tail (cell_at s o)) (with_cell o (splice_items i tail) s)

-- ---- dictionaries

abbrev pub put_entry : Key → Value → Value → Cell → Cell
put_entry k spelled v (cell.Dict entries) = cell.Dict (with_entry entries k spelled v)
put_entry k spelled v c = c

-- a key that is present has its value written alone
abbrev pub put_writes : ObjRef → Key → Bool → List Event
put_writes d k true = event.Place (loc.Present d k) ∷ event.Write (loc.Item d k) ∷ []
put_writes d k false =
    event.Place (loc.Present d k) ∷ event.Place (loc.Shape d) ∷ event.Write (loc.Item d k) ∷ event.Write (loc.Present d k) ∷ event.Write (loc.Shape d) ∷ []

abbrev pub put_events : ObjRef → Key → Cell → List Event
put_events d k (cell.Dict entries) = put_writes d k (has_key entries k)
put_events d k c = []

-- a dictionary has the value at the key; a new key comes last, and one that is present stays where it is and as it was written
unfoldable pub dict_put : ObjRef → Key → Value → Value → State → State
dict_put d k spelled v s = logged_all (put_events d k (cell_at s d)) (with_cell d (put_entry k spelled v) s)

abbrev pub remove_entry : Key → Cell → Cell
remove_entry k (cell.Dict entries) = cell.Dict (without entries k)
remove_entry k c = c

abbrev pub remove_writes : ObjRef → Key → List Event
remove_writes d k = event.Place (loc.Shape d) ∷ event.Write (loc.Item d k) ∷ event.Write (loc.Present d k) ∷ event.Write (loc.Shape d) ∷ []

abbrev pub remove_events : ObjRef → Key → Cell → List Event
remove_events d k (cell.Dict entries) = remove_writes d k
remove_events d k c = []

-- a dictionary lacks the key
unfoldable pub dict_remove : ObjRef → Key → State → State
dict_remove d k s = logged_all (remove_events d k (cell_at s d)) (with_cell d (remove_entry k) s)

abbrev pub clear_entries : Cell → Cell
clear_entries (cell.Dict entries) = cell.Dict []
clear_entries c = c

-- writes of the item and the presence of each key, and then of the shape
abbrev pub entry_writes : ObjRef → List Entry → List Event
entry_writes d [] = event.Write (loc.Shape d) ∷ []
entry_writes d (e ∷ entries) = event.Write (loc.Item d e.key) ∷ event.Write (loc.Present d e.key) ∷ entry_writes d entries

abbrev pub clear_events : ObjRef → Cell → List Event
clear_events d (cell.Dict entries) = entry_writes d entries
clear_events d c = []

-- a dictionary has no keys
unfoldable pub dict_clear : ObjRef → State → State
dict_clear d s = logged_all (clear_events d (cell_at s d)) (with_cell d clear_entries s)

-- the same by a value, where it has a key
unfoldable pub put_at : ObjRef → Option Key → Value → Value → State → State
put_at d None spelled v s = s
put_at d (Some k) spelled v s = dict_put d k spelled v s

-- ---- new objects

unfoldable pub new_frame : ObjRef → List Sym → State → State
new_frame parent names s = made (object.Frame (Some parent)) (cell.Frame (new_slots names)) s

unfoldable pub new_list : List Value → State → State
new_list items s = logged_all (item_writes (next_object s) 0 (length items) ++ event.Write (loc.Shape (next_object s)) ∷ []) (made object.List (cell.List items) s)

unfoldable pub new_dict : List Value → List Value → State → State
new_dict keys values s = logged_all (entry_writes (next_object s) (with_all [] keys values)) (made object.Dict (cell.Dict (with_all [] keys values)) s)

unfoldable pub new_instance : Value → State → State
new_instance class s = made (object.Instance class) (cell.Attrs fin.empty) s

unfoldable pub new_class : Sym → Option Value → State → State
new_class name base s = made (object.Class name base) (cell.Attrs fin.empty) s

unfoldable pub new_function : Sym → CodeRef → List Value → ObjRef → State → State
new_function name code defaults parent s = made (object.Function name code defaults parent) cell.Nothing s
