-- The state of a run: the objects in the order of making, each with what its locations hold, the events so far, and at which
-- object each run began to make objects.
use Rattle.std.specs.Prelude.{◌==◌, ◌-◌, ℕ, Bool, true, false, List, [], ◌∷◌, ◌++◌, length, map, Option, Some, None, if◌then◌else◌, pos, set, slice_get, nat_lt}
use Rattle.std.specs.FinMap as fin
use Rattle.flow_base.specs.declared.event.Event.{Event}
use Rattle.flow_base.specs.declared.event.ReadHow.{ReadHow}
use Rattle.flow_base.specs.declared.event.Event.TheVariants as event
use Rattle.flow_base.specs.declared.event.ReadHow.TheVariants as how
use Rattle.flow_base.specs.declared.key.Key.{Key, out-Key, roll-Key}
use Rattle.flow_base.specs.declared.key.Key.TheOpen as key
use Rattle.flow_base.specs.declared.key.Key.TheOpen.{Key-F}
use Rattle.flow_base.specs.declared.loc.Loc.{Loc}
use Rattle.flow_base.specs.declared.loc.Loc.TheVariants as loc
use Rattle.flow_base.specs.declared.numbers.ObjRef.{ObjRef}
use Rattle.flow_base.specs.declared.numbers.RunNo.{RunNo}
use Rattle.flow_base.specs.declared.numbers.Sym.{Sym}
use Rattle.heap_objects.specs.Entries.{entry_of, has_key}
use Rattle.heap_objects.specs.Names.{name_at, slot_names, slot_value}
use Rattle.heap_objects.specs.declared.tree.Entry.{Entry}
use Rattle.heap_objects.specs.declared.object.Cell.{Cell}
use Rattle.heap_objects.specs.declared.object.Cell.TheVariants as cell
use Rattle.heap_objects.specs.declared.object.Content.{Content}
use Rattle.heap_objects.specs.declared.object.Content.TheVariants as holds
use Rattle.heap_objects.specs.declared.object.Node.{Node}
use Rattle.heap_objects.specs.declared.object.Object.{Object}
use Rattle.heap_objects.specs.declared.object.Object.TheVariants as object
use Rattle.heap_objects.specs.declared.value.Value.{Value}

pub record State : Type 0 where
  -- the objects, each with what its locations hold
  pub nodes : List Node
  -- what the run did so far
  pub events : List Event
  -- the run under way
  pub run : RunNo
  -- each run that made objects, with its first one, in the order of the runs
  pub starts : List (RunNo × ℕ)

-- ---- objects

abbrev pub object_in : Option Node → Option Object
object_in None = None
object_in (Some n) = Some n.object

-- the kind and the fixed part of an object
abbrev pub object_at : State → ObjRef → Option Object
object_at s o = object_in (slice_get s.nodes o.0)

abbrev pub cell_in : Option Node → Cell
cell_in None = cell.Nothing
cell_in (Some n) = n.cell

abbrev pub cell_or_nothing : Option Cell → Cell
cell_or_nothing None = cell.Nothing
cell_or_nothing (Some c) = c

abbrev pub cell_at : State → ObjRef → Cell
cell_at s o = cell_in (slice_get s.nodes o.0)

-- ---- what a location holds

-- at a symbol in the global frame or the frame of a function
abbrev pub name_in : Cell → Sym → Option Value
name_in (cell.Global names) n = fin.get names n.0
name_in (cell.Frame slots) n = slot_value slots n
name_in _ n = None

-- at a symbol in an instance or a class
abbrev pub attr_in : Cell → Sym → Option Value
attr_in (cell.Attrs names) n = fin.get names n.0
attr_in _ n = None

-- at a place, from 0, of a list
abbrev pub list_item : List Value → Key-F Key → Option Value
list_item items (key.Int (pos i)) = slice_get items i
list_item items _ = None

abbrev pub entry_value : Option Entry → Option Value
entry_value None = None
entry_value (Some e) = Some e.value

-- at a key in a list or a dictionary
abbrev pub item_in : Cell → Key → Option Value
item_in (cell.List items) k = list_item items (out-Key k)
item_in (cell.Dict entries) k = entry_value (entry_of entries k)
item_in _ k = None

-- a key stands in a dictionary
abbrev pub key_in : Cell → Key → Bool
key_in (cell.Dict entries) k = has_key entries k
key_in _ k = false

-- the keys of a dictionary as they were first written, in order
abbrev pub keys_in : Cell → List Value
keys_in (cell.Dict entries) = map (λ e. e.spelled) entries
keys_in _ = []

-- the length of a list, or the number of keys of a dictionary
abbrev pub count_in : Cell → ℕ
count_in (cell.List items) = length items
count_in (cell.Dict entries) = length entries
count_in _ = 0

abbrev pub shape_in : Cell → Content
shape_in (cell.List items) = holds.Length (length items)
shape_in (cell.Dict entries) = holds.Keys (map (λ e. e.spelled) entries)
shape_in _ = holds.Absent

-- what a name, an attribute or an item holds, if it holds a value
abbrev pub value_in : (ObjRef → Cell) → Loc → Option Value
value_in at (loc.Name f n) = name_in (at f) n
value_in at (loc.Attr o n) = attr_in (at o) n
value_in at (loc.Item o k) = item_in (at o) k
value_in at (loc.Present o k) = None
value_in at (loc.Shape o) = None

unfoldable pub value_at : State → Loc → Option Value
value_at s l = value_in (cell_at s) l

abbrev pub held : Option Value → Content
held None = holds.Absent
held (Some v) = holds.Held v

abbrev pub present_if : Bool → Content
present_if true = holds.Present
present_if false = holds.Absent

abbrev pub content_in : (ObjRef → Cell) → Loc → Content
content_in at (loc.Name f n) = held (name_in (at f) n)
content_in at (loc.Attr o n) = held (attr_in (at o) n)
content_in at (loc.Item o k) = held (item_in (at o) k)
content_in at (loc.Present o k) = present_if (key_in (at o) k)
content_in at (loc.Shape o) = shape_in (at o)

-- what a location holds
unfoldable pub content : State → Loc → Content
content s l = content_in (cell_at s) l

-- whether a key stands in a dictionary
unfoldable pub present_at : State → ObjRef → Key → Bool
present_at s o k = key_in (cell_at s o) k

-- the length of a list, or the number of keys of a dictionary
unfoldable pub count_at : State → ObjRef → ℕ
count_at s o = count_in (cell_at s o)

-- the keys of a dictionary as they were first written, in order
unfoldable pub keys_at : State → ObjRef → List Value
keys_at s o = keys_in (cell_at s o)

-- what a symbol holds in a frame, an instance or a class
abbrev pub symbol_in : Cell → Sym → Option Value
symbol_in (cell.Global names) n = fin.get names n.0
symbol_in (cell.Frame slots) n = slot_value slots n
symbol_in (cell.Attrs names) n = fin.get names n.0
symbol_in _ n = None

unfoldable pub symbol_at : State → ObjRef → Sym → Option Value
symbol_at s o n = symbol_in (cell_at s o) n

-- the object of a location
abbrev pub object_of : Loc → ObjRef
object_of (loc.Name f n) = f
object_of (loc.Attr o n) = o
object_of (loc.Item o k) = o
object_of (loc.Present o k) = o
object_of (loc.Shape o) = o

-- an item of a list, by its place
abbrev pub item : ObjRef → ℕ → Loc
item o i = loc.Item o (roll-Key (key.Int (pos i)))

-- ---- slots

abbrev pub slots_in : Cell → List Sym
slots_in (cell.Frame slots) = slot_names slots
slots_in _ = []

-- the names of the slots of a function's frame, in order; they are no part of what a state means
abbrev pub slots_at : State → ObjRef → List Sym
slots_at s f = slots_in (cell_at s f)

-- the location of a slot, which is that of its name
abbrev pub slot_of : State → ObjRef → ℕ → Loc
slot_of s f i = loc.Name f (name_at (slots_at s f) i)

-- ---- names of objects

abbrev pub origin_from : RunNo × ℕ → List (RunNo × ℕ) → ℕ → RunNo × ℕ
origin_from last [] o = (last.0, o - last.1)
origin_from last (start ∷ starts) o = if nat_lt o start.1 then (last.0, o - last.1) else origin_from start starts o

-- the name of an object: the run that made it, and its place, from 0, among the objects of that run
unfoldable pub origin_of : State → ObjRef → RunNo × ℕ
origin_of s o = origin_from (record { 0 = 0 }, 0) s.starts o.0

abbrev pub run_of : Option (RunNo × ℕ) → RunNo
run_of None = record { 0 = 0 }
run_of (Some start) = start.0

-- the last run that made objects
abbrev pub last_run : List (RunNo × ℕ) → RunNo
last_run starts = run_of (slice_get starts (length starts - 1))

-- the starts when the run makes the object with this number
abbrev pub started : List (RunNo × ℕ) → RunNo → ℕ → List (RunNo × ℕ)
started starts run o = if (last_run starts).0 == run.0 then starts else starts ++ (run, o) ∷ []

-- ---- what calls do

-- a state with the global frame alone, before every run
unfoldable pub start : State
start = record { nodes = record { object = object.Frame None; cell = cell.Global fin.empty } ∷ []; events = []; run = record { 0 = 0 }; starts = [] }

unfoldable pub begun : RunNo → State → State
begun run s = record s { run = run; events = [] }

unfoldable pub logged : Event → State → State
logged e s = record s { events = s.events ++ e ∷ [] }

-- with several events, in order
unfoldable pub logged_all : List Event → State → State
logged_all es s = record s { events = s.events ++ es }

abbrev pub read_event : ReadHow → Loc → Event
read_event how.Use l = event.Use l
read_event how.Place l = event.Place l

-- the number of the next object
abbrev pub next_object : State → ObjRef
next_object s = record { 0 = length s.nodes }

-- with one object more
unfoldable pub made : Object → Cell → State → State
made o c s = record s { nodes = s.nodes ++ record { object = o; cell = c } ∷ []; starts = started s.starts s.run (length s.nodes) }

abbrev pub changed_at : (Cell → Cell) → List Node → ℕ → Option Node → List Node
changed_at f nodes i None = nodes
changed_at f nodes i (Some n) = set nodes i (record n { cell = f n.cell })

-- the nodes with one cell changed
abbrev pub changed : (Cell → Cell) → List Node → ℕ → List Node
changed f nodes i = changed_at f nodes i (slice_get nodes i)

-- with what the locations of one object hold changed
unfoldable pub with_cell : ObjRef → (Cell → Cell) → State → State
with_cell o f s = record s { nodes = changed f s.nodes o.0 }
