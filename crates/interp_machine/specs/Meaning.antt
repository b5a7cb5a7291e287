-- What an operation means, and the primitive operations.
use Rattle.std.specs.Prelude.{◌≡◌, ◌≢◌, ◌-◌, ◌++◌, ℕ, nat_le, Bool, List, [], ◌∷◌, map, slice_get, Option, Some, None, Result, Ok, Err, if◌then◌else◌}
use Rattle.exceptions_core.specs.Errors.{class_of, text_after, text_before}
use Rattle.exceptions_core.specs.declared.class.ExcClass.{ExcClass}
use Rattle.exceptions_core.specs.declared.error.FaultKind.{FaultKind}
use Rattle.exceptions_core.specs.declared.error.FaultKind.TheVariants.{Depth}
use Rattle.flow_base.specs.declared.event.Event.TheVariants as event
use Rattle.flow_base.specs.declared.event.ReadHow.{ReadHow}
use Rattle.flow_base.specs.declared.key.Key.{Key}
use Rattle.flow_base.specs.declared.loc.Loc.{Loc}
use Rattle.flow_base.specs.declared.loc.Loc.TheVariants as loc
use Rattle.flow_base.specs.declared.numbers.ObjRef.{ObjRef}
use Rattle.flow_base.specs.declared.numbers.Sym.{Sym}
use Rattle.heap_objects.specs.Calls as calls
use Rattle.heap_objects.specs.Keyed.{key_of}
use Rattle.heap_objects.specs.Nesting.{kept_nesting, largest, tuple_of}
use Rattle.heap_objects.specs.State as state
use Rattle.heap_objects.specs.State.{State, next_object, object_at, read_event}
use Rattle.heap_objects.specs.declared.object.Object.{Object}
use Rattle.heap_objects.specs.declared.value.TheConstants.{NESTING_LIMIT}
use Rattle.heap_objects.specs.declared.value.Value.{Value, roll-Value}
use Rattle.heap_objects.specs.declared.value.Value.TheOpen as v
use Rattle.interp_machine.specs.Symbols.{args_symbol, class_symbol, known_texts, text_of}
use Rattle.std.specs.declared.alloc.Global.{Global}
use Rattle.interp_machine.specs.declared.machine.Machine.{Machine}
use Rattle.interp_machine.specs.declared.machine.TheConstants.{MAX_DEPTH}
use Rattle.interp_machine.specs.declared.stop.Stop.{Stop}
use Rattle.interp_machine.specs.declared.stop.Stop.TheVariants as stop

-- ---- the machine

-- before every run
abbrev pub start : Global → Machine
start alloc = record { alloc = alloc; heap = state.start; names = known_texts; left = 0; depth = 0; out = [] }

-- how many levels may be open below what is open now
abbrev pub levels_left : Machine → ℕ
levels_left m = MAX_DEPTH - m.depth

-- ---- what an operation means

-- a result, and the machine after it
abbrev pub Outcome : Type 0 → Type 0
Outcome A = Result A Stop × Machine

abbrev pub M : Type 0 → Type 0
M A = Machine → Outcome A

abbrev pub go_on : {A B : Type 0} → Result A Stop → Machine → (A → M B) → Outcome B
go_on (Ok a) m f = f a m
go_on (Err e) m f = (Err e, m)

infixl 10 ◌>>=◌
abbrev pub ◌>>=◌ : {A B : Type 0} → M A → (A → M B) → M B
p >>= f = λ m. go_on (p m).0 (p m).1 f

infixl 10 ◌>>◌
abbrev pub ◌>>◌ : {A B : Type 0} → M A → M B → M B
p >> q = p >>= (λ _. q)

abbrev pub pure : {A : Type 0} → A → M A
pure a = λ m. (Ok a, m)

abbrev pub stop_with : {A : Type 0} → Stop → M A
stop_with e = λ m. (Err e, m)

-- ---- steps

-- so many steps; where fewer are left, all that are left, and the run ends
unfoldable pub steps : ℕ → M (Unit {0})
steps n m = if nat_le n m.left then (Ok tt, record m { left = m.left - n }) else (Err stop.Steps, record m { left = 0 })

-- ---- locations

abbrev pub with_heap : State → Machine → Machine
with_heap s m = record m { heap = s }

-- the kind and the fixed part of an object, without an event
unfoldable pub fixed : ObjRef → M (Option Object)
fixed o m = (Ok (object_at m.heap o), m)

-- what a name, an attribute or an item holds, which is used
unfoldable pub load : Loc → M (Option Value)
load l m = (Ok (state.value_at m.heap l), with_heap (state.logged (event.Use l) m.heap) m)

-- whether a key is present in a dictionary
unfoldable pub present : ObjRef → Key → M Bool
present d k m = (Ok (state.present_at m.heap d k), with_heap (state.logged (event.Use (loc.Present d k)) m.heap) m)

-- the length of a list, or the number of keys of a dictionary
unfoldable pub shape : ReadHow → ObjRef → M ℕ
shape how o m = (Ok (state.count_at m.heap o), with_heap (state.logged (read_event how (loc.Shape o)) m.heap) m)

abbrev pub key_in : Machine → ObjRef → ℕ → Option Value
key_in m d i = slice_get (state.keys_at m.heap d) i

-- the key of a dictionary at a place, as it was first written, without an event
unfoldable pub key_at : ObjRef → ℕ → M (Option Value)
key_at d i m = (Ok (key_in m d i), m)

-- the key of a value that is there
abbrev pub key_if : Option Value → Option Key
key_if None = None
key_if (Some x) = key_of x

-- a name or an attribute holds the value, or nothing
unfoldable pub store : Loc → Option Value → M (Unit {0})
store l v m = (Ok tt, with_heap (calls.stored l v m.heap) m)

-- an item of a list that is there holds the value
unfoldable pub list_put : ObjRef → ℕ → Value → M (Unit {0})
list_put o i v m = (Ok tt, with_heap (calls.list_put o i v m.heap) m)

-- a list has these items in the place of all from one on
unfoldable pub list_splice : ObjRef → ℕ → List Value → M (Unit {0})
list_splice o i tail m = (Ok tt, with_heap (calls.spliced o i tail m.heap) m)

-- a dictionary has the value at the key of a value that has one
unfoldable pub dict_put : ObjRef → Value → Value → M (Unit {0})
dict_put d k v m = (Ok tt, with_heap (calls.put_at d (key_of k) k v m.heap) m)

-- a dictionary lacks the key
unfoldable pub dict_remove : ObjRef → Key → M (Unit {0})
dict_remove d k m = (Ok tt, with_heap (calls.dict_remove d k m.heap) m)

-- ---- new objects

unfoldable pub new_list : List Value → M ObjRef
new_list items m = (Ok (next_object m.heap), with_heap (calls.new_list items m.heap) m)

unfoldable pub new_dict : List Value → List Value → M ObjRef
new_dict keys values m = (Ok (next_object m.heap), with_heap (calls.new_dict keys values m.heap) m)

unfoldable pub new_instance : Value → M ObjRef
new_instance class m = (Ok (next_object m.heap), with_heap (calls.new_instance class m.heap) m)

-- ---- errors

abbrev pub text_value : List ℕ → Value
text_value t = roll-Value (v.Text t)

abbrev pub object_value : ObjRef → Value
object_value o = roll-Value (v.Obj o)

abbrev pub builtin_value : Sym → Value
builtin_value s = roll-Value (v.Builtin s)

-- the instance that this makes is raised
abbrev pub raise : {A : Type 0} → M ObjRef → M A
raise made = made >>= λ o. stop_with (stop.Raised (object_value o))

-- the attribute `args` of an instance holds the tuple of one value
abbrev pub give_args : ObjRef → Value → M ObjRef
give_args o x = store (loc.Attr o args_symbol) (Some (tuple_of (x ∷ []))) >> pure o

abbrev pub new_error : ExcClass → M ObjRef
new_error c = new_instance (builtin_value (class_symbol c))

abbrev pub fault_text : FaultKind → List ℕ → Value
fault_text kind name = text_value (text_before kind ++ name ++ text_after kind)

-- an error that the language raises by itself, with the name that stands in its text
unfoldable pub error_of : FaultKind → List ℕ → M ObjRef
error_of kind name = new_error (class_of kind) >>= λ o. give_args o (fault_text kind name)

-- a tuple of these parts would nest over the limit
abbrev pub nests_over : List Value → Bool
nests_over parts = nat_le NESTING_LIMIT (largest (map kept_nesting parts))

-- An error of a class with this argument. Where the tuple of it would nest over the limit, the instance is made, and the error is that
-- of the nesting in its place.
unfoldable pub error_with : ExcClass → Value → M ObjRef
error_with c x = new_error c >>= λ o. if nests_over (x ∷ []) then error_of Depth [] else give_args o x

abbrev pub fault : {A : Type 0} → FaultKind → M A
fault kind = raise (error_of kind [])

-- with the text of a symbol in its text
abbrev pub fault_named : {A : Type 0} → FaultKind → Sym → M A
fault_named kind s m = raise (error_of kind (text_of m.names s)) m

-- ---- what a function ensures

-- the outcome, unless memory is wanting
abbrev pub Runs : {A : Type 0} → Outcome A → Result A Stop → Machine → Type 0
Runs outcome (Ok a) new = outcome ≡ (Ok a, new)
Runs outcome (Err e) new = e ≢ stop.NoMemory → outcome ≡ (Err e, new)
