-- Which states are well formed.
use Rattle.std.specs.Prelude.{◌≡◌, ◌≢◌, ◌≤◌, Bool, false, IsTrue, ℕ, ℤ, ◌+ℤ◌, ◌-ℤ◌, neg_ℤ, int_lt, pos, if◌then◌else◌, nat_lt, List, [], ◌∷◌, length, Option, Some, None, slice_get}
use Rattle.std.specs.FinMap as fin
use Rattle.std.specs.Int.{int_div_euclid}
use Rattle.std.specs.Int.RustNames.{FitsSigned}
use mir.Syntax.{w128}
use Rattle.std.specs.List.{All}
use Rattle.flow_base.specs.declared.numbers.CodeRef.{CodeRef}
use Rattle.flow_base.specs.declared.numbers.ObjRef.{ObjRef}
use Rattle.flow_base.specs.declared.numbers.Sym.{Sym}
use Rattle.heap_objects.specs.Changes.{Keeps}
use Rattle.heap_objects.specs.Entries.{has_key}
use Rattle.heap_objects.specs.Keyed.{key_of}
use Rattle.heap_objects.specs.Names.{slot_value}
use Rattle.heap_objects.specs.Nesting.{IsNested, nesting}
use Rattle.heap_objects.specs.State.{State, object_at}
use Rattle.heap_objects.specs.declared.object.Cell.{Cell}
use Rattle.heap_objects.specs.declared.object.Cell.TheVariants as cell
use Rattle.heap_objects.specs.declared.object.Node.{Node}
use Rattle.heap_objects.specs.declared.object.Object.{Object}
use Rattle.heap_objects.specs.declared.object.Object.TheVariants as object
use Rattle.heap_objects.specs.declared.tree.Entry.{Entry}
use Rattle.heap_objects.specs.declared.value.TheConstants.{NESTING_LIMIT}
use Rattle.heap_objects.specs.declared.value.Value.{Value, out-Value}
use Rattle.heap_objects.specs.declared.value.Value.TheFolds.{every-Value}
use Rattle.heap_objects.specs.declared.value.Value.TheOpen as v
use Rattle.heap_objects.specs.declared.value.Value.TheOpen.{Value-F}

-- ---- what a reference names

-- a value refers to any object but a frame
abbrev pub IsNoFrame : Option Object → Type 0
IsNoFrame None = ⊥
IsNoFrame (Some (object.Frame parent)) = ⊥
IsNoFrame (Some o) = Unit {0}

abbrev pub IsFrame : Option Object → Type 0
IsFrame (Some (object.Frame parent)) = Unit {0}
IsFrame _ = ⊥

abbrev pub IsClass : Option Object → Type 0
IsClass (Some (object.Class name base)) = Unit {0}
IsClass _ = ⊥

abbrev pub IsFunction : Option Object → Type 0
IsFunction (Some (object.Function name code defaults parent)) = Unit {0}
IsFunction _ = ⊥

abbrev pub IsInstance : Option Object → Type 0
IsInstance (Some (object.Instance class)) = Unit {0}
IsInstance _ = ⊥

-- each reference of one level of a value names an object of its kind; a bound method has a function and an instance
abbrev pub Refers_at : (ObjRef → Option Object) → Value-F Value → Type 0
Refers_at at (v.Obj o) = IsNoFrame (at o)
Refers_at at (v.Bound f o) = IsFunction (at f) × IsInstance (at o)
Refers_at at _ = Unit {0}

-- each reference in a value does
abbrev pub Refers : (ObjRef → Option Object) → Value → Type 0
Refers at = every-Value (Refers_at at)

-- each reference in a value that may be absent
abbrev pub RefersIf : (ObjRef → Option Object) → Option Value → Type 0
RefersIf at v = (x : Value) → v ≡ Some x → Refers at x

-- the objects with a smaller number
abbrev pub before : State → ℕ → ObjRef → Option Object
before s i o = if nat_lt o.0 i then object_at s o else None

-- a class object, or a built-in class
abbrev pub IsClassValue_at : (ObjRef → Option Object) → Value-F Value → Type 0
IsClassValue_at at (v.Obj o) = IsClass (at o)
IsClassValue_at at (v.Builtin name) = Unit {0}
IsClassValue_at at _ = ⊥

abbrev pub IsClassValue : (ObjRef → Option Object) → Value → Type 0
IsClassValue at x = IsClassValue_at at (out-Value x)

-- the base of a class, if it has one
abbrev pub IsBase : (ObjRef → Option Object) → Option Value → Type 0
IsBase at None = Unit {0}
IsBase at (Some base) = IsClassValue at base

-- The fixed part of the object with this number names objects with smaller numbers. The global frame alone has no parent,
-- and it is object 0.
abbrev pub IsFixed : State → ℕ → Object → Type 0
IsFixed s i (object.Frame None) = i ≡ 0
IsFixed s i (object.Frame (Some parent)) = IsFrame (before s i parent)
IsFixed s i object.List = Unit {0}
IsFixed s i object.Dict = Unit {0}
IsFixed s i (object.Instance class) = IsClassValue (before s i) class
IsFixed s i (object.Class name None) = Unit {0}
IsFixed s i (object.Class name (Some base)) = IsClassValue (before s i) base
IsFixed s i (object.Function name code defaults parent) = IsFrame (before s i parent) × All (Refers (before s i)) defaults

-- ---- what locations hold

-- the entries have keys by the values by which they were first written, and no key stands twice
abbrev pub AreKeyed : List Entry → Type 0
AreKeyed [] = Unit {0}
AreKeyed (e ∷ es) = (key_of e.spelled ≡ Some e.key) × (has_key es e.key ≡ false) × AreKeyed es

abbrev pub AreEntries : (Value → Type 0) → List Entry → Type 0
AreEntries P [] = Unit {0}
AreEntries P (e ∷ es) = P e.spelled × P e.value × AreEntries P es

-- the locations of an object are of its kind
abbrev pub Fits : Object → Cell → Type 0
Fits (object.Frame None) (cell.Global names) = Unit {0}
Fits (object.Frame (Some parent)) (cell.Frame slots) = Unit {0}
Fits object.List (cell.List items) = Unit {0}
Fits object.Dict (cell.Dict entries) = AreKeyed entries
Fits (object.Instance class) (cell.Attrs names) = Unit {0}
Fits (object.Class name base) (cell.Attrs names) = Unit {0}
Fits (object.Function name code defaults parent) cell.Nothing = Unit {0}
Fits _ _ = ⊥

-- each value that a cell holds, keys as they were written among them, is such a value
abbrev pub Holds : (Value → Type 0) → Cell → Type 0
Holds P (cell.Global names) = (n : ℕ) (x : Value) → fin.get names n ≡ Some x → P x
Holds P (cell.Frame slots) = (n : Sym) (x : Value) → slot_value slots n ≡ Some x → P x
Holds P (cell.List items) = All P items
Holds P (cell.Dict entries) = AreEntries P entries
Holds P (cell.Attrs names) = (n : ℕ) (x : Value) → fin.get names n ≡ Some x → P x
Holds P cell.Nothing = Unit {0}

-- each value of a fixed part is such a value
abbrev pub FixedHolds : (Value → Type 0) → Object → Type 0
FixedHolds P (object.Instance class) = P class
FixedHolds P (object.Class name (Some base)) = P base
FixedHolds P (object.Function name code defaults parent) = All P defaults
FixedHolds P _ = Unit {0}

-- what a state keeps by itself: each reference names an object of its kind, those of fixed parts one with a smaller number,
-- and the locations of each object are of its kind
pub record IsSound (s : State) : Type 0 where
  pub fixed : (i : ℕ) (n : Node) → slice_get s.nodes i ≡ Some n → IsFixed s i n.object
  pub fits : (i : ℕ) (n : Node) → slice_get s.nodes i ≡ Some n → Fits n.object n.cell
  pub held : (i : ℕ) (n : Node) → slice_get s.nodes i ≡ Some n → Holds (Refers (object_at s)) n.cell

-- ---- what those keep who make values and functions

-- what a session knows of its table of codes and names, as tests
pub record Rules : Type 0 where
  -- the names of built-in functions and classes, and those of built-in methods for a receiver
  pub is_builtin : Sym → Bool
  pub is_method : State → Sym → Value → Bool
  -- the name, the code and the number of defaults of a function, with the frame in which it was made
  pub is_code : State → Sym → CodeRef → ℕ → ObjRef → Bool

-- how many steps of this length, above 0, begin in a distance
abbrev pub steps_in : ℤ → ℤ → ℤ
steps_in distance step = if int_lt (pos 0) distance then int_div_euclid (distance +ℤ (step -ℤ pos 1)) step else pos 0

-- how many members a range has
abbrev pub range_count : ℤ → ℤ → ℤ → ℤ
range_count start stop step = if int_lt (pos 0) step then steps_in (stop -ℤ start) step else steps_in (start -ℤ stop) (neg_ℤ step)

-- a range has a step, and as many members as a whole number counts
abbrev pub IsRange : ℤ → ℤ → ℤ → Type 0
IsRange start stop step = (step ≢ pos 0) × FitsSigned w128 (range_count start stop step)

abbrev pub IsLawful_at : Rules → State → Value-F Value → Type 0
IsLawful_at rules s (v.Range start stop step) = IsRange start stop step
IsLawful_at rules s (v.Builtin name) = IsTrue (rules.is_builtin name)
IsLawful_at rules s (v.Method name receiver) = IsTrue (rules.is_method s name receiver)
IsLawful_at rules s _ = Unit {0}

-- no value nests over the limit, and each tuple has its nesting beside its parts
pub record IsLawful (rules : Rules) (s : State) (x : Value) : Type 0 where
  pub parts : every-Value (IsLawful_at rules s) x
  pub nested : IsNested x
  pub within : nesting x ≤ NESTING_LIMIT

abbrev pub IsLawfulFunction : Rules → State → Object → Type 0
IsLawfulFunction rules s (object.Function name code defaults parent) = IsTrue (rules.is_code s name code (length defaults) parent)
IsLawfulFunction rules s _ = Unit {0}

-- the rules let stand what they let stand, while objects are added
pub record AreSteady (rules : Rules) : Type 0 where
  pub methods : (s t : State) (name : Sym) (receiver : Value) → Keeps s t → IsTrue (rules.is_method s name receiver) → IsTrue (rules.is_method t name receiver)
  pub codes : (s t : State) (name : Sym) (code : CodeRef) (defaults : ℕ) (parent : ObjRef) → Keeps s t → IsTrue (rules.is_code s name code defaults parent)
      → IsTrue (rules.is_code t name code defaults parent)

-- a value that a call may be given
pub record IsAllowed (rules : Rules) (s : State) (x : Value) : Type 0 where
  pub refers : Refers (object_at s) x
  pub lawful : IsLawful rules s x

abbrev pub IsAllowedIf : Rules → State → Option Value → Type 0
IsAllowedIf rules s v = (x : Value) → v ≡ Some x → IsAllowed rules s x

-- in full
pub record IsWellFormed (rules : Rules) (s : State) : Type 0 where
  pub sound : IsSound s
  pub values : (i : ℕ) (n : Node) → slice_get s.nodes i ≡ Some n → Holds (IsLawful rules s) n.cell
  pub fixed_values : (i : ℕ) (n : Node) → slice_get s.nodes i ≡ Some n → FixedHolds (IsLawful rules s) n.object
  pub functions : (i : ℕ) (n : Node) → slice_get s.nodes i ≡ Some n → IsLawfulFunction rules s n.object
