-- The texts of values. Each is put behind a text that is there.
use Rattle.std.specs.Prelude.{◌==◌, ◌||◌, ◌++◌, ℕ, zero, suc, ℤ, pos, Bool, true, false, List, [], ◌∷◌, length, codes, Option, Some, None, Ok, if◌then◌else◌}
use Rattle.std.specs.Fmt.{signed_decimal}
use Rattle.std.specs.List.{list_any}
use Rattle.std.specs.Ordering.{int_eq}
use Rattle.exceptions_core.specs.declared.class.ExcClass.{ExcClass}
use Rattle.exceptions_core.specs.declared.class.ExcClass.TheVariants.{KeyError}
use Rattle.exceptions_core.specs.declared.error.FaultKind.TheVariants as error
use Rattle.flow_base.specs.declared.event.ReadHow.TheVariants.{Use}
use Rattle.flow_base.specs.declared.key.Key.{Key}
use Rattle.flow_base.specs.declared.loc.Loc.TheVariants as loc
use Rattle.flow_base.specs.declared.numbers.ObjRef.{ObjRef}
use Rattle.flow_base.specs.declared.numbers.Sym.{Sym}
use Rattle.heap_objects.specs.State.{State, object_at}
use Rattle.heap_objects.specs.declared.object.Object.{Object}
use Rattle.heap_objects.specs.declared.object.Object.TheVariants as object
use Rattle.heap_objects.specs.declared.value.Value.{Value, out-Value}
use Rattle.heap_objects.specs.declared.value.Value.TheOpen as v
use Rattle.heap_objects.specs.declared.value.Value.TheOpen.{Value-F}
use Rattle.interp_machine.specs.Classes.{exception_of}
use Rattle.interp_machine.specs.Kinds.{kind}
use Rattle.interp_machine.specs.Meaning.{M, ◌>>=◌, ◌>>◌, pure, stop_with, fault, key_at, key_if, levels_left, load, shape, steps}
use Rattle.interp_machine.specs.Symbols.{args_symbol, class_of_symbol, is_among, value_classes, text_of}
use Rattle.interp_machine.specs.Walks.{next}
use Rattle.interp_machine.specs.declared.kinds.Kind.{Kind}
use Rattle.interp_machine.specs.declared.kinds.Kind.TheVariants as k
use Rattle.interp_machine.specs.declared.stop.Stop.TheVariants as stop
use Rattle.interp_machine.specs.declared.walks.Walker.{Walker}
use Rattle.interp_machine.specs.declared.walks.Walker.TheVariants.{Items, Parts}
use Rattle.interp_texts.specs.declared.forms.Form.{Form}
use Rattle.interp_texts.specs.declared.forms.Form.TheVariants.{Plain, List as AList, Dict, Tuple, Error}
use Rattle.py_scalars.specs.TextForm.{repr_of}

-- ---- texts of what is not visited

abbrev pub name_text : List (List ℕ) → Option Sym → List ℕ
name_text names None = []
name_text names (Some s) = text_of names s

abbrev pub class_text : List ℕ → List ℕ
class_text name = codes "<class '" ++ name ++ codes "'>"

abbrev pub function_text : List ℕ → List ℕ
function_text name = codes "<function " ++ name ++ codes ">"

abbrev pub method_text : List ℕ → List ℕ
method_text name = codes "<method " ++ name ++ codes ">"

abbrev pub instance_text : List ℕ → List ℕ
instance_text class = codes "<" ++ class ++ codes " object>"

-- whether a built-in is a class of values or of exceptions, and no function
abbrev pub is_builtin_class : Sym → Bool
is_builtin_class f = is_among value_classes f || has_class (class_of_symbol f)
  where
    has_class : Option ExcClass → Bool
    has_class None = false
    has_class (Some c) = true

abbrev pub builtin_text : List (List ℕ) → Sym → List ℕ
builtin_text names f = if is_builtin_class f then class_text (text_of names f) else codes "<built-in " ++ text_of names f ++ codes ">"

-- the step stands there where it is not 1
abbrev pub step_text : ℤ → List ℕ
step_text c = if int_eq c (pos 1) then [] else codes ", " ++ signed_decimal c

abbrev pub range_text : ℤ → ℤ → ℤ → List ℕ
range_text a b c = codes "range(" ++ signed_decimal a ++ codes ", " ++ signed_decimal b ++ step_text c ++ codes ")"

abbrev pub name_in : Option Object → Option Sym
name_in (Some (object.Class name base)) = Some name
name_in (Some (object.Function name code defaults parent)) = Some name
name_in _ = None

-- the name of a class
abbrev pub class_name_at : (ObjRef → Option Object) → Value-F Value → Option Sym
class_name_at at (v.Builtin f) = Some f
class_name_at at (v.Obj c) = name_in (at c)
class_name_at at _ = None

abbrev pub class_name : State → Value → Option Sym
class_name s x = class_name_at (object_at s) (out-Value x)

-- ---- what is visited

abbrev pub is_inside : List ObjRef → ObjRef → Bool
is_inside inside o = list_any (λ p. p.0 == o.0) inside

-- an exception is visited, and another instance is not
abbrev pub instance_form : List ℕ → Bool → ObjRef → Option ExcClass → Form
instance_form name inside o None = Plain (instance_text name)
instance_form name true o (Some c) = Plain (instance_text name)
instance_form name false o (Some c) = Error o name

abbrev pub object_form : List (List ℕ) → State → Bool → ObjRef → Option Object → Form
object_form names s true o (Some object.List) = Plain (codes "[...]")
object_form names s false o (Some object.List) = AList o
object_form names s true o (Some object.Dict) = Plain (codes "{...}")
object_form names s false o (Some object.Dict) = Dict o
object_form names s inside o (Some (object.Instance class)) = instance_form (name_text names (class_name s class)) inside o (exception_of s class)
object_form names s inside o (Some (object.Class name base)) = Plain (class_text (text_of names name))
object_form names s inside o (Some (object.Function name code defaults parent)) = Plain (function_text (text_of names name))
object_form names s inside o _ = Plain []

abbrev pub form_at : List (List ℕ) → State → List ObjRef → Value-F Value → Form
form_at names s inside v.Nil = Plain (codes "None")
form_at names s inside (v.Truth true) = Plain (codes "True")
form_at names s inside (v.Truth false) = Plain (codes "False")
form_at names s inside (v.Int n) = Plain (signed_decimal n)
form_at names s inside (v.Text t) = Plain (repr_of t)
form_at names s inside (v.Tuple xs kept) = Tuple xs
form_at names s inside (v.Range a b c) = Plain (range_text a b c)
form_at names s inside (v.Builtin f) = Plain (builtin_text names f)
form_at names s inside (v.Obj o) = object_form names s (is_inside inside o) o (object_at s o)
form_at names s inside (v.Bound f o) = Plain (method_text (name_text names (name_in (object_at s f))))
form_at names s inside (v.Method f x) = Plain (method_text (text_of names f))

-- how a value is shown inside these objects, without an event
unfoldable pub form : List ObjRef → Value → M Form
form inside x m = (Ok (form_at m.names m.heap inside (out-Value x)), m)

-- ---- arguments of exceptions

abbrev pub tuple_parts : Option Value → List Value
tuple_parts None = []
tuple_parts (Some x) = parts_at (out-Value x)
  where
    parts_at : Value-F Value → List Value
    parts_at (v.Tuple xs kept) = xs
    parts_at _ = []

-- the parts of what `args` holds, where that is a tuple
unfoldable pub args_of : ObjRef → M (List Value)
args_of o = load (loc.Attr o args_symbol) >>= λ x. pure (tuple_parts x)

-- ---- Show

-- what is shown inside these objects, behind this text
abbrev pub Shower : Type 0
Shower = List ObjRef → List ℕ → Value → M (List ℕ)

-- a text that is not visited takes a step for each of its code points
abbrev pub plain : List ℕ → List ℕ → M (List ℕ)
plain d t = steps (length t) >> pure (d ++ t)

-- a word behind a text
abbrev pub ends_with : List ℕ → List ℕ → M (List ℕ)
ends_with word d = pure (d ++ word)

-- between parts
abbrev pub comma : Bool → List ℕ
comma false = []
comma true = codes ", "

module _ (below : Shower) (inside : List ObjRef) where
  -- a part, with a comma and a space before it where it follows another one
  abbrev pub show_next : Bool → List ℕ → Value → M (List ℕ)
  show_next follows d x = below inside (d ++ comma follows) x

  abbrev pub show_part : (Walker → Bool → List ℕ → M (List ℕ)) → Bool → List ℕ → Option Value × Walker → M (List ℕ)
  show_part more follows d (None, w) = pure d
  show_part more follows d (Some x, w) = show_next follows d x >>= more w true

  -- the parts of a walk, in at most so many turns
  unfoldable pub show_parts : ℕ → Walker → Bool → List ℕ → M (List ℕ)
  show_parts zero w follows d = stop_with stop.Steps
  show_parts (suc n) w follows d = next w >>= show_part (show_parts n) follows d

  -- each part costs a step, so that one turn more than the steps that are left is enough
  unfoldable pub show_walk : Walker → List ℕ → M (List ℕ)
  show_walk w d m = show_parts (suc m.left) w false d m

  -- the item is used, and takes its step; then the key stands before the value
  abbrev pub show_pair : List ℕ → Value → Option Value → M (List ℕ)
  show_pair d key None = pure d
  show_pair d key (Some x) = steps 1 >> (below inside d key >>= λ e. below inside (e ++ codes ": ") x)

  abbrev pub show_item : ObjRef → List ℕ → Value → Option Key → M (List ℕ)
  show_item o d key None = pure d
  show_item o d key (Some k) = load (loc.Item o k) >>= show_pair d key

  abbrev pub show_entry : ObjRef → List ℕ → Option Value → M (List ℕ)
  show_entry o d None = pure d
  show_entry o d (Some key) = show_item o d key (key_if (Some key))

  -- so many entries of a dictionary from a place on
  unfoldable pub show_entries : ObjRef → ℕ → ℕ → Bool → List ℕ → M (List ℕ)
  show_entries o i zero follows d = pure d
  show_entries o i (suc n) follows d = key_at o i >>= show_entry o (d ++ comma follows) >>= show_entries o (suc i) n true

-- a tuple of one has a comma behind it
abbrev pub tuple_end : List Value → List ℕ
tuple_end (x ∷ []) = codes ",)"
tuple_end xs = codes ")"

abbrev pub Arguments : Type 0
Arguments = List ObjRef → List ℕ → List Value → M (List ℕ)

module _ (below : Shower) (arguments : Arguments) (inside : List ObjRef) (d : List ℕ) where
  abbrev pub show_form : Form → M (List ℕ)
  show_form (Plain t) = plain d t
  show_form (AList o) = show_walk below (o ∷ inside) (Items o 0) (d ++ codes "[") >>= ends_with (codes "]")
  show_form (Tuple xs) = show_walk below inside (Parts xs 0) (d ++ codes "(") >>= ends_with (tuple_end xs)
  show_form (Dict o) = shape Use o >>= λ n. show_entries below (o ∷ inside) o 0 n false (d ++ codes "{") >>= ends_with (codes "}")
  show_form (Error o name) = args_of o >>= λ xs. arguments (o ∷ inside) (d ++ name ++ codes "(") xs >>= ends_with (codes ")")

  unfoldable pub show_with : Value → M (List ℕ)
  show_with x = form inside x >>= show_form

-- where so many levels may be open, this one counted; the arguments of an exception are one level, and their parts the one below it
unfoldable mutual
  pub show_to : ℕ → Shower
  show_to zero inside d x = fault error.Depth
  show_to (suc n) inside d x = show_with (show_to n) (arguments_to n) inside d x

  pub arguments_to : ℕ → Arguments
  arguments_to zero inside d xs = fault error.Depth
  arguments_to (suc n) inside d xs = show_walk (show_to n) inside (Parts xs 0) d

-- `repr(x)`
unfoldable pub show : Value → M (List ℕ)
show x m = show_to (suc (levels_left m)) [] [] x m

-- ---- Str

abbrev pub is_key_error : ExcClass → Bool
is_key_error KeyError = true
is_key_error _ = false

-- the exception class that a class is or is below, without an event
unfoldable pub exception : Value → M (Option ExcClass)
exception class m = (Ok (exception_of m.heap class), m)

-- what is put behind a text
abbrev pub Teller : Type 0
Teller = List ℕ → Value → M (List ℕ)

-- the tuple of the arguments of an exception, where so many levels may be open, this one counted
abbrev pub tuple_to : ℕ → List ℕ → List Value → M (List ℕ)
tuple_to n d xs = arguments_to n [] (d ++ codes "(") xs >>= ends_with (tuple_end xs)

-- no arguments give no text, one gives its own, which is shown for a KeyError, and several that of their tuple
module _ (below : ℕ) (told : Teller) (d : List ℕ) where
  abbrev pub str_one : Bool → Value → M (List ℕ)
  str_one true x = show_to below [] d x
  str_one false x = told d x

  abbrev pub str_arguments : Bool → List Value → M (List ℕ)
  str_arguments keyed [] = pure d
  str_arguments keyed (x ∷ []) = str_one keyed x
  str_arguments keyed xs = tuple_to below d xs

-- where `n` levels may be open, this one counted, and `below` ones below it, at which `told` tells the only argument
module _ (n below : ℕ) (told : Teller) (d : List ℕ) where
  abbrev pub str_instance : Value → ObjRef → Option ExcClass → M (List ℕ)
  str_instance x o None = show_to n [] d x
  str_instance x o (Some c) = args_of o >>= str_arguments below told d (is_key_error c)

  abbrev pub str_of : Value → Kind → M (List ℕ)
  str_of x (k.Text t) = plain d t
  str_of x (k.Instance o class) = exception class >>= str_instance x o
  str_of x _ = show_to n [] d x

  unfoldable pub str_with : Value → M (List ℕ)
  str_with x = kind x >>= str_of x

-- where so many levels may be open, this one counted; the argument of an exception, or the tuple of its arguments, is the one below it
unfoldable pub str_to : ℕ → Teller
str_to zero d x = fault error.Depth
str_to (suc n) d x = str_with (suc n) n (str_to n) d x

-- `str(x)`
unfoldable pub to_str : Value → M (List ℕ)
to_str x m = str_to (suc (levels_left m)) [] x m
