-- Attributes of values.
use Rattle.std.specs.Prelude.{ℕ, zero, suc, Bool, true, false, nat_le, length, Option, Some, None, if◌then◌else◌}
use Rattle.exceptions_core.specs.declared.error.FaultKind.TheVariants as error
use Rattle.flow_base.specs.declared.loc.Loc.TheVariants as loc
use Rattle.flow_base.specs.declared.numbers.ObjRef.{ObjRef}
use Rattle.flow_base.specs.declared.numbers.Sym.{Sym}
use Rattle.heap_objects.specs.Nesting.{kept_nesting}
use Rattle.heap_objects.specs.declared.object.Object.{Object}
use Rattle.heap_objects.specs.declared.object.Object.TheVariants as object
use Rattle.heap_objects.specs.declared.value.TheConstants.{NESTING_LIMIT}
use Rattle.heap_objects.specs.declared.value.Value.{Value, out-Value, roll-Value}
use Rattle.heap_objects.specs.declared.value.Value.TheOpen as v
use Rattle.heap_objects.specs.declared.value.Value.TheOpen.{Value-F}
use Rattle.interp_machine.specs.Classes.{base_in}
use Rattle.interp_machine.specs.Kinds.{kind}
use Rattle.interp_machine.specs.Meaning.{M, ◌>>=◌, pure, fault, fault_named, fixed, load}
use Rattle.interp_machine.specs.Symbols.{dict_methods, is_among, list_methods, text_methods, tuple_methods}
use Rattle.interp_machine.specs.declared.kinds.Kind.{Kind}
use Rattle.interp_machine.specs.declared.kinds.Kind.TheVariants as k

-- ---- classes and the classes above them

-- the object that a value refers to, if it refers to one
abbrev pub class_ref : Value-F Value → Option ObjRef
class_ref (v.Obj o) = Some o
class_ref _ = None

abbrev pub class_in : Option Value → Option ObjRef
class_in None = None
class_in (Some x) = class_ref (out-Value x)

-- ---- lookups

-- a function found in a class becomes a bound method of the instance
abbrev pub bound_if : ObjRef → Value → ObjRef → Option Object → Value
bound_if receiver x f (Some (object.Function name code defaults parent)) = roll-Value (v.Bound f receiver)
bound_if receiver x f _ = x

abbrev pub bound_at : ObjRef → Value → Value-F Value → M Value
bound_at receiver x (v.Obj f) = fixed f >>= λ o. pure (bound_if receiver x f o)
bound_at receiver x _ = pure x

module _ (a : Sym) where
  abbrev pub found_or : (Option Value → M (Option Value)) → ObjRef → Option Value → M (Option Value)
  found_or above c (Some x) = pure (Some x)
  found_or above c None = fixed c >>= λ o. above (base_in o)

  abbrev pub found_at : (Option Value → M (Option Value)) → Option ObjRef → M (Option Value)
  found_at above None = pure None
  found_at above (Some c) = load (loc.Attr c a) >>= found_or above c

  -- what a class or the first class above it that has the attribute holds there, each used in turn, so many at most
  abbrev pub found_above : ℕ → Option Value → M (Option Value)
  found_above zero x = pure None
  found_above (suc n) x = found_at (found_above n) (class_in x)

  -- in a class or the classes above it
  unfoldable pub find : Value → M (Option Value)
  find class m = found_above (length m.heap.nodes) (Some class) m

  abbrev pub or_missing : Option Value → M Value
  or_missing (Some x) = pure x
  or_missing None = fault_named error.Attribute a

  abbrev pub bind : ObjRef → Option Value → M Value
  bind receiver None = fault_named error.Attribute a
  bind receiver (Some x) = bound_at receiver x (out-Value x)

  abbrev pub own_or_bound : ObjRef → Value → Option Value → M Value
  own_or_bound o class (Some x) = pure x
  own_or_bound o class None = find class >>= bind o

  -- a built-in method, or an error where there is none of this name, or where it would nest over the limit
  abbrev pub method : Value → Bool → M Value
  method receiver false = fault_named error.Attribute a
  method receiver true = if nat_le NESTING_LIMIT (kept_nesting receiver) then fault error.Depth else pure (roll-Value (v.Method a receiver))

  abbrev pub lookup_of : Value → Kind → M Value
  lookup_of x (k.Instance o class) = load (loc.Attr o a) >>= own_or_bound o class
  lookup_of x (k.Class c) = find x >>= or_missing
  lookup_of x (k.List o) = method x (is_among list_methods a)
  lookup_of x (k.Dict d) = method x (is_among dict_methods a)
  lookup_of x (k.Text t) = method x (is_among text_methods a)
  lookup_of x (k.Tuple xs) = method x (is_among tuple_methods a)
  lookup_of x _ = fault_named error.Attribute a

-- `x.a`
unfoldable pub lookup : Value → Sym → M Value
lookup x a = kind x >>= lookup_of a x
