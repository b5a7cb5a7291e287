-- What values are, as the operations tell them apart.
use Rattle.std.specs.Prelude.{true, false, pos, Option, Some, Ok}
use Rattle.flow_base.specs.declared.numbers.ObjRef.{ObjRef}
use Rattle.heap_objects.specs.State.{State, object_at}
use Rattle.heap_objects.specs.declared.object.Object.{Object}
use Rattle.heap_objects.specs.declared.object.Object.TheVariants as object
use Rattle.heap_objects.specs.declared.value.Value.{Value, out-Value}
use Rattle.heap_objects.specs.declared.value.Value.TheOpen as v
use Rattle.heap_objects.specs.declared.value.Value.TheOpen.{Value-F}
use Rattle.interp_machine.specs.Meaning.{M}
use Rattle.interp_machine.specs.declared.kinds.Kind.{Kind}
use Rattle.interp_machine.specs.declared.kinds.Kind.TheVariants.{Nil, Number, Text, Tuple, Range, List as AList, Dict, Instance, Class, Other}
use Rattle.interp_machine.specs.declared.kinds.Pair.{Pair}
use Rattle.interp_machine.specs.declared.kinds.Pair.TheVariants.{Numbers, Texts, Tuples, Lists, Dicts, Others}

abbrev pub object_kind : ObjRef → Option Object → Kind
object_kind o (Some object.List) = AList o
object_kind o (Some object.Dict) = Dict o
object_kind o (Some (object.Instance class)) = Instance o class
object_kind o (Some (object.Class name base)) = Class o
object_kind o _ = Other

abbrev pub kind_at : (ObjRef → Option Object) → Value-F Value → Kind
kind_at at v.Nil = Nil
kind_at at (v.Truth true) = Number (pos 1)
kind_at at (v.Truth false) = Number (pos 0)
kind_at at (v.Int n) = Number n
kind_at at (v.Text t) = Text t
kind_at at (v.Tuple parts kept) = Tuple parts
kind_at at (v.Range start stop step) = Range start stop step
kind_at at (v.Obj o) = object_kind o (at o)
kind_at at _ = Other

abbrev pub kind_of : State → Value → Kind
kind_of s x = kind_at (object_at s) (out-Value x)

-- what a value is, without an event
unfoldable pub kind : Value → M Kind
kind x m = (Ok (kind_of m.heap x), m)

-- what two values are together
abbrev pub pair_of : Kind → Kind → Pair
pair_of (Number x) (Number y) = Numbers x y
pair_of (Text s) (Text t) = Texts s t
pair_of (Tuple xs) (Tuple ys) = Tuples xs ys
pair_of (AList o) (AList p) = Lists o p
pair_of (Dict d) (Dict e) = Dicts d e
pair_of _ _ = Others

unfoldable pub pair : Value → Value → M Pair
pair a b m = (Ok (pair_of (kind_of m.heap a) (kind_of m.heap b)), m)
