-- The classes above a class.
use Rattle.std.specs.Prelude.{ℕ, zero, suc, length, Option, Some, None}
use Rattle.exceptions_core.specs.declared.class.ExcClass.{ExcClass}
use Rattle.heap_objects.specs.State.{State, object_at}
use Rattle.heap_objects.specs.declared.object.Object.{Object}
use Rattle.heap_objects.specs.declared.object.Object.TheVariants as object
use Rattle.heap_objects.specs.declared.value.Value.{Value, out-Value}
use Rattle.heap_objects.specs.declared.value.Value.TheOpen as v
use Rattle.heap_objects.specs.declared.value.Value.TheOpen.{Value-F}
use Rattle.interp_machine.specs.Symbols.{class_of_symbol}

-- the base of a class object, if it has one
abbrev pub base_in : Option Object → Option Value
base_in (Some (object.Class name base)) = base
base_in _ = None

abbrev pub exception_at : (Option Value → Option ExcClass) → State → Value-F Value → Option ExcClass
exception_at above s (v.Builtin f) = class_of_symbol f
exception_at above s (v.Obj o) = above (base_in (object_at s o))
exception_at above s _ = None

abbrev pub exception_in : (Option Value → Option ExcClass) → State → Option Value → Option ExcClass
exception_in above s None = None
exception_in above s (Some x) = exception_at above s (out-Value x)

-- the exception class that a class is, or the first one above it, among at most so many classes
abbrev pub exception_above : State → ℕ → Option Value → Option ExcClass
exception_above s zero x = None
exception_above s (suc n) x = exception_in (exception_above s n) s x

-- the built-in exception class that a class is or is below, if it is Exception or below it; the bases of a class were made before it, so that
-- there are fewer of them than objects
abbrev pub exception_of : State → Value → Option ExcClass
exception_of s class = exception_at (exception_above s (length s.nodes)) s (out-Value class)
