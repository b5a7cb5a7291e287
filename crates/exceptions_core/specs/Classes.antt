-- The built-in exception classes: their names, and which is under which.
use Rattle.std.specs.Prelude.{◌≡◌, ℕ, List, [], ◌∷◌, Option, Some, None, bytes_eq, codes, if◌then◌else◌}
use Rattle.exceptions_core.specs.declared.class.ExcClass.{ExcClass}
use Rattle.exceptions_core.specs.declared.class.ExcClass.TheVariants.{Exception, ArithmeticError, ZeroDivisionError, LookupError, IndexError, KeyError, NameError, UnboundLocalError, RuntimeError, RecursionError, AttributeError, TypeError, ValueError, AssertionError}

abbrev pub class_name : ExcClass → List ℕ
class_name Exception = codes "Exception"
class_name ArithmeticError = codes "ArithmeticError"
class_name ZeroDivisionError = codes "ZeroDivisionError"
class_name LookupError = codes "LookupError"
class_name IndexError = codes "IndexError"
class_name KeyError = codes "KeyError"
class_name NameError = codes "NameError"
class_name UnboundLocalError = codes "UnboundLocalError"
class_name RuntimeError = codes "RuntimeError"
class_name RecursionError = codes "RecursionError"
class_name AttributeError = codes "AttributeError"
class_name TypeError = codes "TypeError"
class_name ValueError = codes "ValueError"
class_name AssertionError = codes "AssertionError"

-- the class that a class is directly under
abbrev pub parent : ExcClass → Option ExcClass
parent Exception = None
parent ArithmeticError = Some Exception
parent ZeroDivisionError = Some ArithmeticError
parent LookupError = Some Exception
parent IndexError = Some LookupError
parent KeyError = Some LookupError
parent NameError = Some Exception
parent UnboundLocalError = Some NameError
parent RuntimeError = Some Exception
parent RecursionError = Some RuntimeError
parent AttributeError = Some Exception
parent TypeError = Some Exception
parent ValueError = Some Exception
parent AssertionError = Some Exception

-- a class is the other one or under it
pub data IsUnder : ExcClass → ExcClass → Type 0 where
  itself : {c : ExcClass} → IsUnder c c
  below : {c p of : ExcClass} → parent c ≡ Some p → IsUnder p of → IsUnder c of

-- the first of the classes that has the name
abbrev pub first_named : List ℕ → List ExcClass → Option ExcClass
first_named name [] = None
first_named name (c ∷ cs) = if bytes_eq name (class_name c) then Some c else first_named name cs
