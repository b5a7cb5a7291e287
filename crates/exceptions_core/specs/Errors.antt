-- The errors that the language raises by itself: their classes, and their texts before and after the name that stands in them.
use Rattle.std.specs.Prelude.{ℕ, List, [], codes}
use Rattle.exceptions_core.specs.declared.class.ExcClass.{ExcClass}
use Rattle.exceptions_core.specs.declared.class.ExcClass.TheVariants as class
use Rattle.exceptions_core.specs.declared.error.FaultKind.{FaultKind}
use Rattle.exceptions_core.specs.declared.error.FaultKind.TheVariants.{Name, Local, Attribute, Index, ZeroDiv, Depth, Changed, NoException, Kind, Count, Value}

abbrev pub text_before : FaultKind → List ℕ
text_before Name = codes "name '"
text_before Local = codes "local name '"
text_before Attribute = codes "no attribute '"
text_before Index = codes "index out of range"
text_before ZeroDiv = codes "division by zero"
text_before Depth = codes "too deep"
text_before Changed = codes "dictionary changed during iteration"
text_before NoException = codes "no exception to raise"
text_before Kind = codes "wrong kind"
text_before Count = codes "wrong number of arguments"
text_before Value = codes "wrong value"

abbrev pub text_after : FaultKind → List ℕ
text_after Name = codes "' is not defined"
text_after Local = codes "' is not bound"
text_after Attribute = codes "'"
text_after _ = []

abbrev pub class_of : FaultKind → ExcClass
class_of Name = class.NameError
class_of Local = class.UnboundLocalError
class_of Attribute = class.AttributeError
class_of Index = class.IndexError
class_of ZeroDiv = class.ZeroDivisionError
class_of Depth = class.RecursionError
class_of Changed = class.RuntimeError
class_of NoException = class.RuntimeError
class_of Kind = class.TypeError
class_of Count = class.TypeError
class_of Value = class.ValueError
