-- The texts that every table of names begins with, and their symbols, which are thus the same in every session.
use Rattle.std.specs.Prelude.{◌==◌, ℕ, Bool, List, [], ◌∷◌, ◌++◌, codes, Option, Some, None, slice_get, if◌then◌else◌}
use Rattle.std.specs.List.{list_any}
use Rattle.exceptions_core.specs.declared.class.ExcClass.{ExcClass}
use Rattle.exceptions_core.specs.declared.class.ExcClass.TheVariants.{Exception, ArithmeticError, ZeroDivisionError, LookupError, IndexError, KeyError, NameError, UnboundLocalError, RuntimeError, RecursionError, AttributeError, TypeError, ValueError, AssertionError}
use Rattle.flow_base.specs.Names.{with_name}
use Rattle.flow_base.specs.declared.numbers.Sym.{Sym}

-- functions, and the classes of values that are called like them
abbrev pub functions : List (List ℕ)
functions =
    codes "abs" ∷ codes "all" ∷ codes "any" ∷ codes "bool" ∷ codes "chr" ∷ codes "delattr" ∷ codes "dict"
    ∷ codes "getattr" ∷ codes "hasattr" ∷ codes "int" ∷ codes "isinstance" ∷ codes "len" ∷ codes "list" ∷ codes "max"
    ∷ codes "min" ∷ codes "object" ∷ codes "ord" ∷ codes "print" ∷ codes "range" ∷ codes "repr" ∷ codes "setattr"
    ∷ codes "sorted" ∷ codes "str" ∷ codes "sum" ∷ codes "tuple" ∷ []

-- the exception classes
abbrev pub exceptions : List (List ℕ)
exceptions =
    codes "Exception" ∷ codes "ArithmeticError" ∷ codes "ZeroDivisionError" ∷ codes "LookupError" ∷ codes "IndexError"
    ∷ codes "KeyError" ∷ codes "NameError" ∷ codes "UnboundLocalError" ∷ codes "RuntimeError" ∷ codes "RecursionError"
    ∷ codes "AttributeError" ∷ codes "TypeError" ∷ codes "ValueError" ∷ codes "AssertionError" ∷ []

-- the methods of lists, dictionaries, texts and tuples
abbrev pub methods : List (List ℕ)
methods =
    codes "append" ∷ codes "clear" ∷ codes "copy" ∷ codes "count" ∷ codes "endswith" ∷ codes "extend" ∷ codes "find"
    ∷ codes "get" ∷ codes "index" ∷ codes "insert" ∷ codes "items" ∷ codes "join" ∷ codes "keys" ∷ codes "pop"
    ∷ codes "remove" ∷ codes "replace" ∷ codes "reverse" ∷ codes "setdefault" ∷ codes "sort" ∷ codes "split"
    ∷ codes "startswith" ∷ codes "strip" ∷ codes "update" ∷ codes "values" ∷ []

-- the attribute of an exception that holds its arguments, the function that is called when an instance is made, and the name of a lambda
abbrev pub others : List (List ℕ)
others = codes "args" ∷ codes "__init__" ∷ codes "lambda" ∷ []

abbrev pub known_texts : List (List ℕ)
known_texts = functions ++ exceptions ++ methods ++ others

-- the table with each of these texts
abbrev pub interned : List (List ℕ) → List (List ℕ) → List (List ℕ)
interned names [] = names
interned names (t ∷ ts) = interned (with_name names t) ts

abbrev pub symbol : ℕ → Sym
symbol n = record { 0 = n }

-- ---- single symbols

abbrev pub args_symbol : Sym
args_symbol = symbol 63

-- ---- exception classes

abbrev pub class_symbol : ExcClass → Sym
class_symbol Exception = symbol 25
class_symbol ArithmeticError = symbol 26
class_symbol ZeroDivisionError = symbol 27
class_symbol LookupError = symbol 28
class_symbol IndexError = symbol 29
class_symbol KeyError = symbol 30
class_symbol NameError = symbol 31
class_symbol UnboundLocalError = symbol 32
class_symbol RuntimeError = symbol 33
class_symbol RecursionError = symbol 34
class_symbol AttributeError = symbol 35
class_symbol TypeError = symbol 36
class_symbol ValueError = symbol 37
class_symbol AssertionError = symbol 38

-- the first of the classes with a symbol
abbrev pub class_among : List ExcClass → Sym → Option ExcClass
class_among [] s = None
class_among (c ∷ cs) s = if (class_symbol c).0 == s.0 then Some c else class_among cs s

abbrev pub classes : List ExcClass
classes =
    Exception ∷ ArithmeticError ∷ ZeroDivisionError ∷ LookupError ∷ IndexError ∷ KeyError ∷ NameError ∷ UnboundLocalError ∷ RuntimeError
    ∷ RecursionError ∷ AttributeError ∷ TypeError ∷ ValueError ∷ AssertionError ∷ []

-- the exception class that a symbol is
abbrev pub class_of_symbol : Sym → Option ExcClass
class_of_symbol s = class_among classes s

abbrev pub is_among : List ℕ → Sym → Bool
is_among numbers s = list_any (λ n. n == s.0) numbers

-- ---- classes of values

-- int, str, bool, list, dict, tuple, range, object
abbrev pub value_classes : List ℕ
value_classes = 9 ∷ 22 ∷ 3 ∷ 12 ∷ 6 ∷ 24 ∷ 18 ∷ 15 ∷ []

-- ---- methods

-- of a list: append, clear, copy, count, extend, index, insert, pop, remove, reverse, sort
abbrev pub list_methods : List ℕ
list_methods = 39 ∷ 40 ∷ 41 ∷ 42 ∷ 44 ∷ 47 ∷ 48 ∷ 52 ∷ 53 ∷ 55 ∷ 57 ∷ []

-- of a dictionary: clear, copy, get, items, keys, pop, setdefault, update, values
abbrev pub dict_methods : List ℕ
dict_methods = 40 ∷ 41 ∷ 46 ∷ 49 ∷ 51 ∷ 52 ∷ 56 ∷ 61 ∷ 62 ∷ []

-- of a text: count, endswith, find, join, replace, split, startswith, strip
abbrev pub text_methods : List ℕ
text_methods = 42 ∷ 43 ∷ 45 ∷ 50 ∷ 54 ∷ 58 ∷ 59 ∷ 60 ∷ []

-- of a tuple: count, index
abbrev pub tuple_methods : List ℕ
tuple_methods = 42 ∷ 47 ∷ []

-- ---- texts of symbols

abbrev pub or_empty : Option (List ℕ) → List ℕ
or_empty None = []
or_empty (Some t) = t

-- the text of a symbol of a table; that of another is empty
abbrev pub text_of : List (List ℕ) → Sym → List ℕ
text_of names s = or_empty (slice_get names s.0)
