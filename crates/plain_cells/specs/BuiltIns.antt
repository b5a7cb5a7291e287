-- The names that the language itself has: built-in functions, classes of values, and exception classes.
use Rattle.std.specs.Prelude.{ℕ, List, [], ◌∷◌, ◌++◌, Bool, codes}
use Rattle.std.specs.List.{list_any}
use Rattle.std.specs.Str.{bytes_eq}

-- functions, and the classes of values that are called like them
abbrev pub functions : List (List ℕ)
functions =
    codes "abs" ∷ codes "all" ∷ codes "any" ∷ codes "bool" ∷ codes "chr" ∷ codes "delattr" ∷ codes "dict" ∷ codes "getattr"
    ∷ codes "hasattr" ∷ codes "int" ∷ codes "isinstance" ∷ codes "len" ∷ codes "list" ∷ codes "max" ∷ codes "min" ∷ codes "object"
    ∷ codes "ord" ∷ codes "print" ∷ codes "range" ∷ codes "repr" ∷ codes "setattr" ∷ codes "sorted" ∷ codes "str" ∷ codes "sum"
    ∷ codes "tuple" ∷ []

abbrev pub exceptions : List (List ℕ)
exceptions =
    codes "ArithmeticError" ∷ codes "AssertionError" ∷ codes "AttributeError" ∷ codes "Exception" ∷ codes "IndexError"
    ∷ codes "KeyError" ∷ codes "LookupError" ∷ codes "NameError" ∷ codes "RecursionError" ∷ codes "RuntimeError"
    ∷ codes "TypeError" ∷ codes "UnboundLocalError" ∷ codes "ValueError" ∷ codes "ZeroDivisionError" ∷ []

abbrev pub built_ins : List (List ℕ)
built_ins = functions ++ exceptions

unfoldable pub is_built_in : List ℕ → Bool
is_built_in name = list_any (λ t. bytes_eq t name) built_ins
