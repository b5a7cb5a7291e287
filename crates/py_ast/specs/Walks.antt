-- What the walks over the nodes of a cell answer.
use Rattle.std.specs.Prelude.{◌==◌, ℕ, ◌+◌, List, [], ◌∷◌, Option, Some, None, if◌then◌else◌}
use Rattle.py_ast.specs.Nodes.{Node, number_of}

-- the number of the last of the nodes, where they are numbered on from a last number
abbrev pub counted : ℕ → List Node → Option ℕ
counted last [] = Some last
counted last (n ∷ ns) = if number_of n == last + 1 then counted (number_of n) ns else None

abbrev pub counted_on : Option ℕ → List Node → Option ℕ
counted_on None ns = None
counted_on (Some last) ns = counted last ns

-- the first that is there
abbrev pub or_else : {T : Type 0} → Option T → Option T → Option T
or_else (Some x) other = Some x
or_else None other = other

-- the first of the nodes that holds the number
abbrev pub with_number : ℕ → List Node → Option Node
with_number i [] = None
with_number i (n ∷ ns) = if number_of n == i then Some n else with_number i ns
