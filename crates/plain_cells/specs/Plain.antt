-- Plain cells: those all of whose statements are `NAME = E`, where E is built of numbers, of names that are not built in, and of `+`.
use Rattle.std.specs.Prelude.{ℕ, List, [], ◌∷◌, ◌++◌, Bool, true, false, not, ◌&&◌, Option, Some, None, option_map}
use Rattle.py_ast.specs.Statement.{Statement, assign, Block, empty, then as before}
use Rattle.py_ast.specs.Tree as tree
use Rattle.py_ast.specs.Tree.{Tree, Trees, none, more}
use Rattle.py_ast.specs.declared.expr.BinaryOp.TheVariants.{Add}
use Rattle.plain_cells.specs.BuiltIns.{is_built_in}

-- built of numbers, of names that are not built in, and of `+`
abbrev pub is_sum : Tree → Bool
is_sum (tree.name x) = not (is_built_in x)
is_sum (tree.number n) = true
is_sum (tree.binary a Add b) = is_sum a && is_sum b
is_sum _ = false

-- the name that a target is
abbrev pub name_of : Tree → Option (List ℕ)
name_of (tree.name x) = Some x
name_of _ = None

-- the name that is the only target
abbrev pub only_name : Trees → Option (List ℕ)
only_name none = None
only_name (more t none) = name_of t
only_name (more t (more u ts)) = None

-- the name and the expression of a statement `NAME = E`
abbrev pub assigned : Statement → Option (List ℕ × Tree)
assigned (assign targets e) = option_map (λ x. (x, e)) (only_name targets)
assigned _ = None

abbrev pub assigns_sum : Option (List ℕ × Tree) → Bool
assigns_sum None = false
assigns_sum (Some p) = is_sum p.1

-- each statement is of this form
abbrev pub is_plain : Block → Bool
is_plain empty = true
is_plain (before s b) = assigns_sum (assigned s) && is_plain b

-- ---- names

-- the names that an expression of this form uses, from the left
abbrev pub names_used : Tree → List (List ℕ)
names_used (tree.name x) = x ∷ []
names_used (tree.binary a Add b) = names_used a ++ names_used b
names_used _ = []

-- those that the expression of a statement uses
abbrev pub names_read : Option (List ℕ × Tree) → List (List ℕ)
names_read None = []
names_read (Some p) = names_used p.1

-- the one to which it gives a value
abbrev pub name_bound : Option (List ℕ × Tree) → Option (List ℕ)
name_bound assigned = option_map (λ p. p.0) assigned

abbrev pub names_assigned : Option (List ℕ × Tree) → List (List ℕ)
names_assigned None = []
names_assigned (Some p) = p.0 ∷ names_used p.1

-- the names of a block, in the order in which they stand in it
abbrev pub names_in : Block → List (List ℕ)
names_in empty = []
names_in (before s b) = names_assigned (assigned s) ++ names_in b
