-- Short texts, and the cells as which they are accepted.
use Rattle.std.specs.Prelude.{ℕ, pos, List, codes}
use Rattle.py_ast.specs.Statement.{Block, assign, empty, then}
use Rattle.py_ast.specs.Tree.{Tree, name, number, none, more}

-- the cell of one statement, which gives this value to a name
abbrev pub one_assigned : List ℕ → Tree → Block
one_assigned x value = then (assign (more (name x) none) value) empty

-- x = 1
abbrev pub x_is_1 : Block
x_is_1 = one_assigned (codes "x") (number (pos 1))

-- y = x
abbrev pub y_is_x : Block
y_is_x = one_assigned (codes "y") (name (codes "x"))

-- z = y
abbrev pub z_is_y : Block
z_is_y = one_assigned (codes "z") (name (codes "y"))
