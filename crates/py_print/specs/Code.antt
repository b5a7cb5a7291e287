-- What is printed of the code of a function: of a `def` its lines, of a lambda its pieces.
use Rattle.std.specs.Prelude.{ℕ, List, [], Bool, true, false, Option, Some, None, IsTrue}
use Rattle.py_ast.specs.Nodes.{Node, an_expr, a_stmt, a_handler}
use Rattle.py_ast.specs.Tree as t
use Rattle.py_ast.specs.Tree.{Tree}
use Rattle.py_ast.specs.View.{view}
use Rattle.py_ast.specs.Statement as s
use Rattle.py_ast.specs.Statement.{Statement, view_stmt}
use Rattle.py_print.specs.Expressions as expressions
use Rattle.py_print.specs.Pieces.{text_of}
use Rattle.py_print.specs.Printed.{statement, lines_text}

abbrev pub is_def : Statement → Bool
is_def (s.define name names defaults body) = true
is_def _ = false

abbrev pub is_lambda : Tree → Bool
is_lambda (t.lambda names defaults a) = true
is_lambda _ = false

-- the node is there, and is a `def` or a lambda
abbrev pub IsCode : Option Node → Type 0
IsCode (Some (a_stmt x)) = IsTrue (is_def (view_stmt x))
IsCode (Some (an_expr x)) = IsTrue (is_lambda (view x))
IsCode (Some (a_handler x)) = ⊥
IsCode None = ⊥

-- what is printed of a statement or an expression that stands alone
abbrev pub code_of : Option Node → List ℕ
code_of (Some (a_stmt x)) = lines_text (statement 0 (view_stmt x))
code_of (Some (an_expr x)) = text_of (expressions.printed (view x))
code_of (Some (a_handler x)) = []
code_of None = []
