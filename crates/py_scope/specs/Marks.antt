-- What a body binds and declares, in the order of its text. A body is the statements of a cell, of a `def` or of a `class`; what stands
-- in a body inside it is not its own.
use Rattle.std.specs.Prelude.{ℕ, List, [], ◌∷◌, ◌++◌, Option, Some, None}
use Rattle.std.specs.List.{flat_map}
use Rattle.py_ast.specs.declared.expr.Expr.{Expr}
use Rattle.py_ast.specs.declared.expr.Expr.TheOpen as e
use Rattle.py_ast.specs.declared.expr.Expr.TheOpen.{Expr-F}
use Rattle.py_ast.specs.declared.expr.Expr.TheFolds.{fold-Expr}
use Rattle.py_ast.specs.declared.stmt.Stmt.{Stmt}
use Rattle.py_ast.specs.declared.stmt.Branch.{Branch}
use Rattle.py_ast.specs.declared.stmt.Handler.{Handler}
use Rattle.py_ast.specs.declared.stmt.Stmt.TheOpen as s
use Rattle.py_ast.specs.declared.stmt.Stmt.TheOpen.{Stmt-F, Branch-F, Handler-F}
use Rattle.py_ast.specs.declared.stmt.Stmt.TheFolds.{fold-Stmt, fold-Branch, fold-Handler}
use Rattle.py_scope.specs.declared.mark.Mark.{Mark}
use Rattle.py_scope.specs.declared.mark.Mark.TheVariants.{Binds, Declares}
use Rattle.py_scope.specs.declared.mark.Way.TheVariants.{Global, Nonlocal}

abbrev pub in_order : List (List Mark) → List Mark
in_order ms = flat_map (λ (m : List Mark). m) ms

-- ---- targets: a name is bound, and so are the targets of a tuple; an attribute or an item binds no name

abbrev pub target_step : Expr-F (List Mark) → List Mark
target_step (e.Name i name) = Binds name ∷ []
target_step (e.Tuple i parts) = in_order parts
target_step _ = []

abbrev pub marks_of_target : Expr → List Mark
marks_of_target = fold-Expr (List Mark) target_step

abbrev pub marks_of_targets : List Expr → List Mark
marks_of_targets xs = flat_map marks_of_target xs

-- ---- statements

abbrev pub marks_of_as : Option (List ℕ) → List Mark
marks_of_as None = []
marks_of_as (Some name) = Binds name ∷ []

-- the parts of a statement that are in the same body come with their marks
abbrev pub stmt_step : Stmt-F (List Mark) (List Mark) (List Mark) → List Mark
stmt_step (s.Expr i x) = []
stmt_step (s.Assign i targets x) = marks_of_targets targets
stmt_step (s.Augment i target o x) = marks_of_target target
stmt_step (s.Pass i) = []
stmt_step (s.Break i) = []
stmt_step (s.Continue i) = []
stmt_step (s.Return i x) = []
stmt_step (s.Raise i x) = []
stmt_step (s.Global i names) = Declares i Global names ∷ []
stmt_step (s.Nonlocal i names) = Declares i Nonlocal names ∷ []
stmt_step (s.Del i target) = marks_of_target target
stmt_step (s.Assert i test x) = []
stmt_step (s.If i branches otherwise) = in_order branches ++ in_order otherwise
stmt_step (s.While i test body otherwise) = in_order body ++ in_order otherwise
stmt_step (s.For i target x body otherwise) = marks_of_target target ++ (in_order body ++ in_order otherwise)
stmt_step (s.Try i body handlers otherwise finally) = in_order body ++ (in_order handlers ++ (in_order otherwise ++ in_order finally))
stmt_step (s.Def i name params defaults body) = Binds name ∷ []
stmt_step (s.Class i name base body) = Binds name ∷ []

abbrev pub branch_step : Branch-F (List Mark) (List Mark) (List Mark) → List Mark
branch_step b = in_order b.body

abbrev pub handler_step : Handler-F (List Mark) (List Mark) (List Mark) → List Mark
handler_step h = marks_of_as h.name ++ in_order h.body

abbrev pub marks_of_stmt : Stmt → List Mark
marks_of_stmt = fold-Stmt (List Mark) (List Mark) (List Mark) stmt_step branch_step handler_step

abbrev pub marks_of_branch : Branch → List Mark
marks_of_branch = fold-Branch (List Mark) (List Mark) (List Mark) stmt_step branch_step handler_step

abbrev pub marks_of_handler : Handler → List Mark
marks_of_handler = fold-Handler (List Mark) (List Mark) (List Mark) stmt_step branch_step handler_step

abbrev pub marks_of_block : List Stmt → List Mark
marks_of_block xs = flat_map marks_of_stmt xs

abbrev pub marks_of_branches : List Branch → List Mark
marks_of_branches bs = flat_map marks_of_branch bs

abbrev pub marks_of_handlers : List Handler → List Mark
marks_of_handlers hs = flat_map marks_of_handler hs
