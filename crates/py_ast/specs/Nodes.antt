-- The nodes of a cell, its statements, `except` clauses and expressions, in the order in which they begin in its text, a
-- parent before its parts; and the rule by which they are numbered.
use Rattle.std.specs.Prelude.{◌≡◌, ◌<◌, ℕ, zero, suc, ◌+◌, ◌^◌, length, List, [], ◌∷◌, ◌++◌, map, slice_get, Option, Some, None}
use Rattle.py_ast.specs.declared.expr.Expr.{Expr, out-Expr}
use Rattle.py_ast.specs.declared.expr.Expr.TheOpen as e
use Rattle.py_ast.specs.declared.expr.Expr.TheOpen.{Expr-F}
use Rattle.py_ast.specs.declared.expr.Expr.TheFolds.{para-Expr}
use Rattle.py_ast.specs.declared.stmt.Stmt.{Stmt, out-Stmt}
use Rattle.py_ast.specs.declared.stmt.Branch.{Branch}
use Rattle.py_ast.specs.declared.stmt.Handler.{Handler, out-Handler}
use Rattle.py_ast.specs.declared.stmt.Stmt.TheOpen as s
use Rattle.py_ast.specs.declared.stmt.Stmt.TheOpen.{Stmt-F, Branch-F, Handler-F}
use Rattle.py_ast.specs.declared.stmt.Stmt.TheFolds.{para-Stmt, para-Branch, para-Handler}
use Rattle.py_ast.specs.declared.cell.Cell.{Cell}
use Rattle.py_ast.specs.declared.find.NodeRef.{NodeRef}
use Rattle.py_ast.specs.declared.find.NodeRef.TheVariants as r

pub data Node : Type 0 where
  an_expr : Expr → Node
  a_stmt : Stmt → Node
  a_handler : Handler → Node

abbrev pub flatten : List (List Node) → List Node
flatten [] = []
flatten (x ∷ xs) = x ++ flatten xs

-- ---- expressions

-- a part of an expression, with the nodes below it
abbrev pub Part : Type 0
Part = Expr × List Node

abbrev pub from_part : Part → List Node
from_part p = an_expr p.0 ∷ p.1

abbrev pub from_parts : List Part → List Node
from_parts ps = flatten (map from_part ps)

abbrev pub below_step : Expr-F Part → List Node
below_step (e.Name i t) = []
below_step (e.Number i n) = []
below_step (e.Text i t) = []
below_step (e.Nil i) = []
below_step (e.Truth i b) = []
below_step (e.Tuple i ps) = from_parts ps
below_step (e.List i ps) = from_parts ps
below_step (e.Dict i ps) = from_parts ps
below_step (e.Lambda i names defaults body) = from_parts defaults ++ from_part body
below_step (e.Choice i a test b) = from_part a ++ (from_part test ++ from_part b)
below_step (e.And i a b) = from_part a ++ from_part b
below_step (e.Or i a b) = from_part a ++ from_part b
below_step (e.Not i a) = from_part a
below_step (e.Compare i ops ps) = from_parts ps
below_step (e.Binary i a o b) = from_part a ++ from_part b
below_step (e.Sign i o a) = from_part a
below_step (e.Attr i a t) = from_part a
below_step (e.Item i a b) = from_part a ++ from_part b
below_step (e.Call i f ps) = from_part f ++ from_parts ps

-- the nodes below an expression, and those from it on
abbrev pub below : Expr → List Node
below = para-Expr (List Node) below_step

abbrev pub nodes : Expr → List Node
nodes x = an_expr x ∷ below x

abbrev pub nodes_of_all : List Expr → List Node
nodes_of_all xs = flatten (map nodes xs)

abbrev pub nodes_of_maybe : Option Expr → List Node
nodes_of_maybe None = []
nodes_of_maybe (Some x) = nodes x

-- ---- statements

abbrev pub from_stmts : List (Stmt × List Node) → List Node
from_stmts ps = flatten (map (λ (p : Stmt × List Node). a_stmt p.0 ∷ p.1) ps)

abbrev pub from_branches : List (Branch × List Node) → List Node
from_branches ps = flatten (map (λ (p : Branch × List Node). p.1) ps)

abbrev pub from_handlers : List (Handler × List Node) → List Node
from_handlers ps = flatten (map (λ (p : Handler × List Node). a_handler p.0 ∷ p.1) ps)

abbrev pub stmt_step : Stmt-F (Stmt × List Node) (Branch × List Node) (Handler × List Node) → List Node
stmt_step (s.Expr i x) = nodes x
stmt_step (s.Assign i targets x) = nodes_of_all targets ++ nodes x
stmt_step (s.Augment i place o x) = nodes place ++ nodes x
stmt_step (s.Pass i) = []
stmt_step (s.Break i) = []
stmt_step (s.Continue i) = []
stmt_step (s.Return i x) = nodes_of_maybe x
stmt_step (s.Raise i x) = nodes_of_maybe x
stmt_step (s.Global i names) = []
stmt_step (s.Nonlocal i names) = []
stmt_step (s.Del i target) = nodes target
stmt_step (s.Assert i test x) = nodes test ++ nodes_of_maybe x
stmt_step (s.If i branches otherwise) = from_branches branches ++ from_stmts otherwise
stmt_step (s.While i test body otherwise) = nodes test ++ (from_stmts body ++ from_stmts otherwise)
stmt_step (s.For i target x body otherwise) = nodes target ++ (nodes x ++ (from_stmts body ++ from_stmts otherwise))
stmt_step (s.Try i body handlers otherwise finally) = from_stmts body ++ (from_handlers handlers ++ (from_stmts otherwise ++ from_stmts finally))
stmt_step (s.Def i name params defaults body) = nodes_of_all defaults ++ from_stmts body
stmt_step (s.Class i name base body) = nodes_of_maybe base ++ from_stmts body

abbrev pub branch_step : Branch-F (Stmt × List Node) (Branch × List Node) (Handler × List Node) → List Node
branch_step b = nodes b.test ++ from_stmts b.body

abbrev pub handler_step : Handler-F (Stmt × List Node) (Branch × List Node) (Handler × List Node) → List Node
handler_step h = nodes_of_maybe h.class ++ from_stmts h.body

-- the nodes below a statement, of a branch, and below an `except` clause
abbrev pub below_stmt : Stmt → List Node
below_stmt = para-Stmt (List Node) (List Node) (List Node) stmt_step branch_step handler_step

abbrev pub nodes_of_branch : Branch → List Node
nodes_of_branch = para-Branch (List Node) (List Node) (List Node) stmt_step branch_step handler_step

abbrev pub below_handler : Handler → List Node
below_handler = para-Handler (List Node) (List Node) (List Node) stmt_step branch_step handler_step

abbrev pub nodes_of_stmt : Stmt → List Node
nodes_of_stmt x = a_stmt x ∷ below_stmt x

abbrev pub nodes_of_handler : Handler → List Node
nodes_of_handler h = a_handler h ∷ below_handler h

abbrev pub nodes_of_block : List Stmt → List Node
nodes_of_block xs = flatten (map nodes_of_stmt xs)

abbrev pub nodes_of_branches : List Branch → List Node
nodes_of_branches bs = flatten (map nodes_of_branch bs)

abbrev pub nodes_of_handlers : List Handler → List Node
nodes_of_handlers hs = flatten (map nodes_of_handler hs)

abbrev pub nodes_of_cell : Cell → List Node
nodes_of_cell c = nodes_of_block c.statements

-- ---- numbers

-- the number that a node holds
abbrev pub number_in : {A : Type 0} → Expr-F A → ℕ
number_in (e.Name i t) = i
number_in (e.Number i n) = i
number_in (e.Text i t) = i
number_in (e.Nil i) = i
number_in (e.Truth i b) = i
number_in (e.Tuple i ts) = i
number_in (e.List i ts) = i
number_in (e.Dict i ts) = i
number_in (e.Lambda i names defaults body) = i
number_in (e.Choice i a test b) = i
number_in (e.And i a b) = i
number_in (e.Or i a b) = i
number_in (e.Not i a) = i
number_in (e.Compare i ops ts) = i
number_in (e.Binary i a o b) = i
number_in (e.Sign i o a) = i
number_in (e.Attr i a t) = i
number_in (e.Item i a b) = i
number_in (e.Call i f ts) = i

abbrev pub stmt_number_in : {A B C : Type 0} → Stmt-F A B C → ℕ
stmt_number_in (s.Expr i x) = i
stmt_number_in (s.Assign i ts x) = i
stmt_number_in (s.Augment i p o x) = i
stmt_number_in (s.Pass i) = i
stmt_number_in (s.Break i) = i
stmt_number_in (s.Continue i) = i
stmt_number_in (s.Return i x) = i
stmt_number_in (s.Raise i x) = i
stmt_number_in (s.Global i names) = i
stmt_number_in (s.Nonlocal i names) = i
stmt_number_in (s.Del i x) = i
stmt_number_in (s.Assert i x m) = i
stmt_number_in (s.If i bs b) = i
stmt_number_in (s.While i x b c) = i
stmt_number_in (s.For i t x b c) = i
stmt_number_in (s.Try i b hs c d) = i
stmt_number_in (s.Def i name ps ds b) = i
stmt_number_in (s.Class i name base b) = i

abbrev pub number : Expr → ℕ
number x = number_in (out-Expr x)

abbrev pub stmt_number : Stmt → ℕ
stmt_number x = stmt_number_in (out-Stmt x)

abbrev pub number_of : Node → ℕ
number_of (an_expr x) = number x
number_of (a_stmt x) = stmt_number x
number_of (a_handler h) = (out-Handler h).node

abbrev pub count_from : ℕ → ℕ → List ℕ
count_from n zero = []
count_from n (suc k) = n ∷ count_from (n + 1) k

-- The nodes of the cell, fewer than 2^32, hold the numbers 1, 2, 3 and so on.
pub record IsNumbered (c : Cell) : Type 0 where
  pub in_order : map number_of (nodes_of_cell c) ≡ count_from 1 (length (nodes_of_cell c))
  pub few : length (nodes_of_cell c) < 2 ^ 32

-- the node that a reference leads to
abbrev pub seen : NodeRef → Node
seen (r.Expr x) = an_expr x.now
seen (r.Stmt x) = a_stmt x.now
seen (r.Handler x) = a_handler x.now

-- the node at a place from 1
abbrev pub node_at : List Node → ℕ → Option Node
node_at ns zero = None
node_at ns (suc k) = slice_get ns k
