-- Which bodies stand round each node of a cell, and where its first scope fault is.
use Rattle.std.specs.Prelude.{◌≡◌, ℕ, zero, suc, List, [], ◌∷◌, ◌++◌, map, slice_get, Option, Some, None, option_map, Result, Ok, Err}
use Rattle.std.specs.List.{flat_map}
use Rattle.py_ast.specs.declared.expr.Expr.{Expr, out-Expr}
use Rattle.py_ast.specs.declared.expr.Expr.TheOpen as e
use Rattle.py_ast.specs.declared.expr.Expr.TheOpen.{Expr-F}
use Rattle.py_ast.specs.declared.expr.Expr.TheFolds.{fold-Expr}
use Rattle.py_ast.specs.declared.stmt.Stmt.{Stmt, out-Stmt}
use Rattle.py_ast.specs.declared.stmt.Branch.{Branch}
use Rattle.py_ast.specs.declared.stmt.Handler.{Handler}
use Rattle.py_ast.specs.declared.stmt.Stmt.TheOpen as s
use Rattle.py_ast.specs.declared.stmt.Stmt.TheOpen.{Stmt-F, Branch-F, Handler-F}
use Rattle.py_ast.specs.declared.stmt.Stmt.TheFolds.{para-Stmt, para-Branch, para-Handler}
use Rattle.py_ast.specs.declared.cell.Cell.{Cell}
use Rattle.py_ast.specs.Nodes.{Node, a_handler, a_stmt, an_expr}
use Rattle.py_scope.specs.Faults.{faults_of, least}
use Rattle.py_scope.specs.Marks.{marks_of_block}
use Rattle.py_scope.specs.Scopes.{Code, place_of, scope_of}
use Rattle.py_scope.specs.declared.chart.Seat.{Seat}
use Rattle.py_scope.specs.declared.fault.ScopeFault.{ScopeFault}
use Rattle.py_scope.specs.declared.fault.ScopeFault.TheVariants.{At, NoMemory}
use Rattle.py_scope.specs.declared.place.NamePlace.{NamePlace}
use Rattle.py_scope.specs.declared.scope.Kind.{Kind}
use Rattle.py_scope.specs.declared.scope.Kind.TheVariants as kind
use Rattle.py_scope.specs.declared.scope.Scope.{Scope}

-- what is known of a node: the bodies round it, innermost first, and what its own body has, if it is a `def`, a lambda or a `class`
pub record Spot : Type 0 where
  pub round : List Scope
  pub code : Option Code

abbrev pub plain : List Scope → Spot
plain round = record { round = round; code = None }

abbrev pub coded : List Scope → Code → Spot
coded round code = record { round = round; code = Some code }

-- The spots of the nodes of a part, by the bodies round it, in the order of the nodes.
abbrev pub Spots : Type 0
Spots = List Scope → List Spot

abbrev pub each : List Spots → Spots
each parts round = flat_map (λ (part : Spots). part round) parts

-- ---- expressions: a lambda's value is in its body, and its defaults are in the body round it

abbrev pub lambda_code : List (List ℕ) → Code
lambda_code params = record { kind = kind.Function; params = params; marks = [] }

abbrev pub expr_step : Expr-F Spots → Spots
expr_step (e.Name i t) round = plain round ∷ []
expr_step (e.Number i n) round = plain round ∷ []
expr_step (e.Text i t) round = plain round ∷ []
expr_step (e.Nil i) round = plain round ∷ []
expr_step (e.Truth i b) round = plain round ∷ []
expr_step (e.Tuple i parts) round = plain round ∷ each parts round
expr_step (e.List i parts) round = plain round ∷ each parts round
expr_step (e.Dict i parts) round = plain round ∷ each parts round
expr_step (e.Lambda i params defaults value) round =
    coded round (lambda_code params) ∷ (each defaults round ++ value (scope_of (lambda_code params) ∷ round))
expr_step (e.Choice i a test b) round = plain round ∷ (a round ++ (test round ++ b round))
expr_step (e.And i a b) round = plain round ∷ (a round ++ b round)
expr_step (e.Or i a b) round = plain round ∷ (a round ++ b round)
expr_step (e.Not i a) round = plain round ∷ a round
expr_step (e.Compare i ops parts) round = plain round ∷ each parts round
expr_step (e.Binary i a o b) round = plain round ∷ (a round ++ b round)
expr_step (e.Sign i o a) round = plain round ∷ a round
expr_step (e.Attr i a t) round = plain round ∷ a round
expr_step (e.Item i a b) round = plain round ∷ (a round ++ b round)
expr_step (e.Call i f arguments) round = plain round ∷ (f round ++ each arguments round)

abbrev pub spots_of_expr : Expr → Spots
spots_of_expr = fold-Expr Spots expr_step

abbrev pub spots_of_exprs : List Expr → Spots
spots_of_exprs xs round = flat_map (λ x. spots_of_expr x round) xs

abbrev pub spots_of_maybe : Option Expr → Spots
spots_of_maybe None round = []
spots_of_maybe (Some x) round = spots_of_expr x round

-- ---- statements: the body of a `def` or a `class` is its own; its defaults, or its base, are in the body round it

abbrev pub body_code : Kind → List (List ℕ) → List Stmt → Code
body_code what params body = record { kind = what; params = params; marks = marks_of_block body }

abbrev pub def_code : List (List ℕ) → List Stmt → Code
def_code params body = body_code kind.Function params body

abbrev pub class_code : List Stmt → Code
class_code body = body_code kind.Class [] body

-- the statements of a block, and their spots
abbrev pub statements : List (Stmt × Spots) → List Stmt
statements parts = map (λ (p : Stmt × Spots). p.0) parts

abbrev pub from_stmts : List (Stmt × Spots) → Spots
from_stmts parts round = flat_map (λ (p : Stmt × Spots). p.1 round) parts

abbrev pub from_branches : List (Branch × Spots) → Spots
from_branches parts round = flat_map (λ (p : Branch × Spots). p.1 round) parts

abbrev pub from_handlers : List (Handler × Spots) → Spots
from_handlers parts round = flat_map (λ (p : Handler × Spots). p.1 round) parts

abbrev pub stmt_step : Stmt-F (Stmt × Spots) (Branch × Spots) (Handler × Spots) → Spots
stmt_step (s.Expr i x) round = plain round ∷ spots_of_expr x round
stmt_step (s.Assign i targets x) round = plain round ∷ (spots_of_exprs targets round ++ spots_of_expr x round)
stmt_step (s.Augment i target o x) round = plain round ∷ (spots_of_expr target round ++ spots_of_expr x round)
stmt_step (s.Pass i) round = plain round ∷ []
stmt_step (s.Break i) round = plain round ∷ []
stmt_step (s.Continue i) round = plain round ∷ []
stmt_step (s.Return i x) round = plain round ∷ spots_of_maybe x round
stmt_step (s.Raise i x) round = plain round ∷ spots_of_maybe x round
stmt_step (s.Global i names) round = plain round ∷ []
stmt_step (s.Nonlocal i names) round = plain round ∷ []
stmt_step (s.Del i target) round = plain round ∷ spots_of_expr target round
stmt_step (s.Assert i test x) round = plain round ∷ (spots_of_expr test round ++ spots_of_maybe x round)
stmt_step (s.If i branches otherwise) round = plain round ∷ (from_branches branches round ++ from_stmts otherwise round)
stmt_step (s.While i test body otherwise) round =
    plain round ∷ (spots_of_expr test round ++ (from_stmts body round ++ from_stmts otherwise round))
stmt_step (s.For i target x body otherwise) round =
    plain round ∷ (spots_of_expr target round ++ (spots_of_expr x round ++ (from_stmts body round ++ from_stmts otherwise round)))
stmt_step (s.Try i body handlers otherwise finally) round =
    plain round ∷ (from_stmts body round ++ (from_handlers handlers round ++ (from_stmts otherwise round ++ from_stmts finally round)))
stmt_step (s.Def i name params defaults body) round =
    coded round (def_code params (statements body))
    ∷ (spots_of_exprs defaults round ++ from_stmts body (scope_of (def_code params (statements body)) ∷ round))
stmt_step (s.Class i name base body) round =
    coded round (class_code (statements body))
    ∷ (spots_of_maybe base round ++ from_stmts body (scope_of (class_code (statements body)) ∷ round))

abbrev pub branch_step : Branch-F (Stmt × Spots) (Branch × Spots) (Handler × Spots) → Spots
branch_step b round = spots_of_expr b.test round ++ from_stmts b.body round

abbrev pub handler_step : Handler-F (Stmt × Spots) (Branch × Spots) (Handler × Spots) → Spots
handler_step h round = plain round ∷ (spots_of_maybe h.class round ++ from_stmts h.body round)

abbrev pub spots_of_stmt : Stmt → Spots
spots_of_stmt = para-Stmt Spots Spots Spots stmt_step branch_step handler_step

abbrev pub spots_of_branch : Branch → Spots
spots_of_branch = para-Branch Spots Spots Spots stmt_step branch_step handler_step

abbrev pub spots_of_handler : Handler → Spots
spots_of_handler = para-Handler Spots Spots Spots stmt_step branch_step handler_step

abbrev pub spots_of_block : List Stmt → Spots
spots_of_block xs round = flat_map (λ x. spots_of_stmt x round) xs

abbrev pub spots_of_branches : List Branch → Spots
spots_of_branches bs round = flat_map (λ b. spots_of_branch b round) bs

abbrev pub spots_of_handlers : List Handler → Spots
spots_of_handlers hs round = flat_map (λ h. spots_of_handler h round) hs

-- ---- cells

-- the spots of the nodes of a cell, that of node 1 first
abbrev pub spots_of_cell : Cell → List Spot
spots_of_cell c = spots_of_block c.statements []

abbrev pub cell_code : Cell → Code
cell_code c = body_code kind.Cell [] c.statements

-- the declarations in the body of a node that have a fault
abbrev pub faults_at : Spot → List ℕ
faults_at spot = faults_in spot.round spot.code
  where
    faults_in : List Scope → Option Code → List ℕ
    faults_in round None = []
    faults_in round (Some code) = faults_of round code

-- the numbers of the declarations in a cell that have a fault
abbrev pub faults_of_cell : Cell → List ℕ
faults_of_cell c = faults_of [] (cell_code c) ++ flat_map faults_at (spots_of_cell c)

-- the first in the text: nodes are numbered in its order
abbrev pub first_fault : Cell → Option ℕ
first_fault c = least (faults_of_cell c)

-- ---- the body of a node

abbrev pub code_in_expr : Expr-F Expr → Option Code
code_in_expr (e.Lambda i params defaults value) = Some (lambda_code params)
code_in_expr _ = None

abbrev pub code_in_stmt : Stmt-F Stmt Branch Handler → Option Code
code_in_stmt (s.Def i name params defaults body) = Some (def_code params body)
code_in_stmt (s.Class i name base body) = Some (class_code body)
code_in_stmt _ = None

-- what the body of a node has, if it is a `def`, a lambda or a `class`
abbrev pub code_of : Node → Option Code
code_of (an_expr x) = code_in_expr (out-Expr x)
code_of (a_stmt x) = code_in_stmt (out-Stmt x)
code_of (a_handler h) = None

-- one spot for each node, with what its body has
abbrev pub IsAligned : List Spot → List Node → Type 0
IsAligned spots nodes = map (λ (spot : Spot). spot.code) spots ≡ map code_of nodes

-- ---- what is kept of the scopes of a cell

-- the bodies round a node, and the names of its own body
abbrev pub seat_of : Spot → Seat
seat_of spot = record { round = spot.round; own = option_map scope_of spot.code }

abbrev pub seats_of_cell : Cell → List Seat
seats_of_cell c = map seat_of (spots_of_cell c)

-- that of the node that has a number; none where no node has it
abbrev pub seat_at : List Seat → ℕ → Option Seat
seat_at seats zero = None
seat_at seats (suc i) = slice_get seats i

abbrev pub round_in : Option Seat → List Scope
round_in None = []
round_in (Some seat) = seat.round

abbrev pub own_in : Option Seat → Option Scope
own_in None = None
own_in (Some seat) = seat.own

-- the place of a name that is used or bound at a node
abbrev pub place_at : List Seat → ℕ → List ℕ → NamePlace
place_at seats node name = place_of (round_in (seat_at seats node)) name

-- the local names of a function; none of what is no function
abbrev pub slots_in : Kind → List (List ℕ) → List (List ℕ)
slots_in kind.Cell locals = []
slots_in kind.Function locals = locals
slots_in kind.Class locals = []

abbrev pub slots_of : Option Scope → List (List ℕ)
slots_of None = []
slots_of (Some scope) = slots_in scope.kind scope.locals

-- the local names of the `def` or the lambda that has a number; none where no `def` and no lambda has it
abbrev pub slots_at : List Seat → ℕ → List (List ℕ)
slots_at seats node = slots_of (own_in (seat_at seats node))

-- what is answered to a cell: its scopes where no declaration has a fault, and else the first declaration that has one
abbrev pub Gives : Cell → Result (List Seat) ScopeFault → Type 0
Gives c (Ok seats) = (first_fault c ≡ None) × (seats ≡ seats_of_cell c)
Gives c (Err (At node)) = first_fault c ≡ Some node
Gives c (Err NoMemory) = Unit {0}
