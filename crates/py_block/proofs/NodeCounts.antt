-- A cell has as many nodes as the plain block that it stands for.
use Rattle.std.proofs.Common.{◌≡◌, ℕ, suc, ◌+◌, List, [], ◌∷◌, ◌++◌, length, length-append, map, Option, Some, None, option_map, refl, sym, ap, ◌∙◌, subst, arith}
use Rattle.py_ast.specs.Tree.{Tree}
use Rattle.py_ast.specs.View.{trees_of, view, view_step, views}
use Rattle.py_ast.specs.Statement.{Statement, Block, block_of, branches_of, handlers_of, view_stmt, view_stmt_step, view_branch_step, view_handler_step, view_cell}
use Rattle.py_ast.specs.Nodes.{Node, Part, below, below_step, from_parts, nodes, nodes_of_all, nodes_of_maybe, from_stmts, from_branches, from_handlers, stmt_step, branch_step, handler_step, below_stmt, nodes_of_branch, below_handler, nodes_of_stmt, nodes_of_handler, nodes_of_block, nodes_of_cell}
use Rattle.py_ast.specs.declared.cell.Cell.{Cell}
use Rattle.py_ast.specs.declared.expr.Expr.{Expr, roll-Expr}
use Rattle.py_ast.specs.declared.expr.Expr.TheOpen as e
use Rattle.py_ast.specs.declared.expr.Expr.TheOpen.{Expr-F}
use Rattle.py_ast.specs.declared.expr.Expr.TheFolds.{fold-roll-Expr, ind-Expr, map-Expr, para-roll-Expr}
use Rattle.py_ast.specs.declared.stmt.Stmt.{Stmt, roll-Stmt}
use Rattle.py_ast.specs.declared.stmt.Branch.{Branch, roll-Branch}
use Rattle.py_ast.specs.declared.stmt.Handler.{Handler, roll-Handler}
use Rattle.py_ast.specs.declared.stmt.Stmt.TheOpen as s
use Rattle.py_ast.specs.declared.stmt.Stmt.TheOpen.{Stmt-F, Branch-F, Handler-F}
use Rattle.py_ast.specs.declared.stmt.Stmt.TheFolds.{fold-Branch, fold-Handler, fold-roll-Branch, fold-roll-Handler, fold-roll-Stmt, ind-Stmt, map-Branch, map-Handler, map-Stmt, para-roll-Branch, para-roll-Handler, para-roll-Stmt}
use Rattle.py_line.specs.Numbers.{size, size_of_all, size_of_maybe, size_of_statement, size_of_block, size_of_branches, size_of_handlers}

-- ---- expressions

abbrev CountedExpr : Expr → Type 0
CountedExpr x = length (nodes x) ≡ size (view x)

abbrev Known : Type 0
Known = (x : Expr) × CountedExpr x

abbrev bare_exprs : List Known → List Expr
bare_exprs ps = map (λ (p : Known). p.0) ps

abbrev noted_exprs : List Expr → List Part
noted_exprs xs = map (λ (y : Expr). (y, below y)) xs

parts : (ps : List Known) → length (from_parts (noted_exprs (bare_exprs ps))) ≡ size_of_all (trees_of (map view (bare_exprs ps)))
parts [] = refl
parts (p ∷ ps) = omega (arith, length-append (nodes p.0) (from_parts (noted_exprs (bare_exprs ps))), p.1, parts ps)

two : (a b : Known) → length (nodes a.0 ++ nodes b.0) ≡ size (view a.0) + size (view b.0)
two a b = omega (arith, length-append (nodes a.0) (nodes b.0), a.1, b.1)

abbrev bare_expr : Expr-F Known → Expr-F Expr
bare_expr y = map-Expr Known Expr (λ p. p.0) y

expr_level : (y : Expr-F Known) → suc (length (below_step (map-Expr Expr Part (λ (z : Expr). (z, below z)) (bare_expr y)))) ≡ size (view_step (map-Expr Expr Tree view (bare_expr y)))
expr_level (e.Name i t) = refl
expr_level (e.Number i n) = refl
expr_level (e.Text i t) = refl
expr_level (e.Nil i) = refl
expr_level (e.Truth i b) = refl
expr_level (e.Tuple i ps) = omega (arith, parts ps)
expr_level (e.List i ps) = omega (arith, parts ps)
expr_level (e.Dict i ps) = omega (arith, parts ps)
expr_level (e.Lambda i names ps x) = omega (arith, length-append (from_parts (noted_exprs (bare_exprs ps))) (nodes x.0), parts ps, x.1)
expr_level (e.Choice i a t b) = omega (arith, length-append (nodes a.0) (nodes t.0 ++ nodes b.0), two t b, a.1)
expr_level (e.And i a b) = omega (arith, two a b)
expr_level (e.Or i a b) = omega (arith, two a b)
expr_level (e.Not i a) = omega (arith, a.1)
expr_level (e.Compare i ops ps) = omega (arith, parts ps)
expr_level (e.Binary i a o b) = omega (arith, two a b)
expr_level (e.Sign i o a) = omega (arith, a.1)
expr_level (e.Attr i a t) = omega (arith, a.1)
expr_level (e.Item i a b) = omega (arith, two a b)
expr_level (e.Call i f ps) = omega (arith, length-append (nodes f.0) (from_parts (noted_exprs (bare_exprs ps))), parts ps, f.1)

expr_made : (y : Expr-F Known) → CountedExpr (roll-Expr (bare_expr y))
expr_made y =
    let x = bare_expr y in
    ap (λ (z : List Node). suc (length z)) (para-roll-Expr (List Node) below_step x)
    ∙ expr_level y
    ∙ ap size (sym (fold-roll-Expr Tree view_step x))

pub expr_counted : (x : Expr) → CountedExpr x
expr_counted = ind-Expr CountedExpr (λ x y e. subst (λ (z : Expr-F Expr). CountedExpr (roll-Expr z)) e (expr_made y))

exprs_counted : (xs : List Expr) → length (nodes_of_all xs) ≡ size_of_all (views xs)
exprs_counted [] = refl
exprs_counted (x ∷ xs) = omega (arith, length-append (nodes x) (nodes_of_all xs), expr_counted x, exprs_counted xs)

maybe_counted : (x : Option Expr) → length (nodes_of_maybe x) ≡ size_of_maybe (option_map view x)
maybe_counted None = refl
maybe_counted (Some x) = expr_counted x

-- ---- statements

abbrev BranchView : Type 0
BranchView = Tree × Block

abbrev HandlerView : Type 0
HandlerView = Option Tree × Option (List ℕ) × Block

abbrev view_branch : Branch → BranchView
view_branch = fold-Branch Statement BranchView HandlerView view_stmt_step view_branch_step view_handler_step

abbrev view_handler : Handler → HandlerView
view_handler = fold-Handler Statement BranchView HandlerView view_stmt_step view_branch_step view_handler_step

abbrev size_of_branch : BranchView → ℕ
size_of_branch b = size b.0 + size_of_block b.1

abbrev size_of_handler : HandlerView → ℕ
size_of_handler h = 1 + (size_of_maybe h.0 + size_of_block h.2)

abbrev CountedStmt : Stmt → Type 0
CountedStmt x = length (nodes_of_stmt x) ≡ size_of_statement (view_stmt x)

abbrev CountedBranch : Branch → Type 0
CountedBranch b = length (nodes_of_branch b) ≡ size_of_branch (view_branch b)

abbrev CountedHandler : Handler → Type 0
CountedHandler h = length (nodes_of_handler h) ≡ size_of_handler (view_handler h)

abbrev KnownStmt : Type 0
KnownStmt = (x : Stmt) × CountedStmt x

abbrev KnownBranch : Type 0
KnownBranch = (b : Branch) × CountedBranch b

abbrev KnownHandler : Type 0
KnownHandler = (h : Handler) × CountedHandler h

abbrev bare_stmts : List KnownStmt → List Stmt
bare_stmts ps = map (λ (p : KnownStmt). p.0) ps

abbrev bare_branches : List KnownBranch → List Branch
bare_branches ps = map (λ (p : KnownBranch). p.0) ps

abbrev bare_handlers : List KnownHandler → List Handler
bare_handlers ps = map (λ (p : KnownHandler). p.0) ps

-- the nodes of statements, branches and clauses, each from those below it
abbrev noted_stmts : List Stmt → List Node
noted_stmts xs = from_stmts (map (λ (y : Stmt). (y, below_stmt y)) xs)

abbrev noted_branches : List Branch → List Node
noted_branches xs = from_branches (map (λ (y : Branch). (y, nodes_of_branch y)) xs)

abbrev noted_handlers : List Handler → List Node
noted_handlers xs = from_handlers (map (λ (y : Handler). (y, below_handler y)) xs)

stmts : (ps : List KnownStmt) → length (noted_stmts (bare_stmts ps)) ≡ size_of_block (block_of (map view_stmt (bare_stmts ps)))
stmts [] = refl
stmts (p ∷ ps) = omega (arith, length-append (nodes_of_stmt p.0) (noted_stmts (bare_stmts ps)), p.1, stmts ps)

branches : (ps : List KnownBranch) → length (noted_branches (bare_branches ps)) ≡ size_of_branches (branches_of (map view_branch (bare_branches ps)))
branches [] = refl
branches (p ∷ ps) = omega (arith, length-append (nodes_of_branch p.0) (noted_branches (bare_branches ps)), p.1, branches ps)

handlers : (ps : List KnownHandler) → length (noted_handlers (bare_handlers ps)) ≡ size_of_handlers (handlers_of (map view_handler (bare_handlers ps)))
handlers [] = refl
handlers (p ∷ ps) = omega (arith, length-append (nodes_of_handler p.0) (noted_handlers (bare_handlers ps)), p.1, handlers ps)

two_blocks : (a b : List KnownStmt) → length (noted_stmts (bare_stmts a) ++ noted_stmts (bare_stmts b))
    ≡ size_of_block (block_of (map view_stmt (bare_stmts a))) + size_of_block (block_of (map view_stmt (bare_stmts b)))
two_blocks a b = omega (arith, length-append (noted_stmts (bare_stmts a)) (noted_stmts (bare_stmts b)), stmts a, stmts b)

abbrev bare_stmt : Stmt-F KnownStmt KnownBranch KnownHandler → Stmt-F Stmt Branch Handler
bare_stmt y = map-Stmt KnownStmt KnownBranch KnownHandler Stmt Branch Handler (λ p. p.0) (λ p. p.0) (λ p. p.0) y

abbrev bare_branch : Branch-F KnownStmt KnownBranch KnownHandler → Branch-F Stmt Branch Handler
bare_branch y = map-Branch KnownStmt KnownBranch KnownHandler Stmt Branch Handler (λ p. p.0) (λ p. p.0) (λ p. p.0) y

abbrev bare_handler : Handler-F KnownStmt KnownBranch KnownHandler → Handler-F Stmt Branch Handler
bare_handler y = map-Handler KnownStmt KnownBranch KnownHandler Stmt Branch Handler (λ p. p.0) (λ p. p.0) (λ p. p.0) y

abbrev noted_stmt : Stmt-F Stmt Branch Handler → Stmt-F (Stmt × List Node) (Branch × List Node) (Handler × List Node)
noted_stmt x = map-Stmt Stmt Branch Handler (Stmt × List Node) (Branch × List Node) (Handler × List Node)
    (λ (y : Stmt). (y, below_stmt y)) (λ (y : Branch). (y, nodes_of_branch y)) (λ (y : Handler). (y, below_handler y)) x

abbrev viewed_stmt : Stmt-F Stmt Branch Handler → Stmt-F Statement BranchView HandlerView
viewed_stmt x = map-Stmt Stmt Branch Handler Statement BranchView HandlerView view_stmt view_branch view_handler x

stmt_level : (y : Stmt-F KnownStmt KnownBranch KnownHandler)
    → suc (length (stmt_step (noted_stmt (bare_stmt y)))) ≡ size_of_statement (view_stmt_step (viewed_stmt (bare_stmt y)))
stmt_level (s.Expr i x) = omega (arith, expr_counted x)
stmt_level (s.Assign i ts x) = omega (arith, length-append (nodes_of_all ts) (nodes x), exprs_counted ts, expr_counted x)
stmt_level (s.Augment i t o x) = omega (arith, length-append (nodes t) (nodes x), expr_counted t, expr_counted x)
stmt_level (s.Pass i) = refl
stmt_level (s.Break i) = refl
stmt_level (s.Continue i) = refl
stmt_level (s.Return i x) = omega (arith, maybe_counted x)
stmt_level (s.Raise i x) = omega (arith, maybe_counted x)
stmt_level (s.Global i names) = refl
stmt_level (s.Nonlocal i names) = refl
stmt_level (s.Del i x) = omega (arith, expr_counted x)
stmt_level (s.Assert i t x) = omega (arith, length-append (nodes t) (nodes_of_maybe x), expr_counted t, maybe_counted x)
stmt_level (s.If i bs o) =
    omega (arith, length-append (noted_branches (bare_branches bs)) (noted_stmts (bare_stmts o)), branches bs, stmts o)
stmt_level (s.While i t b o) =
    omega (arith, length-append (nodes t) (noted_stmts (bare_stmts b) ++ noted_stmts (bare_stmts o)), expr_counted t, two_blocks b o)
stmt_level (s.For i t x b o) =
    omega (
      arith,
      length-append (nodes t) (nodes x ++ (noted_stmts (bare_stmts b) ++ noted_stmts (bare_stmts o))),
      length-append (nodes x) (noted_stmts (bare_stmts b) ++ noted_stmts (bare_stmts o)),
      expr_counted t,
      expr_counted x,
      two_blocks b o,
    )
stmt_level (s.Try i b hs o f) =
    omega (
      arith,
      length-append (noted_stmts (bare_stmts b)) (noted_handlers (bare_handlers hs) ++ (noted_stmts (bare_stmts o) ++ noted_stmts (bare_stmts f))),
      length-append (noted_handlers (bare_handlers hs)) (noted_stmts (bare_stmts o) ++ noted_stmts (bare_stmts f)),
      stmts b,
      handlers hs,
      two_blocks o f,
    )
stmt_level (s.Def i name params ds b) = omega (arith, length-append (nodes_of_all ds) (noted_stmts (bare_stmts b)), exprs_counted ds, stmts b)
stmt_level (s.Class i name base b) = omega (arith, length-append (nodes_of_maybe base) (noted_stmts (bare_stmts b)), maybe_counted base, stmts b)

stmt_made : (y : Stmt-F KnownStmt KnownBranch KnownHandler) → CountedStmt (roll-Stmt (bare_stmt y))
stmt_made y =
    let x = bare_stmt y in
    ap (λ (z : List Node). suc (length z)) (para-roll-Stmt (List Node) (List Node) (List Node) stmt_step branch_step handler_step x)
    ∙ stmt_level y
    ∙ ap size_of_statement (sym (fold-roll-Stmt Statement BranchView HandlerView view_stmt_step view_branch_step view_handler_step x))

branch_made : (y : Branch-F KnownStmt KnownBranch KnownHandler) → CountedBranch (roll-Branch (bare_branch y))
branch_made y =
    let x = bare_branch y in
    let here : length (nodes y.test ++ noted_stmts (bare_stmts y.body)) ≡ size (view y.test) + size_of_block (block_of (map view_stmt (bare_stmts y.body))) =
    omega (arith, length-append (nodes y.test) (noted_stmts (bare_stmts y.body)), expr_counted y.test, stmts y.body) in
    ap length (para-roll-Branch (List Node) (List Node) (List Node) stmt_step branch_step handler_step x)
    ∙ here
    ∙ ap size_of_branch (sym (fold-roll-Branch Statement BranchView HandlerView view_stmt_step view_branch_step view_handler_step x))

handler_made : (y : Handler-F KnownStmt KnownBranch KnownHandler) → CountedHandler (roll-Handler (bare_handler y))
handler_made y =
    let x = bare_handler y in
    let here : suc (length (nodes_of_maybe y.class ++ noted_stmts (bare_stmts y.body)))
    ≡ 1 + (size_of_maybe (option_map view y.class) + size_of_block (block_of (map view_stmt (bare_stmts y.body)))) =
    omega (arith, length-append (nodes_of_maybe y.class) (noted_stmts (bare_stmts y.body)), maybe_counted y.class, stmts y.body) in
    ap (λ (z : List Node). suc (length z)) (para-roll-Handler (List Node) (List Node) (List Node) stmt_step branch_step handler_step x)
    ∙ here
    ∙ ap size_of_handler (sym (fold-roll-Handler Statement BranchView HandlerView view_stmt_step view_branch_step view_handler_step x))

stmt_counted : (x : Stmt) → CountedStmt x
stmt_counted = ind-Stmt CountedStmt CountedBranch CountedHandler
    (λ x y e. subst (λ (z : Stmt-F Stmt Branch Handler). CountedStmt (roll-Stmt z)) e (stmt_made y))
    (λ x y e. subst (λ (z : Branch-F Stmt Branch Handler). CountedBranch (roll-Branch z)) e (branch_made y))
    (λ x y e. subst (λ (z : Handler-F Stmt Branch Handler). CountedHandler (roll-Handler z)) e (handler_made y))

block_counted : (xs : List Stmt) → length (nodes_of_block xs) ≡ size_of_block (block_of (map view_stmt xs))
block_counted [] = refl
block_counted (x ∷ xs) = omega (arith, length-append (nodes_of_stmt x) (nodes_of_block xs), stmt_counted x, block_counted xs)

pub cell_counted : (c : Cell) → length (nodes_of_cell c) ≡ size_of_block (view_cell c)
cell_counted c = block_counted c.statements
