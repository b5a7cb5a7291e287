-- The spots of the nodes stand in the order of the nodes.
use Rattle.std.proofs.Common.{◌≡◌, ℕ, zero, suc, length, slice_get, option_map, List, [], ◌∷◌, ◌++◌, map, Option, Some, None, refl, sym, ap, subst, ◌∙◌}
use Rattle.std.proofs.lemmas.List.{length-map, map-append}
use Rattle.py_ast.specs.Nodes.{Node, Part, a_stmt, an_expr, below, below_step, from_parts, nodes, nodes_of_all, nodes_of_maybe}
use Rattle.py_ast.specs.declared.expr.Expr.{Expr, roll-Expr}
use Rattle.py_ast.specs.declared.expr.Expr.TheOpen as e
use Rattle.py_ast.specs.declared.expr.Expr.TheOpen.{Expr-F}
use Rattle.py_ast.specs.declared.expr.Expr.TheFolds.{fold-roll-Expr, ind-Expr, map-Expr, para-roll-Expr}
use Rattle.py_ast.specs.declared.expr.Expr.TheViews.{out-roll-Expr}
use Rattle.py_ast.specs.declared.stmt.Stmt.{Stmt, roll-Stmt}
use Rattle.py_ast.specs.declared.stmt.Branch.{Branch, roll-Branch}
use Rattle.py_ast.specs.declared.stmt.Handler.{Handler, roll-Handler}
use Rattle.py_ast.specs.declared.stmt.Stmt.TheOpen as s
use Rattle.py_ast.specs.declared.stmt.Stmt.TheOpen.{Stmt-F, Branch-F, Handler-F}
use Rattle.py_ast.specs.declared.stmt.Stmt.TheFolds.{ind-Stmt, map-Branch, map-Handler, map-Stmt, para-roll-Branch, para-roll-Handler, para-roll-Stmt}
use Rattle.py_ast.specs.declared.stmt.Stmt.TheViews.{out-roll-Stmt}
use Rattle.py_ast.specs.declared.cell.Cell.{Cell}
use Rattle.py_ast.specs.Nodes as n
use Rattle.py_ast.specs.Nodes.{below_handler, below_stmt, nodes_of_block, nodes_of_branch, nodes_of_cell, nodes_of_handler, nodes_of_stmt}
use Rattle.py_scope.specs.declared.scope.Scope.{Scope}
use Rattle.py_scope.specs.Scopes.{Code, scope_of}
use Rattle.py_scope.proofs.SpotForms.{statements_map}
use Rattle.py_scope.specs.Chart.{IsAligned, Spot, Spots, branch_step, class_code, code_in_expr, code_in_stmt, code_of, def_code, each, expr_step, from_branches, from_handlers, from_stmts, handler_step, lambda_code, own_in, seat_at, seat_of, seats_of_cell, spots_of_block, spots_of_branch, spots_of_cell, spots_of_expr, spots_of_exprs, spots_of_handler, spots_of_maybe, spots_of_stmt, statements, stmt_step}

abbrev codes : List Spot → List (Option Code)
codes spots = map (λ (spot : Spot). spot.code) spots

abbrev own : List Node → List (Option Code)
own ns = map code_of ns

-- two lists after each other
then : (xs ys : List Spot) (ms ns : List Node) → IsAligned xs ms → IsAligned ys ns → IsAligned (xs ++ ys) (ms ++ ns)
then xs ys ms ns p q =
    map-append (λ (spot : Spot). spot.code) xs ys
    ∙ ap (λ (z : List (Option Code)). z ++ codes ys) p
    ∙ ap (λ (z : List (Option Code)). own ms ++ z) q
    ∙ sym (map-append code_of ms ns)

-- ---- expressions

abbrev AlignedExpr : Expr → Type 0
AlignedExpr x = (r : List Scope) → IsAligned (spots_of_expr x r) (nodes x)

abbrev Known : Type 0
Known = (x : Expr) × AlignedExpr x

parts : (ps : List Known) (r : List Scope)
    → IsAligned (each (map spots_of_expr (map (λ p. p.0) ps)) r) (from_parts (map (λ (y : Expr). (y, below y)) (map (λ p. p.0) ps)))
parts [] r = refl
parts (p ∷ ps) r =
    then (spots_of_expr p.0 r) (each (map spots_of_expr (map (λ p. p.0) ps)) r) (nodes p.0)
    (from_parts (map (λ (y : Expr). (y, below y)) (map (λ p. p.0) ps)))
    (p.1 r) (parts ps r)

two : (a b : Known) (r : List Scope) → IsAligned (spots_of_expr a.0 r ++ spots_of_expr b.0 r) (nodes a.0 ++ nodes b.0)
two a b r = then (spots_of_expr a.0 r) (spots_of_expr b.0 r) (nodes a.0) (nodes b.0) (a.1 r) (b.1 r)

-- a node before the spots and the nodes below it
first : (code : Option Code) (xs : List Spot) (ns : List Node) → IsAligned xs ns → (code ∷ codes xs) ≡ (code ∷ own ns)
first code xs ns p = ap (λ (z : List (Option Code)). code ∷ z) p

level : (y : Expr-F Known) (r : List Scope) → codes (expr_step (map-Expr Expr Spots spots_of_expr (map-Expr Known Expr (λ e. e.0) y)) r)
    ≡ code_in_expr (map-Expr Known Expr (λ e. e.0) y) ∷ own
    (below_step (map-Expr Expr Part (λ (z : Expr). (z, below z)) (map-Expr Known Expr (λ e. e.0) y)))
level (e.Name i t) r = refl
level (e.Number i n) r = refl
level (e.Text i t) r = refl
level (e.Nil i) r = refl
level (e.Truth i b) r = refl
level (e.Tuple i ps) r = ap (λ (z : List (Option Code)). None ∷ z) (parts ps r)
level (e.List i ps) r = ap (λ (z : List (Option Code)). None ∷ z) (parts ps r)
level (e.Dict i ps) r = ap (λ (z : List (Option Code)). None ∷ z) (parts ps r)
level (e.Lambda i params ps x) r =
    ap (λ (z : List (Option Code)). Some (lambda_code params) ∷ z)
    (then (each (map spots_of_expr (map (λ p. p.0) ps)) r) (spots_of_expr x.0 (scope_of (lambda_code params) ∷ r))
    (from_parts (map (λ (y : Expr). (y, below y)) (map (λ p. p.0) ps))) (nodes x.0) (parts ps r) (x.1 (scope_of (lambda_code params) ∷ r)))
level (e.Choice i a t b) r =
    ap (λ (z : List (Option Code)). None ∷ z)
    (then (spots_of_expr a.0 r) (spots_of_expr t.0 r ++ spots_of_expr b.0 r) (nodes a.0) (nodes t.0 ++ nodes b.0) (a.1 r) (two t b r))
level (e.And i a b) r = ap (λ (z : List (Option Code)). None ∷ z) (two a b r)
level (e.Or i a b) r = ap (λ (z : List (Option Code)). None ∷ z) (two a b r)
level (e.Not i a) r = ap (λ (z : List (Option Code)). None ∷ z) (a.1 r)
level (e.Compare i ops ps) r = ap (λ (z : List (Option Code)). None ∷ z) (parts ps r)
level (e.Binary i a o b) r = ap (λ (z : List (Option Code)). None ∷ z) (two a b r)
level (e.Sign i o a) r = ap (λ (z : List (Option Code)). None ∷ z) (a.1 r)
level (e.Attr i a t) r = ap (λ (z : List (Option Code)). None ∷ z) (a.1 r)
level (e.Item i a b) r = ap (λ (z : List (Option Code)). None ∷ z) (two a b r)
level (e.Call i f ps) r =
    ap (λ (z : List (Option Code)). None ∷ z)
    (then (spots_of_expr f.0 r) (each (map spots_of_expr (map (λ p. p.0) ps)) r) (nodes f.0)
    (from_parts (map (λ (y : Expr). (y, below y)) (map (λ p. p.0) ps)))
    (f.1 r) (parts ps r))

pub expr_aligned : (x : Expr) → AlignedExpr x
expr_aligned = ind-Expr AlignedExpr (λ x y e. subst (λ (z : Expr-F Expr). AlignedExpr (roll-Expr z)) e (step y))
  where
    step : (y : Expr-F Known) → AlignedExpr (roll-Expr (map-Expr Known Expr (λ e. e.0) y))
    step y r = let x : Expr-F Expr = map-Expr Known Expr (λ e. e.0) y in
        ap (λ (f : Spots). codes (f r)) (fold-roll-Expr Spots expr_step x)
        ∙ level y r
        ∙ ap (λ (z : Expr-F Expr). code_in_expr z ∷ own (below_step (map-Expr Expr Part (λ (z : Expr). (z, below z)) x)))
        (sym (out-roll-Expr x))
        ∙ ap (λ (z : List Node). code_of (an_expr (roll-Expr x)) ∷ own z) (sym (para-roll-Expr (List Node) below_step x))

pub exprs_aligned : (xs : List Expr) (r : List Scope) → IsAligned (spots_of_exprs xs r) (nodes_of_all xs)
exprs_aligned [] r = refl
exprs_aligned (x ∷ xs) r = then (spots_of_expr x r) (spots_of_exprs xs r) (nodes x) (nodes_of_all xs) (expr_aligned x r)
    (exprs_aligned xs r)

pub maybe_aligned : (x : Option Expr) (r : List Scope) → IsAligned (spots_of_maybe x r) (nodes_of_maybe x)
maybe_aligned None r = refl
maybe_aligned (Some x) r = expr_aligned x r

-- ---- statements

abbrev AlignedStmt : Stmt → Type 0
AlignedStmt x = (r : List Scope) → IsAligned (spots_of_stmt x r) (nodes_of_stmt x)

abbrev AlignedBranch : Branch → Type 0
AlignedBranch b = (r : List Scope) → IsAligned (spots_of_branch b r) (nodes_of_branch b)

abbrev AlignedHandler : Handler → Type 0
AlignedHandler h = (r : List Scope) → IsAligned (spots_of_handler h r) (nodes_of_handler h)

abbrev KnownStmt : Type 0
KnownStmt = (x : Stmt) × AlignedStmt x

abbrev KnownBranch : Type 0
KnownBranch = (b : Branch) × AlignedBranch b

abbrev KnownHandler : Type 0
KnownHandler = (h : Handler) × AlignedHandler h

-- the statements, the branches and the clauses of a list of them, and these with what the two walks have of them
abbrev bare : List KnownStmt → List Stmt
bare ps = map (λ (p : KnownStmt). p.0) ps

abbrev spotted : List Stmt → List (Stmt × Spots)
spotted xs = map (λ (y : Stmt). (y, spots_of_stmt y)) xs

abbrev noted : List Stmt → List (Stmt × List Node)
noted xs = map (λ (y : Stmt). (y, below_stmt y)) xs

stmts : (ps : List KnownStmt) (r : List Scope) → IsAligned (from_stmts (spotted (bare ps)) r) (n.from_stmts (noted (bare ps)))
stmts [] r = refl
stmts (p ∷ ps) r =
    then (spots_of_stmt p.0 r) (from_stmts (spotted (bare ps)) r) (nodes_of_stmt p.0) (n.from_stmts (noted (bare ps))) (p.1 r) (stmts ps r)

abbrev spotted_branches : List Branch → List (Branch × Spots)
spotted_branches xs = map (λ (y : Branch). (y, spots_of_branch y)) xs

abbrev noted_branches : List Branch → List (Branch × List Node)
noted_branches xs = map (λ (y : Branch). (y, nodes_of_branch y)) xs

branches : (ps : List KnownBranch) (r : List Scope)
    → IsAligned (from_branches (spotted_branches (map (λ p. p.0) ps)) r) (n.from_branches (noted_branches (map (λ p. p.0) ps)))
branches [] r = refl
branches (p ∷ ps) r =
    then (spots_of_branch p.0 r) (from_branches (spotted_branches (map (λ p. p.0) ps)) r) (nodes_of_branch p.0)
    (n.from_branches (noted_branches (map (λ p. p.0) ps))) (p.1 r) (branches ps r)

abbrev spotted_handlers : List Handler → List (Handler × Spots)
spotted_handlers xs = map (λ (y : Handler). (y, spots_of_handler y)) xs

abbrev noted_handlers : List Handler → List (Handler × List Node)
noted_handlers xs = map (λ (y : Handler). (y, below_handler y)) xs

handlers : (ps : List KnownHandler) (r : List Scope)
    → IsAligned (from_handlers (spotted_handlers (map (λ p. p.0) ps)) r) (n.from_handlers (noted_handlers (map (λ p. p.0) ps)))
handlers [] r = refl
handlers (p ∷ ps) r =
    then (spots_of_handler p.0 r) (from_handlers (spotted_handlers (map (λ p. p.0) ps)) r) (nodes_of_handler p.0)
    (n.from_handlers (noted_handlers (map (λ p. p.0) ps))) (p.1 r) (handlers ps r)

-- blocks after each other
two_blocks : (a b : List KnownStmt) (r : List Scope)
    → IsAligned (from_stmts (spotted (bare a)) r ++ from_stmts (spotted (bare b)) r)
    (n.from_stmts (noted (bare a)) ++ n.from_stmts (noted (bare b)))
two_blocks a b r =
    then (from_stmts (spotted (bare a)) r) (from_stmts (spotted (bare b)) r) (n.from_stmts (noted (bare a)))
    (n.from_stmts (noted (bare b))) (stmts a r) (stmts b r)

-- an expression before other parts
expr_then : (x : Expr) (ys : List Spot) (ns : List Node) (r : List Scope) → IsAligned ys ns
    → IsAligned (spots_of_expr x r ++ ys) (nodes x ++ ns)
expr_then x ys ns r q = then (spots_of_expr x r) ys (nodes x) ns (expr_aligned x r) q

abbrev plain_first : List Spot → List Node → Type 0
plain_first xs ns = (None ∷ codes xs) ≡ (None ∷ own ns)

behind : (xs : List Spot) (ns : List Node) → IsAligned xs ns → plain_first xs ns
behind xs ns p = ap (λ (z : List (Option Code)). None ∷ z) p

abbrev bare_stmt : Stmt-F KnownStmt KnownBranch KnownHandler → Stmt-F Stmt Branch Handler
bare_stmt y = map-Stmt KnownStmt KnownBranch KnownHandler Stmt Branch Handler (λ p. p.0) (λ p. p.0) (λ p. p.0) y

abbrev bare_branch : Branch-F KnownStmt KnownBranch KnownHandler → Branch-F Stmt Branch Handler
bare_branch y = map-Branch KnownStmt KnownBranch KnownHandler Stmt Branch Handler (λ p. p.0) (λ p. p.0) (λ p. p.0) y

abbrev bare_handler : Handler-F KnownStmt KnownBranch KnownHandler → Handler-F Stmt Branch Handler
bare_handler y = map-Handler KnownStmt KnownBranch KnownHandler Stmt Branch Handler (λ p. p.0) (λ p. p.0) (λ p. p.0) y

abbrev spotted_stmt : Stmt-F Stmt Branch Handler → Stmt-F (Stmt × Spots) (Branch × Spots) (Handler × Spots)
spotted_stmt x = map-Stmt Stmt Branch Handler (Stmt × Spots) (Branch × Spots) (Handler × Spots)
    (λ (y : Stmt). (y, spots_of_stmt y)) (λ (y : Branch). (y, spots_of_branch y)) (λ (y : Handler). (y, spots_of_handler y)) x

abbrev noted_stmt : Stmt-F Stmt Branch Handler → Stmt-F (Stmt × List Node) (Branch × List Node) (Handler × List Node)
noted_stmt x = map-Stmt Stmt Branch Handler (Stmt × List Node) (Branch × List Node) (Handler × List Node)
    (λ (y : Stmt). (y, below_stmt y)) (λ (y : Branch). (y, nodes_of_branch y)) (λ (y : Handler). (y, below_handler y)) x

stmt_level : (y : Stmt-F KnownStmt KnownBranch KnownHandler) (r : List Scope)
    → codes (stmt_step (spotted_stmt (bare_stmt y)) r) ≡ code_in_stmt (bare_stmt y) ∷ own (n.stmt_step (noted_stmt (bare_stmt y)))
stmt_level (s.Expr i x) r = behind (spots_of_expr x r) (nodes x) (expr_aligned x r)
stmt_level (s.Assign i ts x) r =
    behind (spots_of_exprs ts r ++ spots_of_expr x r) (nodes_of_all ts ++ nodes x)
    (then (spots_of_exprs ts r) (spots_of_expr x r) (nodes_of_all ts) (nodes x) (exprs_aligned ts r) (expr_aligned x r))
stmt_level (s.Augment i t o x) r =
    behind (spots_of_expr t r ++ spots_of_expr x r) (nodes t ++ nodes x) (expr_then t (spots_of_expr x r) (nodes x) r (expr_aligned x r))
stmt_level (s.Pass i) r = refl
stmt_level (s.Break i) r = refl
stmt_level (s.Continue i) r = refl
stmt_level (s.Return i x) r = behind (spots_of_maybe x r) (nodes_of_maybe x) (maybe_aligned x r)
stmt_level (s.Raise i x) r = behind (spots_of_maybe x r) (nodes_of_maybe x) (maybe_aligned x r)
stmt_level (s.Global i names) r = refl
stmt_level (s.Nonlocal i names) r = refl
stmt_level (s.Del i x) r = behind (spots_of_expr x r) (nodes x) (expr_aligned x r)
stmt_level (s.Assert i t x) r =
    behind (spots_of_expr t r ++ spots_of_maybe x r) (nodes t ++ nodes_of_maybe x)
    (expr_then t (spots_of_maybe x r) (nodes_of_maybe x) r (maybe_aligned x r))
stmt_level (s.If i bs o) r =
    behind (from_branches (spotted_branches (map (λ p. p.0) bs)) r ++ from_stmts (spotted (bare o)) r)
    (n.from_branches (noted_branches (map (λ p. p.0) bs)) ++ n.from_stmts (noted (bare o)))
    (then (from_branches (spotted_branches (map (λ p. p.0) bs)) r) (from_stmts (spotted (bare o)) r)
    (n.from_branches (noted_branches (map (λ p. p.0) bs))) (n.from_stmts (noted (bare o))) (branches bs r) (stmts o r))
stmt_level (s.While i t b o) r =
    behind (spots_of_expr t r ++ (from_stmts (spotted (bare b)) r ++ from_stmts (spotted (bare o)) r))
    (nodes t ++ (n.from_stmts (noted (bare b)) ++ n.from_stmts (noted (bare o))))
    (expr_then t (from_stmts (spotted (bare b)) r ++ from_stmts (spotted (bare o)) r)
    (n.from_stmts (noted (bare b)) ++ n.from_stmts (noted (bare o))) r
    (two_blocks b o r))
stmt_level (s.For i t x b o) r =
    behind (spots_of_expr t r ++ (spots_of_expr x r ++ (from_stmts (spotted (bare b)) r ++ from_stmts (spotted (bare o)) r)))
    (nodes t ++ (nodes x ++ (n.from_stmts (noted (bare b)) ++ n.from_stmts (noted (bare o)))))
    (expr_then t (spots_of_expr x r ++ (from_stmts (spotted (bare b)) r ++ from_stmts (spotted (bare o)) r))
    (nodes x ++ (n.from_stmts (noted (bare b)) ++ n.from_stmts (noted (bare o)))) r
    (expr_then x (from_stmts (spotted (bare b)) r ++ from_stmts (spotted (bare o)) r)
    (n.from_stmts (noted (bare b)) ++ n.from_stmts (noted (bare o))) r
    (two_blocks b o r)))
stmt_level (s.Try i b hs o f) r =
    let ys = from_stmts (spotted (bare o)) r ++ from_stmts (spotted (bare f)) r in
    let ns = n.from_stmts (noted (bare o)) ++ n.from_stmts (noted (bare f)) in
    let zs = from_handlers (spotted_handlers (map (λ p. p.0) hs)) r in
    let ms = n.from_handlers (noted_handlers (map (λ p. p.0) hs)) in
    behind (from_stmts (spotted (bare b)) r ++ (zs ++ ys)) (n.from_stmts (noted (bare b)) ++ (ms ++ ns))
    (then (from_stmts (spotted (bare b)) r) (zs ++ ys) (n.from_stmts (noted (bare b))) (ms ++ ns) (stmts b r)
    (then zs ys ms ns (handlers hs r) (two_blocks o f r)))
stmt_level (s.Def i name params ds b) r =
    let all = statements (spotted (bare b)) in
    let inside = scope_of (def_code params all) ∷ r in
    let rest = spots_of_exprs ds r ++ from_stmts (spotted (bare b)) inside in
    ap (λ (z : List Stmt). Some (def_code params z) ∷ codes rest) (statements_map (bare b))
    ∙ ap (λ (z : List (Option Code)). Some (def_code params (bare b)) ∷ z)
    (then (spots_of_exprs ds r) (from_stmts (spotted (bare b)) inside) (nodes_of_all ds) (n.from_stmts (noted (bare b)))
    (exprs_aligned ds r) (stmts b inside))
stmt_level (s.Class i name base b) r =
    let all = statements (spotted (bare b)) in
    let inside = scope_of (class_code all) ∷ r in
    let rest = spots_of_maybe base r ++ from_stmts (spotted (bare b)) inside in
    ap (λ (z : List Stmt). Some (class_code z) ∷ codes rest) (statements_map (bare b))
    ∙ ap (λ (z : List (Option Code)). Some (class_code (bare b)) ∷ z)
    (then (spots_of_maybe base r) (from_stmts (spotted (bare b)) inside) (nodes_of_maybe base) (n.from_stmts (noted (bare b)))
    (maybe_aligned base r) (stmts b inside))

stmt_made : (y : Stmt-F KnownStmt KnownBranch KnownHandler) → AlignedStmt (roll-Stmt (bare_stmt y))
stmt_made y r =
    let x = bare_stmt y in
    ap (λ (f : Spots). codes (f r)) (para-roll-Stmt Spots Spots Spots stmt_step branch_step handler_step x)
    ∙ stmt_level y r
    ∙ ap (λ (z : Stmt-F Stmt Branch Handler). code_in_stmt z ∷ own (n.stmt_step (noted_stmt x))) (sym (out-roll-Stmt x))
    ∙ ap (λ (z : List Node). code_of (a_stmt (roll-Stmt x)) ∷ own z)
    (sym (para-roll-Stmt (List Node) (List Node) (List Node) n.stmt_step n.branch_step n.handler_step x))

branch_made : (y : Branch-F KnownStmt KnownBranch KnownHandler) → AlignedBranch (roll-Branch (bare_branch y))
branch_made y r =
    let x = bare_branch y in
    ap (λ (f : Spots). codes (f r)) (para-roll-Branch Spots Spots Spots stmt_step branch_step handler_step x)
    ∙ expr_then y.test (from_stmts (spotted (bare y.body)) r) (n.from_stmts (noted (bare y.body))) r (stmts y.body r)
    ∙ ap (λ (z : List Node). own z) (sym (para-roll-Branch (List Node) (List Node) (List Node) n.stmt_step n.branch_step n.handler_step x))

handler_made : (y : Handler-F KnownStmt KnownBranch KnownHandler) → AlignedHandler (roll-Handler (bare_handler y))
handler_made y r =
    let x = bare_handler y in
    ap (λ (f : Spots). codes (f r)) (para-roll-Handler Spots Spots Spots stmt_step branch_step handler_step x)
    ∙ behind (spots_of_maybe y.class r ++ from_stmts (spotted (bare y.body)) r)
    (nodes_of_maybe y.class ++ n.from_stmts (noted (bare y.body)))
    (then (spots_of_maybe y.class r) (from_stmts (spotted (bare y.body)) r) (nodes_of_maybe y.class) (n.from_stmts (noted (bare y.body)))
    (maybe_aligned y.class r) (stmts y.body r))
    ∙ ap (λ (z : List Node). None ∷ own z) (sym (para-roll-Handler (List Node) (List Node)
    (List Node) n.stmt_step n.branch_step n.handler_step x))

stmt_aligned : (x : Stmt) → AlignedStmt x
stmt_aligned = ind-Stmt AlignedStmt AlignedBranch AlignedHandler
    (λ x y e. subst (λ (z : Stmt-F Stmt Branch Handler). AlignedStmt (roll-Stmt z)) e (stmt_made y))
    (λ x y e. subst (λ (z : Branch-F Stmt Branch Handler). AlignedBranch (roll-Branch z)) e (branch_made y))
    (λ x y e. subst (λ (z : Handler-F Stmt Branch Handler). AlignedHandler (roll-Handler z)) e (handler_made y))

block_aligned : (xs : List Stmt) (r : List Scope) → IsAligned (spots_of_block xs r) (nodes_of_block xs)
block_aligned [] r = refl
block_aligned (x ∷ xs) r = then (spots_of_stmt x r) (spots_of_block xs r) (nodes_of_stmt x) (nodes_of_block xs) (stmt_aligned x r)
    (block_aligned xs r)

pub cell_aligned : (c : Cell) → IsAligned (spots_of_cell c) (nodes_of_cell c)
cell_aligned c = block_aligned c.statements []

-- ---- what is kept of one node

-- lists whose items agree one by one
agree : {A B C : Type 0} (f : A → C) (g : B → C) (xs : List A) (ys : List B) (k : ℕ) (y : B) → map f xs ≡ map g ys → slice_get ys k ≡ Some y
    → (x : A) × (slice_get xs k ≡ Some x) × (f x ≡ g y)
agree f g [] [] k y e h = cc
agree f g [] (z ∷ zs) k y e h = cc
agree f g (x ∷ xs) [] k y e h = cc
agree f g (x ∷ xs) (z ∷ zs) zero y e h =
    let here : f x ≡ g z = cc in
    let same : z ≡ y = cc in
    (x, refl, here ∙ ap g same)
agree f g (x ∷ xs) (z ∷ zs) (suc k) y e h =
    let later : map f xs ≡ map g zs = cc in
    agree f g xs zs k y later h

get_mapped : {A B : Type 0} (f : A → B) (xs : List A) (k : ℕ) (x : A) → slice_get xs k ≡ Some x → slice_get (map f xs) k ≡ Some (f x)
get_mapped f [] k x h = cc
get_mapped f (z ∷ zs) zero x h = let same : z ≡ x = cc in ap (λ y. Some (f y)) same
get_mapped f (z ∷ zs) (suc k) x h = get_mapped f zs k x h

pub own_of_node : (c : Cell) (i : ℕ) (m : Node) → n.node_at (nodes_of_cell c) i ≡ Some m
    → own_in (seat_at (seats_of_cell c) i) ≡ option_map scope_of (code_of m)
own_of_node c zero m h = cc
own_of_node c (suc k) m h =
    let w = agree (λ (spot : Spot). spot.code) code_of (spots_of_cell c) (nodes_of_cell c) k m (cell_aligned c) h in
    ap own_in (get_mapped seat_of (spots_of_cell c) k w.0 w.1) ∙ ap (option_map scope_of) w.2

pub as_many : (c : Cell) → length (seats_of_cell c) ≡ length (nodes_of_cell c)
as_many c =
    length-map (spots_of_cell c) seat_of
    ∙ sym (length-map (spots_of_cell c) (λ (spot : Spot). spot.code))
    ∙ ap (λ (z : List (Option Code)). length z) (cell_aligned c)
    ∙ length-map (nodes_of_cell c) code_of
