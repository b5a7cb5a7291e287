-- A statement is the one that its tree and the numbers of its nodes make; and so is a cell.
use Rattle.std.proofs.Common.{◌≡◌, ℕ, ◌+◌, List, [], ◌∷◌, ◌++◌, map, Option, length, sym, ap, subst, ◌∙◌}
use Rattle.py_ast.specs.Nodes.{IsNumbered, Node, below_handler, below_stmt, branch_step, from_branches, from_handlers, from_stmts, handler_step, nodes, nodes_of_all, nodes_of_block, nodes_of_branch, nodes_of_cell, nodes_of_handler, nodes_of_maybe, nodes_of_stmt, stmt_number_in, stmt_step}
use Rattle.py_ast.specs.Statement.{Block, Branches, Handlers, Statement, block_of, branch, branches_of, handler, handlers_of, view_branch_step, view_cell, view_handler_step, view_stmt, view_stmt_step}
use Rattle.py_ast.specs.Tree.{Tree}
use Rattle.py_ast.specs.declared.stmt.Stmt.{Stmt, roll-Stmt}
use Rattle.py_ast.specs.declared.stmt.Branch.{Branch, roll-Branch}
use Rattle.py_ast.specs.declared.stmt.Handler.{Handler, roll-Handler}
use Rattle.py_ast.specs.declared.stmt.Stmt.TheOpen as s
use Rattle.py_ast.specs.declared.stmt.Stmt.TheOpen.{Stmt-F, Branch-F, Handler-F}
use Rattle.py_ast.specs.declared.stmt.Stmt.TheFolds.{fold-Branch, fold-Handler, fold-roll-Branch, fold-roll-Handler, fold-roll-Stmt, ind-Stmt, map-Branch, map-Handler, map-Stmt, para-roll-Branch, para-roll-Handler, para-roll-Stmt}
use Rattle.py_ast.specs.declared.stmt.Stmt.TheViews.{out-roll-Handler, out-roll-Stmt}
use Rattle.py_ast.specs.declared.cell.Cell.{Cell}
use Rattle.py_numbered.specs.Numbered.{block_from, branches_from, handlers_from, numbered, stmt_from}
use Rattle.py_numbered.proofs.Runs.{Runs, counted, split}
use Rattle.py_numbered.proofs.SameExpr.{same_expr, same_exprs, same_maybe}

abbrev pub BranchParts : Type 0
BranchParts = Tree × Block

abbrev pub HandlerParts : Type 0
HandlerParts = Option Tree × Option (List ℕ) × Block

abbrev pub view_branch : Branch → BranchParts
view_branch = fold-Branch Statement BranchParts HandlerParts view_stmt_step view_branch_step view_handler_step

abbrev pub view_handler : Handler → HandlerParts
view_handler = fold-Handler Statement BranchParts HandlerParts view_stmt_step view_branch_step view_handler_step

-- ---- what is known of each part

abbrev SameStmt : Stmt → Type 0
SameStmt x = (n m : ℕ) → Runs n (nodes_of_stmt x) m → stmt_from n (view_stmt x) ≡ (x, m)

-- a branch or a clause, before others
abbrev BranchIs : ℕ → BranchParts → Branch → ℕ → Type 0
BranchIs n parts b m =
    (rest : Branches) → branches_from n (branch parts.0 parts.1 rest) ≡ (b ∷ (branches_from m rest).0, (branches_from m rest).1)

abbrev HandlerIs : ℕ → HandlerParts → Handler → ℕ → Type 0
HandlerIs n parts h m =
    (rest : Handlers) → handlers_from n (handler parts.0 parts.1 parts.2 rest) ≡ (h ∷ (handlers_from m rest).0, (handlers_from m rest).1)

abbrev SameBranch : Branch → Type 0
SameBranch b = (n m : ℕ) → Runs n (nodes_of_branch b) m → BranchIs n (view_branch b) b m

abbrev SameHandler : Handler → Type 0
SameHandler h = (n m : ℕ) → Runs n (nodes_of_handler h) m → HandlerIs n (view_handler h) h m

abbrev KnownStmt : Type 0
KnownStmt = (x : Stmt) × SameStmt x

abbrev KnownBranch : Type 0
KnownBranch = (b : Branch) × SameBranch b

abbrev KnownHandler : Type 0
KnownHandler = (h : Handler) × SameHandler h

-- ---- lists of parts

abbrev bare : List KnownStmt → List Stmt
bare ps = map (λ (p : KnownStmt). p.0) ps

abbrev bares : List KnownBranch → List Branch
bares ps = map (λ (p : KnownBranch). p.0) ps

abbrev clauses : List KnownHandler → List Handler
clauses ps = map (λ (p : KnownHandler). p.0) ps

abbrev noted : List KnownStmt → List Node
noted ps = from_stmts (map (λ (y : Stmt). (y, below_stmt y)) (bare ps))

abbrev noted_branches : List KnownBranch → List Node
noted_branches ps = from_branches (map (λ (y : Branch). (y, nodes_of_branch y)) (bares ps))

abbrev noted_handlers : List KnownHandler → List Node
noted_handlers ps = from_handlers (map (λ (y : Handler). (y, below_handler y)) (clauses ps))

block : (ps : List KnownStmt) (n m : ℕ) → Runs n (noted ps) m → block_from n (block_of (map view_stmt (bare ps))) ≡ (bare ps, m)
block [] n m r = ap (λ (k : ℕ). ([], k)) r
block (p ∷ ps) n m r =
    let two = split n (nodes_of_stmt p.0) (noted ps) m r in
    rw (p.1 n two.between two.first, block ps two.between m two.second)

branches : (ps : List KnownBranch) (n m : ℕ) → Runs n (noted_branches ps) m
    → branches_from n (branches_of (map view_branch (bares ps))) ≡ (bares ps, m)
branches [] n m r = ap (λ (k : ℕ). ([], k)) r
branches (p ∷ ps) n m r =
    let two = split n (nodes_of_branch p.0) (noted_branches ps) m r in
    p.1 n two.between two.first (branches_of (map view_branch (bares ps)))
    ∙ ap (λ (z : List Branch × ℕ). (p.0 ∷ z.0, z.1)) (branches ps two.between m two.second)

handlers : (ps : List KnownHandler) (n m : ℕ) → Runs n (noted_handlers ps) m
    → handlers_from n (handlers_of (map view_handler (clauses ps))) ≡ (clauses ps, m)
handlers [] n m r = ap (λ (k : ℕ). ([], k)) r
handlers (p ∷ ps) n m r =
    let two = split n (nodes_of_handler p.0) (noted_handlers ps) m r in
    p.1 n two.between two.first (handlers_of (map view_handler (clauses ps)))
    ∙ ap (λ (z : List Handler × ℕ). (p.0 ∷ z.0, z.1)) (handlers ps two.between m two.second)

-- ---- one layer, with what is known of its parts

abbrev bare_stmt : Stmt-F KnownStmt KnownBranch KnownHandler → Stmt-F Stmt Branch Handler
bare_stmt y = map-Stmt KnownStmt KnownBranch KnownHandler Stmt Branch Handler (λ p. p.0) (λ p. p.0) (λ p. p.0) y

abbrev bare_branch : Branch-F KnownStmt KnownBranch KnownHandler → Branch-F Stmt Branch Handler
bare_branch y = map-Branch KnownStmt KnownBranch KnownHandler Stmt Branch Handler (λ p. p.0) (λ p. p.0) (λ p. p.0) y

abbrev bare_handler : Handler-F KnownStmt KnownBranch KnownHandler → Handler-F Stmt Branch Handler
bare_handler y = map-Handler KnownStmt KnownBranch KnownHandler Stmt Branch Handler (λ p. p.0) (λ p. p.0) (λ p. p.0) y

abbrev pub below_of : Stmt-F Stmt Branch Handler → List Node
below_of x = stmt_step (map-Stmt Stmt Branch Handler (Stmt × List Node) (Branch × List Node) (Handler × List Node)
    (λ (y : Stmt). (y, below_stmt y)) (λ (y : Branch). (y, nodes_of_branch y)) (λ (y : Handler). (y, below_handler y)) x)

abbrev pub seen : Stmt-F Stmt Branch Handler → Statement
seen x = view_stmt_step (map-Stmt Stmt Branch Handler Statement BranchParts HandlerParts view_stmt view_branch view_handler x)

level : (y : Stmt-F KnownStmt KnownBranch KnownHandler) (m : ℕ)
    → Runs (stmt_number_in (bare_stmt y) + 1) (below_of (bare_stmt y)) m
    → stmt_from (stmt_number_in (bare_stmt y)) (seen (bare_stmt y)) ≡ (roll-Stmt (bare_stmt y), m)
level (s.Expr i x) m r = rw (same_expr x (i + 1) m r)
level (s.Assign i xs x) m r =
    let one = split (i + 1) (nodes_of_all xs) (nodes x) m r in
    rw (same_exprs xs (i + 1) one.between one.first, same_expr x one.between m one.second)
level (s.Augment i x o y) m r =
    let one = split (i + 1) (nodes x) (nodes y) m r in
    rw (same_expr x (i + 1) one.between one.first, same_expr y one.between m one.second)
level (s.Pass i) m r = ap (λ k. (roll-Stmt (s.Pass i), k)) r
level (s.Break i) m r = ap (λ k. (roll-Stmt (s.Break i), k)) r
level (s.Continue i) m r = ap (λ k. (roll-Stmt (s.Continue i), k)) r
level (s.Return i x) m r = rw (same_maybe x (i + 1) m r)
level (s.Raise i x) m r = rw (same_maybe x (i + 1) m r)
level (s.Global i names) m r = ap (λ k. (roll-Stmt (s.Global i names), k)) r
level (s.Nonlocal i names) m r = ap (λ k. (roll-Stmt (s.Nonlocal i names), k)) r
level (s.Del i x) m r = rw (same_expr x (i + 1) m r)
level (s.Assert i x y) m r =
    let one = split (i + 1) (nodes x) (nodes_of_maybe y) m r in
    rw (same_expr x (i + 1) one.between one.first, same_maybe y one.between m one.second)
level (s.If i bs o) m r =
    let one = split (i + 1) (noted_branches bs) (noted o) m r in
    rw (branches bs (i + 1) one.between one.first, block o one.between m one.second)
level (s.While i x b o) m r =
    let one = split (i + 1) (nodes x) (noted b ++ (noted o)) m r in
    let two = split one.between (noted b) (noted o) m one.second in
    rw (same_expr x (i + 1) one.between one.first, block b one.between two.between two.first, block o two.between m two.second)
level (s.For i x y b o) m r =
    let one = split (i + 1) (nodes x) (nodes y ++ (noted b ++ (noted o))) m r in
    let two = split one.between (nodes y) (noted b ++ (noted o)) m one.second in
    let three = split two.between (noted b) (noted o) m two.second in
    rw (
      same_expr x (i + 1) one.between one.first,
      same_expr y one.between two.between two.first,
      block b two.between three.between three.first,
      block o three.between m three.second,
    )
level (s.Try i b hs o f) m r =
    let one = split (i + 1) (noted b) (noted_handlers hs ++ (noted o ++ (noted f))) m r in
    let two = split one.between (noted_handlers hs) (noted o ++ (noted f)) m one.second in
    let three = split two.between (noted o) (noted f) m two.second in
    rw (
      block b (i + 1) one.between one.first,
      handlers hs one.between two.between two.first,
      block o two.between three.between three.first,
      block f three.between m three.second,
    )
level (s.Def i name names xs b) m r =
    let one = split (i + 1) (nodes_of_all xs) (noted b) m r in
    rw (same_exprs xs (i + 1) one.between one.first, block b one.between m one.second)
level (s.Class i name x b) m r =
    let one = split (i + 1) (nodes_of_maybe x) (noted b) m r in
    rw (same_maybe x (i + 1) one.between one.first, block b one.between m one.second)

stmt_made : (y : Stmt-F KnownStmt KnownBranch KnownHandler) → SameStmt (roll-Stmt (bare_stmt y))
stmt_made y n m r =
    let x : Stmt-F Stmt Branch Handler = bare_stmt y in
    let i : stmt_number_in x ≡ n = ap stmt_number_in (sym (out-roll-Stmt x)) ∙ r.0 in
    let below_runs : Runs (n + 1) (below_of x) m =
    subst (λ ns. Runs (n + 1) ns m) (para-roll-Stmt (List Node) (List Node) (List Node) stmt_step branch_step handler_step x) r.1 in
    ap (stmt_from n) (fold-roll-Stmt Statement BranchParts HandlerParts view_stmt_step view_branch_step view_handler_step x)
    ∙ subst (λ k. stmt_from k (seen x) ≡ (roll-Stmt x, m)) i
    (level y m (subst (λ k. Runs (k + 1) (below_of x) m) (sym i) below_runs))

branch_made : (y : Branch-F KnownStmt KnownBranch KnownHandler) → SameBranch (roll-Branch (bare_branch y))
branch_made y n m r =
    let x : Branch-F Stmt Branch Handler = bare_branch y in
    let two = split n (nodes y.test) (noted y.body) m
    (subst (λ ns. Runs n ns m) (para-roll-Branch (List Node) (List Node) (List Node) stmt_step branch_step handler_step x) r) in
    subst (λ parts. BranchIs n parts (roll-Branch x) m)
    (sym (fold-roll-Branch Statement BranchParts HandlerParts view_stmt_step view_branch_step view_handler_step x))
    (λ rest. rw (same_expr y.test n two.between two.first, block y.body two.between m two.second))

handler_made : (y : Handler-F KnownStmt KnownBranch KnownHandler) → SameHandler (roll-Handler (bare_handler y))
handler_made y n m r =
    let x : Handler-F Stmt Branch Handler = bare_handler y in
    let i : y.node ≡ n = ap (λ (z : Handler-F Stmt Branch Handler). z.node) (sym (out-roll-Handler x)) ∙ r.0 in
    let below_runs : Runs (n + 1) (nodes_of_maybe y.class ++ noted y.body) m =
    subst (λ ns. Runs (n + 1) ns m) (para-roll-Handler (List Node) (List Node) (List Node) stmt_step branch_step handler_step x) r.1 in
    let two = split (n + 1) (nodes_of_maybe y.class) (noted y.body) m below_runs in
    subst (λ parts. HandlerIs n parts (roll-Handler x) m)
    (sym (fold-roll-Handler Statement BranchParts HandlerParts view_stmt_step view_branch_step view_handler_step x))
    (λ rest. rw (same_maybe y.class (n + 1) two.between two.first, block y.body two.between m two.second, i))

pub same_stmt : (x : Stmt) → SameStmt x
same_stmt = ind-Stmt SameStmt SameBranch SameHandler
    (λ x y e. subst (λ (z : Stmt-F Stmt Branch Handler). SameStmt (roll-Stmt z)) e (stmt_made y))
    (λ x y e. subst (λ (z : Branch-F Stmt Branch Handler). SameBranch (roll-Branch z)) e (branch_made y))
    (λ x y e. subst (λ (z : Handler-F Stmt Branch Handler). SameHandler (roll-Handler z)) e (handler_made y))

same_block : (xs : List Stmt) (n m : ℕ) → Runs n (nodes_of_block xs) m → block_from n (block_of (map view_stmt xs)) ≡ (xs, m)
same_block [] n m r = ap (λ (k : ℕ). ([], k)) r
same_block (x ∷ xs) n m r =
    let two = split n (nodes_of_stmt x) (nodes_of_block xs) m r in
    rw (same_stmt x n two.between two.first, same_block xs two.between m two.second)

pub same_cell : (c : Cell) → IsNumbered c → c ≡ numbered (view_cell c)
same_cell c h =
    let ns : List Node = nodes_of_cell c in
    ap (λ (z : List Stmt × ℕ). record { statements = z.0 })
    (sym (same_block c.statements 1 (1 + length ns) (counted 1 ns h.in_order)))
