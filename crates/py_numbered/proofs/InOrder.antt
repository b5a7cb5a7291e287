-- The nodes of a numbered tree hold the numbers in their order.
use Rattle.std.proofs.Common.{◌≡◌, ℕ, ◌+◌, ◌^◌, ◌<◌, List, [], ◌∷◌, ◌++◌, length, map, Option, Some, None, refl, sym, ap, subst}
use Rattle.py_ast.specs.Nodes.{IsNumbered, Node, Part, below, below_handler, below_step, below_stmt, branch_step, from_branches, from_handlers, from_parts, from_stmts, handler_step, nodes, nodes_of_all, nodes_of_block, nodes_of_branch, nodes_of_cell, nodes_of_handler, nodes_of_maybe, nodes_of_stmt, number_in, stmt_number_in, stmt_step}
use Rattle.py_ast.specs.Statement as t
use Rattle.py_ast.specs.Statement.{Block, Branches, Handlers, Statement, branch, empty, handler, no_branches, no_handlers, then}
use Rattle.py_ast.specs.Tree as tree
use Rattle.py_ast.specs.Tree.{Tree, Trees, more, none}
use Rattle.py_ast.specs.declared.expr.Expr.{Expr, roll-Expr}
use Rattle.py_ast.specs.declared.expr.Expr.TheOpen as e
use Rattle.py_ast.specs.declared.expr.Expr.TheOpen.{Expr-F}
use Rattle.py_ast.specs.declared.expr.Expr.TheFolds.{map-Expr, para-roll-Expr}
use Rattle.py_ast.specs.declared.expr.Expr.TheViews.{out-roll-Expr}
use Rattle.py_ast.specs.declared.stmt.Branch.{Branch, roll-Branch}
use Rattle.py_ast.specs.declared.stmt.Handler.{Handler, roll-Handler}
use Rattle.py_ast.specs.declared.stmt.Stmt.{Stmt, roll-Stmt}
use Rattle.py_ast.specs.declared.stmt.Stmt.TheOpen as s
use Rattle.py_ast.specs.declared.stmt.Stmt.TheOpen.{Branch-F, Handler-F, Stmt-F}
use Rattle.py_ast.specs.declared.stmt.Stmt.TheFolds.{para-roll-Branch, para-roll-Handler, para-roll-Stmt}
use Rattle.py_ast.specs.declared.stmt.Stmt.TheViews.{out-roll-Handler, out-roll-Stmt}
use Rattle.py_numbered.specs.Numbered.{block_from, branches_from, expr_from, exprs_from, handlers_from, maybe_from, numbered, stmt_from}
use Rattle.py_numbered.proofs.Runs.{Runs, in_row, joined}
use Rattle.py_numbered.proofs.SameStmt.{below_of}

-- ---- expressions

abbrev parts : List Expr → List Node
parts xs = from_parts (map (λ (y : Expr). (y, below y)) xs)

parts_are : (xs : List Expr) → parts xs ≡ nodes_of_all xs
parts_are [] = refl
parts_are (x ∷ xs) = ap (λ (z : List Node). nodes x ++ z) (parts_are xs)

-- a node before the nodes below it
node_runs : (x : Expr-F Expr) (m : ℕ) → Runs (number_in x + 1) (below_step (map-Expr Expr Part (λ (z : Expr). (z, below z)) x)) m
    → Runs (number_in x) (nodes (roll-Expr x)) m
node_runs x m r = (
  ap number_in (out-roll-Expr x),
  subst (λ ns. Runs (number_in x + 1) ns m) (sym (para-roll-Expr (List Node) below_step x)) r,
)

mutual
  expr_runs : (n : ℕ) (a : Tree) → Runs n (nodes (expr_from n a).0) (expr_from n a).1
  expr_runs n (tree.name x) = node_runs (e.Name n x) (n + 1) refl
  expr_runs n (tree.number i) = node_runs (e.Number n i) (n + 1) refl
  expr_runs n (tree.text x) = node_runs (e.Text n x) (n + 1) refl
  expr_runs n tree.nil = node_runs (e.Nil n) (n + 1) refl
  expr_runs n (tree.truth b) = node_runs (e.Truth n b) (n + 1) refl
  expr_runs n (tree.tuple ts) =
      let p = exprs_from (n + 1) ts in
      node_runs (e.Tuple n p.0) p.1 (exprs_runs (n + 1) ts)
  expr_runs n (tree.list ts) =
      let p = exprs_from (n + 1) ts in
      node_runs (e.List n p.0) p.1 (exprs_runs (n + 1) ts)
  expr_runs n (tree.dict ts) =
      let p = exprs_from (n + 1) ts in
      node_runs (e.Dict n p.0) p.1 (exprs_runs (n + 1) ts)
  expr_runs n (tree.lambda names ts a) =
      let p = exprs_from (n + 1) ts in
      let q = expr_from p.1 a in
      node_runs (e.Lambda n names p.0 q.0) q.1 (joined (n + 1) p.1 q.1 (parts p.0) (nodes q.0) (exprs_runs (n + 1) ts) (expr_runs p.1 a))
  expr_runs n (tree.choice a test b) =
      let p = expr_from (n + 1) a in
      let q = expr_from p.1 test in
      let u = expr_from q.1 b in
      node_runs (e.Choice n p.0 q.0 u.0) u.1 (joined (n + 1) p.1 u.1 (nodes p.0) (nodes q.0 ++ (nodes u.0)) (expr_runs (n + 1) a)
      (joined p.1 q.1 u.1 (nodes q.0) (nodes u.0) (expr_runs p.1 test) (expr_runs q.1 b)))
  expr_runs n (tree.and a b) =
      let p = expr_from (n + 1) a in
      let q = expr_from p.1 b in
      node_runs (e.And n p.0 q.0) q.1 (joined (n + 1) p.1 q.1 (nodes p.0) (nodes q.0) (expr_runs (n + 1) a) (expr_runs p.1 b))
  expr_runs n (tree.or a b) =
      let p = expr_from (n + 1) a in
      let q = expr_from p.1 b in
      node_runs (e.Or n p.0 q.0) q.1 (joined (n + 1) p.1 q.1 (nodes p.0) (nodes q.0) (expr_runs (n + 1) a) (expr_runs p.1 b))
  expr_runs n (tree.not a) =
      let p = expr_from (n + 1) a in
      node_runs (e.Not n p.0) p.1 (expr_runs (n + 1) a)
  expr_runs n (tree.compare ops ts) =
      let p = exprs_from (n + 1) ts in
      node_runs (e.Compare n ops p.0) p.1 (exprs_runs (n + 1) ts)
  expr_runs n (tree.binary a o b) =
      let p = expr_from (n + 1) a in
      let q = expr_from p.1 b in
      node_runs (e.Binary n p.0 o q.0) q.1 (joined (n + 1) p.1 q.1 (nodes p.0) (nodes q.0) (expr_runs (n + 1) a) (expr_runs p.1 b))
  expr_runs n (tree.sign o a) =
      let p = expr_from (n + 1) a in
      node_runs (e.Sign n o p.0) p.1 (expr_runs (n + 1) a)
  expr_runs n (tree.attr a name) =
      let p = expr_from (n + 1) a in
      node_runs (e.Attr n p.0 name) p.1 (expr_runs (n + 1) a)
  expr_runs n (tree.item a i) =
      let p = expr_from (n + 1) a in
      let q = expr_from p.1 i in
      node_runs (e.Item n p.0 q.0) q.1 (joined (n + 1) p.1 q.1 (nodes p.0) (nodes q.0) (expr_runs (n + 1) a) (expr_runs p.1 i))
  expr_runs n (tree.call f ts) =
      let p = expr_from (n + 1) f in
      let q = exprs_from p.1 ts in
      node_runs (e.Call n p.0 q.0) q.1 (joined (n + 1) p.1 q.1 (nodes p.0) (parts q.0) (expr_runs (n + 1) f) (exprs_runs p.1 ts))

  exprs_runs : (n : ℕ) (ts : Trees) → Runs n (parts (exprs_from n ts).0) (exprs_from n ts).1
  exprs_runs n none = refl
  exprs_runs n (more a ts) =
      let p = expr_from n a in
      let q = exprs_from p.1 ts in
      joined n p.1 q.1 (nodes p.0) (parts q.0) (expr_runs n a) (exprs_runs p.1 ts)

all_runs : (n : ℕ) (ts : Trees) → Runs n (nodes_of_all (exprs_from n ts).0) (exprs_from n ts).1
all_runs n ts = subst (λ ns. Runs n ns (exprs_from n ts).1) (parts_are (exprs_from n ts).0) (exprs_runs n ts)

maybe_runs : (n : ℕ) (a : Option Tree) → Runs n (nodes_of_maybe (maybe_from n a).0) (maybe_from n a).1
maybe_runs n None = refl
maybe_runs n (Some a) = expr_runs n a

-- ---- statements

abbrev stmts : List Stmt → List Node
stmts xs = from_stmts (map (λ (y : Stmt). (y, below_stmt y)) xs)

abbrev test_nodes : List Branch → List Node
test_nodes bs = from_branches (map (λ (y : Branch). (y, nodes_of_branch y)) bs)

abbrev clause_nodes : List Handler → List Node
clause_nodes hs = from_handlers (map (λ (y : Handler). (y, below_handler y)) hs)

stmts_are : (xs : List Stmt) → stmts xs ≡ nodes_of_block xs
stmts_are [] = refl
stmts_are (x ∷ xs) = ap (λ (z : List Node). nodes_of_stmt x ++ z) (stmts_are xs)

a_stmt_runs : (x : Stmt-F Stmt Branch Handler) (m : ℕ) → Runs (stmt_number_in x + 1) (below_of x) m
    → Runs (stmt_number_in x) (nodes_of_stmt (roll-Stmt x)) m
a_stmt_runs x m r = (
  ap stmt_number_in (out-roll-Stmt x),
  subst (λ ns. Runs (stmt_number_in x + 1) ns m) (sym (para-roll-Stmt (List Node) (List Node) (List Node) stmt_step branch_step handler_step x)) r,
)

branch_runs : (n : ℕ) (x : Branch-F Stmt Branch Handler) (m : ℕ) → Runs n (nodes x.test ++ stmts x.body) m
    → Runs n (nodes_of_branch (roll-Branch x)) m
branch_runs n x m r = subst (λ ns. Runs n ns m) (sym (para-roll-Branch (List Node) (List Node) (List Node) stmt_step branch_step handler_step x)) r

handler_runs : (x : Handler-F Stmt Branch Handler) (m : ℕ) → Runs (x.node + 1) (nodes_of_maybe x.class ++ stmts x.body) m
    → Runs x.node (nodes_of_handler (roll-Handler x)) m
handler_runs x m r = (
  ap (λ (z : Handler-F Stmt Branch Handler). z.node) (out-roll-Handler x),
  subst (λ ns. Runs (x.node + 1) ns m) (sym (para-roll-Handler (List Node) (List Node) (List Node) stmt_step branch_step handler_step x)) r,
)

mutual
  stmt_runs : (n : ℕ) (x : Statement) → Runs n (nodes_of_stmt (stmt_from n x).0) (stmt_from n x).1
  stmt_runs n (t.expression a) =
      let p = expr_from (n + 1) a in
      a_stmt_runs (s.Expr n p.0) p.1 (expr_runs (n + 1) a)
  stmt_runs n (t.assign ts a) =
      let p = exprs_from (n + 1) ts in
      let q = expr_from p.1 a in
      a_stmt_runs (s.Assign n p.0 q.0) q.1 (joined (n + 1) p.1 q.1 (nodes_of_all p.0) (nodes q.0) (all_runs (n + 1) ts) (expr_runs p.1 a))
  stmt_runs n (t.augment place o a) =
      let p = expr_from (n + 1) place in
      let q = expr_from p.1 a in
      a_stmt_runs (s.Augment n p.0 o q.0) q.1 (joined (n + 1) p.1 q.1 (nodes p.0) (nodes q.0) (expr_runs (n + 1) place) (expr_runs p.1 a))
  stmt_runs n t.pass = a_stmt_runs (s.Pass n) (n + 1) refl
  stmt_runs n t.break = a_stmt_runs (s.Break n) (n + 1) refl
  stmt_runs n t.continue = a_stmt_runs (s.Continue n) (n + 1) refl
  stmt_runs n (t.return a) =
      let p = maybe_from (n + 1) a in
      a_stmt_runs (s.Return n p.0) p.1 (maybe_runs (n + 1) a)
  stmt_runs n (t.raise a) =
      let p = maybe_from (n + 1) a in
      a_stmt_runs (s.Raise n p.0) p.1 (maybe_runs (n + 1) a)
  stmt_runs n (t.global names) = a_stmt_runs (s.Global n names) (n + 1) refl
  stmt_runs n (t.nonlocal names) = a_stmt_runs (s.Nonlocal n names) (n + 1) refl
  stmt_runs n (t.delete a) =
      let p = expr_from (n + 1) a in
      a_stmt_runs (s.Del n p.0) p.1 (expr_runs (n + 1) a)
  stmt_runs n (t.assert test a) =
      let p = expr_from (n + 1) test in
      let q = maybe_from p.1 a in
      a_stmt_runs (s.Assert n p.0 q.0) q.1 (joined (n + 1) p.1 q.1 (nodes p.0) (nodes_of_maybe q.0) (expr_runs (n + 1) test) (maybe_runs p.1 a))
  stmt_runs n (t.choose tests otherwise) =
      let p = branches_from (n + 1) tests in
      let q = block_from p.1 otherwise in
      a_stmt_runs (s.If n p.0 q.0) q.1 (joined (n + 1) p.1 q.1 (test_nodes p.0) (stmts q.0) (branches_runs (n + 1) tests) (block_runs p.1 otherwise))
  stmt_runs n (t.while test body otherwise) =
      let p = expr_from (n + 1) test in
      let q = block_from p.1 body in
      let u = block_from q.1 otherwise in
      a_stmt_runs (s.While n p.0 q.0 u.0) u.1 (joined (n + 1) p.1 u.1 (nodes p.0) (stmts q.0 ++ (stmts u.0)) (expr_runs (n + 1) test)
      (joined p.1 q.1 u.1 (stmts q.0) (stmts u.0) (block_runs p.1 body) (block_runs q.1 otherwise)))
  stmt_runs n (t.for target a body otherwise) =
      let p = expr_from (n + 1) target in
      let q = expr_from p.1 a in
      let u = block_from q.1 body in
      let v = block_from u.1 otherwise in
      a_stmt_runs (s.For n p.0 q.0 u.0 v.0) v.1 (joined (n + 1) p.1 v.1 (nodes p.0) (nodes q.0 ++ (stmts u.0 ++ (stmts v.0)))
      (expr_runs (n + 1) target) (joined p.1 q.1 v.1 (nodes q.0) (stmts u.0 ++ (stmts v.0)) (expr_runs p.1 a)
      (joined q.1 u.1 v.1 (stmts u.0) (stmts v.0) (block_runs q.1 body) (block_runs u.1 otherwise))))
  stmt_runs n (t.try body clauses otherwise finally) =
      let p = block_from (n + 1) body in
      let q = handlers_from p.1 clauses in
      let u = block_from q.1 otherwise in
      let v = block_from u.1 finally in
      a_stmt_runs (s.Try n p.0 q.0 u.0 v.0) v.1 (joined (n + 1) p.1 v.1 (stmts p.0) (clause_nodes q.0 ++ (stmts u.0 ++ (stmts v.0)))
      (block_runs (n + 1) body) (joined p.1 q.1 v.1 (clause_nodes q.0) (stmts u.0 ++ (stmts v.0)) (handlers_runs p.1 clauses)
      (joined q.1 u.1 v.1 (stmts u.0) (stmts v.0) (block_runs q.1 otherwise) (block_runs u.1 finally))))
  stmt_runs n (t.define name names ts body) =
      let p = exprs_from (n + 1) ts in
      let q = block_from p.1 body in
      a_stmt_runs (s.Def n name names p.0 q.0) q.1 (joined (n + 1) p.1 q.1 (nodes_of_all p.0) (stmts q.0) (all_runs (n + 1) ts) (block_runs p.1 body))
  stmt_runs n (t.class name base body) =
      let p = maybe_from (n + 1) base in
      let q = block_from p.1 body in
      a_stmt_runs (s.Class n name p.0 q.0) q.1 (joined (n + 1) p.1 q.1 (nodes_of_maybe p.0) (stmts q.0) (maybe_runs (n + 1) base)
      (block_runs p.1 body))

  block_runs : (n : ℕ) (b : Block) → Runs n (stmts (block_from n b).0) (block_from n b).1
  block_runs n empty = refl
  block_runs n (then x rest) =
      let p = stmt_from n x in
      let q = block_from p.1 rest in
      joined n p.1 q.1 (nodes_of_stmt p.0) (stmts q.0) (stmt_runs n x) (block_runs p.1 rest)

  branches_runs : (n : ℕ) (bs : Branches) → Runs n (test_nodes (branches_from n bs).0) (branches_from n bs).1
  branches_runs n no_branches = refl
  branches_runs n (branch test body rest) =
      let p = expr_from n test in
      let q = block_from p.1 body in
      let u = branches_from q.1 rest in
      let here : Branch-F Stmt Branch Handler = record { test = p.0; body = q.0 } in
      joined n q.1 u.1 (nodes_of_branch (roll-Branch here)) (test_nodes u.0)
      (branch_runs n here q.1 (joined n p.1 q.1 (nodes p.0) (stmts q.0) (expr_runs n test) (block_runs p.1 body)))
      (branches_runs q.1 rest)

  handlers_runs : (n : ℕ) (hs : Handlers) → Runs n (clause_nodes (handlers_from n hs).0) (handlers_from n hs).1
  handlers_runs n no_handlers = refl
  handlers_runs n (handler class name body rest) =
      let p = maybe_from (n + 1) class in
      let q = block_from p.1 body in
      let u = handlers_from q.1 rest in
      let here : Handler-F Stmt Branch Handler = record { node = n; class = p.0; name = name; body = q.0 } in
      joined n q.1 u.1 (nodes_of_handler (roll-Handler here)) (clause_nodes u.0)
      (handler_runs here q.1 (joined (n + 1) p.1 q.1 (nodes_of_maybe p.0) (stmts q.0) (maybe_runs (n + 1) class) (block_runs p.1 body)))
      (handlers_runs q.1 rest)

-- ---- cells

pub cell_in_order : (b : Block) → length (nodes_of_cell (numbered b)) < 2 ^ 32 → IsNumbered (numbered b)
cell_in_order b few =
    let all = block_from 1 b in
    record {
      in_order = in_row 1 (nodes_of_block all.0) all.1 (subst (λ ns. Runs 1 ns all.1) (stmts_are all.0) (block_runs 1 b));
      few = few;
    }
