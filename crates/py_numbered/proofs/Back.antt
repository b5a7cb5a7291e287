-- The plain tree of a numbered tree is the tree itself.
use Rattle.std.proofs.Common.{◌≡◌, ℕ, ◌+◌, map, Option, Some, None, option_map, refl, ap, ◌∙◌}
use Rattle.py_ast.specs.Statement as t
use Rattle.py_ast.specs.Statement.{Block, Branches, Handlers, Statement, block_of, branch, branches_of, empty, handler, handlers_of, no_branches, no_handlers, then, view_branch_step, view_cell, view_handler_step, view_stmt, view_stmt_step}
use Rattle.py_ast.specs.View.{view, view_step, views}
use Rattle.py_ast.specs.Tree as tree
use Rattle.py_ast.specs.Tree.{Tree, Trees, more, none}
use Rattle.py_ast.specs.declared.expr.Expr.TheOpen as e
use Rattle.py_ast.specs.declared.expr.Expr.TheFolds.{fold-roll-Expr}
use Rattle.py_ast.specs.declared.stmt.Branch.{Branch, roll-Branch}
use Rattle.py_ast.specs.declared.stmt.Handler.{Handler, roll-Handler}
use Rattle.py_ast.specs.declared.stmt.Stmt.{Stmt, roll-Stmt}
use Rattle.py_ast.specs.declared.stmt.Stmt.TheOpen as s
use Rattle.py_ast.specs.declared.stmt.Stmt.TheOpen.{Branch-F, Handler-F, Stmt-F}
use Rattle.py_ast.specs.declared.stmt.Stmt.TheFolds.{fold-roll-Branch, fold-roll-Handler, fold-roll-Stmt}
use Rattle.py_numbered.specs.Numbered.{block_from, branches_from, expr_from, exprs_from, handlers_from, maybe_from, numbered, stmt_from}
use Rattle.py_numbered.proofs.SameStmt.{BranchParts, HandlerParts, seen, view_branch, view_handler}

-- ---- expressions

mutual
  tree_back : (n : ℕ) (a : Tree) → view (expr_from n a).0 ≡ a
  tree_back n (tree.name x) = fold-roll-Expr Tree view_step (e.Name n x)
  tree_back n (tree.number i) = fold-roll-Expr Tree view_step (e.Number n i)
  tree_back n (tree.text x) = fold-roll-Expr Tree view_step (e.Text n x)
  tree_back n tree.nil = fold-roll-Expr Tree view_step (e.Nil n)
  tree_back n (tree.truth b) = fold-roll-Expr Tree view_step (e.Truth n b)
  tree_back n (tree.tuple ts) =
      let p = exprs_from (n + 1) ts in
      fold-roll-Expr Tree view_step (e.Tuple n p.0) ∙ rw (trees_back (n + 1) ts)
  tree_back n (tree.list ts) =
      let p = exprs_from (n + 1) ts in
      fold-roll-Expr Tree view_step (e.List n p.0) ∙ rw (trees_back (n + 1) ts)
  tree_back n (tree.dict ts) =
      let p = exprs_from (n + 1) ts in
      fold-roll-Expr Tree view_step (e.Dict n p.0) ∙ rw (trees_back (n + 1) ts)
  tree_back n (tree.lambda names ts a) =
      let p = exprs_from (n + 1) ts in
      let q = expr_from p.1 a in
      fold-roll-Expr Tree view_step (e.Lambda n names p.0 q.0) ∙ rw (trees_back (n + 1) ts, tree_back p.1 a)
  tree_back n (tree.choice a test b) =
      let p = expr_from (n + 1) a in
      let q = expr_from p.1 test in
      let u = expr_from q.1 b in
      fold-roll-Expr Tree view_step (e.Choice n p.0 q.0 u.0) ∙ rw (tree_back (n + 1) a, tree_back p.1 test, tree_back q.1 b)
  tree_back n (tree.and a b) =
      let p = expr_from (n + 1) a in
      let q = expr_from p.1 b in
      fold-roll-Expr Tree view_step (e.And n p.0 q.0) ∙ rw (tree_back (n + 1) a, tree_back p.1 b)
  tree_back n (tree.or a b) =
      let p = expr_from (n + 1) a in
      let q = expr_from p.1 b in
      fold-roll-Expr Tree view_step (e.Or n p.0 q.0) ∙ rw (tree_back (n + 1) a, tree_back p.1 b)
  tree_back n (tree.not a) =
      let p = expr_from (n + 1) a in
      fold-roll-Expr Tree view_step (e.Not n p.0) ∙ rw (tree_back (n + 1) a)
  tree_back n (tree.compare ops ts) =
      let p = exprs_from (n + 1) ts in
      fold-roll-Expr Tree view_step (e.Compare n ops p.0) ∙ rw (trees_back (n + 1) ts)
  tree_back n (tree.binary a o b) =
      let p = expr_from (n + 1) a in
      let q = expr_from p.1 b in
      fold-roll-Expr Tree view_step (e.Binary n p.0 o q.0) ∙ rw (tree_back (n + 1) a, tree_back p.1 b)
  tree_back n (tree.sign o a) =
      let p = expr_from (n + 1) a in
      fold-roll-Expr Tree view_step (e.Sign n o p.0) ∙ rw (tree_back (n + 1) a)
  tree_back n (tree.attr a name) =
      let p = expr_from (n + 1) a in
      fold-roll-Expr Tree view_step (e.Attr n p.0 name) ∙ rw (tree_back (n + 1) a)
  tree_back n (tree.item a i) =
      let p = expr_from (n + 1) a in
      let q = expr_from p.1 i in
      fold-roll-Expr Tree view_step (e.Item n p.0 q.0) ∙ rw (tree_back (n + 1) a, tree_back p.1 i)
  tree_back n (tree.call f ts) =
      let p = expr_from (n + 1) f in
      let q = exprs_from p.1 ts in
      fold-roll-Expr Tree view_step (e.Call n p.0 q.0) ∙ rw (tree_back (n + 1) f, trees_back p.1 ts)

  trees_back : (n : ℕ) (ts : Trees) → views (exprs_from n ts).0 ≡ ts
  trees_back n none = refl
  trees_back n (more a ts) =
      let p = expr_from n a in
      rw (tree_back n a, trees_back p.1 ts)

maybe_back : (n : ℕ) (a : Option Tree) → option_map view (maybe_from n a).0 ≡ a
maybe_back n None = refl
maybe_back n (Some a) = ap (λ (z : Tree). Some z) (tree_back n a)

-- ---- statements

stmt_seen : (x : Stmt-F Stmt Branch Handler) → view_stmt (roll-Stmt x) ≡ seen x
stmt_seen x = fold-roll-Stmt Statement BranchParts HandlerParts view_stmt_step view_branch_step view_handler_step x

branch_seen : (x : Branch-F Stmt Branch Handler) → view_branch (roll-Branch x) ≡ (view x.test, block_of (map view_stmt x.body))
branch_seen x = fold-roll-Branch Statement BranchParts HandlerParts view_stmt_step view_branch_step view_handler_step x

handler_seen : (x : Handler-F Stmt Branch Handler)
    → view_handler (roll-Handler x) ≡ (option_map view x.class, x.name, block_of (map view_stmt x.body))
handler_seen x = fold-roll-Handler Statement BranchParts HandlerParts view_stmt_step view_branch_step view_handler_step x

mutual
  stmt_back : (n : ℕ) (x : Statement) → view_stmt (stmt_from n x).0 ≡ x
  stmt_back n (t.expression a) =
      let p = expr_from (n + 1) a in
      stmt_seen (s.Expr n p.0) ∙ rw (tree_back (n + 1) a)
  stmt_back n (t.assign ts a) =
      let p = exprs_from (n + 1) ts in
      let q = expr_from p.1 a in
      stmt_seen (s.Assign n p.0 q.0) ∙ rw (trees_back (n + 1) ts, tree_back p.1 a)
  stmt_back n (t.augment place o a) =
      let p = expr_from (n + 1) place in
      let q = expr_from p.1 a in
      stmt_seen (s.Augment n p.0 o q.0) ∙ rw (tree_back (n + 1) place, tree_back p.1 a)
  stmt_back n t.pass = stmt_seen (s.Pass n)
  stmt_back n t.break = stmt_seen (s.Break n)
  stmt_back n t.continue = stmt_seen (s.Continue n)
  stmt_back n (t.return a) =
      let p = maybe_from (n + 1) a in
      stmt_seen (s.Return n p.0) ∙ rw (maybe_back (n + 1) a)
  stmt_back n (t.raise a) =
      let p = maybe_from (n + 1) a in
      stmt_seen (s.Raise n p.0) ∙ rw (maybe_back (n + 1) a)
  stmt_back n (t.global names) = stmt_seen (s.Global n names)
  stmt_back n (t.nonlocal names) = stmt_seen (s.Nonlocal n names)
  stmt_back n (t.delete a) =
      let p = expr_from (n + 1) a in
      stmt_seen (s.Del n p.0) ∙ rw (tree_back (n + 1) a)
  stmt_back n (t.assert test a) =
      let p = expr_from (n + 1) test in
      let q = maybe_from p.1 a in
      stmt_seen (s.Assert n p.0 q.0) ∙ rw (tree_back (n + 1) test, maybe_back p.1 a)
  stmt_back n (t.choose tests otherwise) =
      let p = branches_from (n + 1) tests in
      let q = block_from p.1 otherwise in
      stmt_seen (s.If n p.0 q.0) ∙ rw (branches_back (n + 1) tests, block_back p.1 otherwise)
  stmt_back n (t.while test body otherwise) =
      let p = expr_from (n + 1) test in
      let q = block_from p.1 body in
      let u = block_from q.1 otherwise in
      stmt_seen (s.While n p.0 q.0 u.0) ∙ rw (tree_back (n + 1) test, block_back p.1 body, block_back q.1 otherwise)
  stmt_back n (t.for target a body otherwise) =
      let p = expr_from (n + 1) target in
      let q = expr_from p.1 a in
      let u = block_from q.1 body in
      let v = block_from u.1 otherwise in
      stmt_seen (s.For n p.0 q.0 u.0 v.0) ∙ rw (tree_back (n + 1) target, tree_back p.1 a, block_back q.1 body, block_back u.1 otherwise)
  stmt_back n (t.try body clauses otherwise finally) =
      let p = block_from (n + 1) body in
      let q = handlers_from p.1 clauses in
      let u = block_from q.1 otherwise in
      let v = block_from u.1 finally in
      stmt_seen (s.Try n p.0 q.0 u.0 v.0) ∙ rw (block_back (n + 1) body, handlers_back p.1 clauses, block_back q.1 otherwise, block_back u.1 finally)
  stmt_back n (t.define name names ts body) =
      let p = exprs_from (n + 1) ts in
      let q = block_from p.1 body in
      stmt_seen (s.Def n name names p.0 q.0) ∙ rw (trees_back (n + 1) ts, block_back p.1 body)
  stmt_back n (t.class name base body) =
      let p = maybe_from (n + 1) base in
      let q = block_from p.1 body in
      stmt_seen (s.Class n name p.0 q.0) ∙ rw (maybe_back (n + 1) base, block_back p.1 body)

  block_back : (n : ℕ) (b : Block) → block_of (map view_stmt (block_from n b).0) ≡ b
  block_back n empty = refl
  block_back n (then x rest) =
      let p = stmt_from n x in
      rw (stmt_back n x, block_back p.1 rest)

  branches_back : (n : ℕ) (bs : Branches) → branches_of (map view_branch (branches_from n bs).0) ≡ bs
  branches_back n no_branches = refl
  branches_back n (branch test body rest) =
      let p = expr_from n test in
      let q = block_from p.1 body in
      ap (λ (z : BranchParts). branch z.0 z.1 (branches_of (map view_branch (branches_from q.1 rest).0)))
      (branch_seen (record { test = p.0; body = q.0 }))
      ∙ rw (tree_back n test, block_back p.1 body, branches_back q.1 rest)

  handlers_back : (n : ℕ) (hs : Handlers) → handlers_of (map view_handler (handlers_from n hs).0) ≡ hs
  handlers_back n no_handlers = refl
  handlers_back n (handler class name body rest) =
      let p = maybe_from (n + 1) class in
      let q = block_from p.1 body in
      ap (λ (z : HandlerParts). handler z.0 z.1 z.2 (handlers_of (map view_handler (handlers_from q.1 rest).0)))
      (handler_seen (record { node = n; class = p.0; name = name; body = q.0 }))
      ∙ rw (maybe_back (n + 1) class, block_back p.1 body, handlers_back q.1 rest)

pub cell_back : (b : Block) → view_cell (numbered b) ≡ b
cell_back b = block_back 1 b
