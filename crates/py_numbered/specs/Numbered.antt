-- The cell of a plain tree: its nodes are numbered from 1 in the order in which they begin in the text, a parent before its parts.
-- Each function numbers the nodes of a tree from a number on, and answers the number behind them as well.
use Rattle.std.specs.Prelude.{ℕ, ◌+◌, List, [], ◌∷◌, Option, Some, None}
use Rattle.py_ast.specs.Tree as tree
use Rattle.py_ast.specs.Tree.{Tree, Trees, none, more}
use Rattle.py_ast.specs.Statement as t
use Rattle.py_ast.specs.Statement.{Statement, Block, empty, then, Branches, no_branches, branch, Handlers, no_handlers, handler}
use Rattle.py_ast.specs.declared.expr.Expr.{Expr, roll-Expr}
use Rattle.py_ast.specs.declared.expr.Expr.TheOpen as e
use Rattle.py_ast.specs.declared.expr.Expr.TheOpen.{Expr-F}
use Rattle.py_ast.specs.declared.stmt.Stmt.{Stmt, roll-Stmt}
use Rattle.py_ast.specs.declared.stmt.Branch.{Branch, roll-Branch}
use Rattle.py_ast.specs.declared.stmt.Handler.{Handler, roll-Handler}
use Rattle.py_ast.specs.declared.stmt.Stmt.TheOpen as s
use Rattle.py_ast.specs.declared.stmt.Stmt.TheOpen.{Stmt-F}
use Rattle.py_ast.specs.declared.cell.Cell.{Cell}

-- what is made of a part, where the parts after it are numbered from the number behind it
abbrev pub after : {A B : Type 0} → A × ℕ → (A → ℕ → B) → B
after part make = make part.0 part.1

-- ---- expressions

-- an expression of one layer, and the number behind it
abbrev pub made_expr : Expr-F Expr → ℕ → Expr × ℕ
made_expr x k = (roll-Expr x, k)

abbrev mutual
  pub expr_from : ℕ → Tree → Expr × ℕ
  expr_from n (tree.name x) = made_expr (e.Name n x) (n + 1)
  expr_from n (tree.number i) = made_expr (e.Number n i) (n + 1)
  expr_from n (tree.text x) = made_expr (e.Text n x) (n + 1)
  expr_from n tree.nil = made_expr (e.Nil n) (n + 1)
  expr_from n (tree.truth b) = made_expr (e.Truth n b) (n + 1)
  expr_from n (tree.tuple ts) = after (exprs_from (n + 1) ts) (λ xs k. made_expr (e.Tuple n xs) k)
  expr_from n (tree.list ts) = after (exprs_from (n + 1) ts) (λ xs k. made_expr (e.List n xs) k)
  expr_from n (tree.dict ts) = after (exprs_from (n + 1) ts) (λ xs k. made_expr (e.Dict n xs) k)
  expr_from n (tree.lambda names ts a) =
      after (exprs_from (n + 1) ts) (λ xs k.
      after (expr_from k a) (λ x l. made_expr (e.Lambda n names xs x) l))
  expr_from n (tree.choice a test b) =
      after (expr_from (n + 1) a) (λ x k.
      after (expr_from k test) (λ y l.
      after (expr_from l b) (λ z m. made_expr (e.Choice n x y z) m)))
  expr_from n (tree.and a b) =
      after (expr_from (n + 1) a) (λ x k.
      after (expr_from k b) (λ y l. made_expr (e.And n x y) l))
  expr_from n (tree.or a b) =
      after (expr_from (n + 1) a) (λ x k.
      after (expr_from k b) (λ y l. made_expr (e.Or n x y) l))
  expr_from n (tree.not a) = after (expr_from (n + 1) a) (λ x k. made_expr (e.Not n x) k)
  expr_from n (tree.compare ops ts) = after (exprs_from (n + 1) ts) (λ xs k. made_expr (e.Compare n ops xs) k)
  expr_from n (tree.binary a o b) =
      after (expr_from (n + 1) a) (λ x k.
      after (expr_from k b) (λ y l. made_expr (e.Binary n x o y) l))
  expr_from n (tree.sign o a) = after (expr_from (n + 1) a) (λ x k. made_expr (e.Sign n o x) k)
  expr_from n (tree.attr a name) = after (expr_from (n + 1) a) (λ x k. made_expr (e.Attr n x name) k)
  expr_from n (tree.item a i) =
      after (expr_from (n + 1) a) (λ x k.
      after (expr_from k i) (λ y l. made_expr (e.Item n x y) l))
  expr_from n (tree.call f ts) =
      after (expr_from (n + 1) f) (λ x k.
      after (exprs_from k ts) (λ xs l. made_expr (e.Call n x xs) l))

  pub exprs_from : ℕ → Trees → List Expr × ℕ
  exprs_from n none = ([], n)
  exprs_from n (more a ts) = after (expr_from n a) (λ x k. after (exprs_from k ts) (λ xs l. (x ∷ xs, l)))

abbrev pub maybe_from : ℕ → Option Tree → Option Expr × ℕ
maybe_from n None = (None, n)
maybe_from n (Some a) = after (expr_from n a) (λ x k. (Some x, k))

-- ---- statements

-- a statement of one layer, and the number behind it
abbrev pub made_stmt : Stmt-F Stmt Branch Handler → ℕ → Stmt × ℕ
made_stmt x k = (roll-Stmt x, k)

abbrev mutual
  pub stmt_from : ℕ → Statement → Stmt × ℕ
  stmt_from n (t.expression a) = after (expr_from (n + 1) a) (λ x k. made_stmt (s.Expr n x) k)
  stmt_from n (t.assign ts a) =
      after (exprs_from (n + 1) ts) (λ xs k.
      after (expr_from k a) (λ x l. made_stmt (s.Assign n xs x) l))
  stmt_from n (t.augment place o a) =
      after (expr_from (n + 1) place) (λ x k.
      after (expr_from k a) (λ y l. made_stmt (s.Augment n x o y) l))
  stmt_from n t.pass = made_stmt (s.Pass n) (n + 1)
  stmt_from n t.break = made_stmt (s.Break n) (n + 1)
  stmt_from n t.continue = made_stmt (s.Continue n) (n + 1)
  stmt_from n (t.return a) = after (maybe_from (n + 1) a) (λ x k. made_stmt (s.Return n x) k)
  stmt_from n (t.raise a) = after (maybe_from (n + 1) a) (λ x k. made_stmt (s.Raise n x) k)
  stmt_from n (t.global names) = made_stmt (s.Global n names) (n + 1)
  stmt_from n (t.nonlocal names) = made_stmt (s.Nonlocal n names) (n + 1)
  stmt_from n (t.delete a) = after (expr_from (n + 1) a) (λ x k. made_stmt (s.Del n x) k)
  stmt_from n (t.assert test a) =
      after (expr_from (n + 1) test) (λ x k.
      after (maybe_from k a) (λ y l. made_stmt (s.Assert n x y) l))
  stmt_from n (t.choose tests otherwise) =
      after (branches_from (n + 1) tests) (λ bs k.
      after (block_from k otherwise) (λ o l. made_stmt (s.If n bs o) l))
  stmt_from n (t.while test body otherwise) =
      after (expr_from (n + 1) test) (λ x k.
      after (block_from k body) (λ b l.
      after (block_from l otherwise) (λ o m. made_stmt (s.While n x b o) m)))
  stmt_from n (t.for target a body otherwise) =
      after (expr_from (n + 1) target) (λ x k.
      after (expr_from k a) (λ y l.
      after (block_from l body) (λ b m.
      after (block_from m otherwise) (λ o q. made_stmt (s.For n x y b o) q))))
  stmt_from n (t.try body clauses otherwise finally) =
      after (block_from (n + 1) body) (λ b k.
      after (handlers_from k clauses) (λ hs l.
      after (block_from l otherwise) (λ o m.
      after (block_from m finally) (λ f q. made_stmt (s.Try n b hs o f) q))))
  stmt_from n (t.define name names ts body) =
      after (exprs_from (n + 1) ts) (λ xs k.
      after (block_from k body) (λ b l. made_stmt (s.Def n name names xs b) l))
  stmt_from n (t.class name base body) =
      after (maybe_from (n + 1) base) (λ x k.
      after (block_from k body) (λ b l. made_stmt (s.Class n name x b) l))

  pub block_from : ℕ → Block → List Stmt × ℕ
  block_from n empty = ([], n)
  block_from n (then x rest) = after (stmt_from n x) (λ y k. after (block_from k rest) (λ ys l. (y ∷ ys, l)))

  -- a test with its block is no node
  pub branches_from : ℕ → Branches → List Branch × ℕ
  branches_from n no_branches = ([], n)
  branches_from n (branch test body rest) =
      after (expr_from n test) (λ x k.
      after (block_from k body) (λ b l.
      after (branches_from l rest) (λ bs m. (roll-Branch (record { test = x; body = b }) ∷ bs, m))))

  pub handlers_from : ℕ → Handlers → List Handler × ℕ
  handlers_from n no_handlers = ([], n)
  handlers_from n (handler class name body rest) =
      after (maybe_from (n + 1) class) (λ x k.
      after (block_from k body) (λ b l.
      after (handlers_from l rest) (λ hs m. (roll-Handler (record { node = n; class = x; name = name; body = b }) ∷ hs, m))))

-- ---- cells

-- the cell with this plain tree whose nodes are numbered
abbrev pub numbered : Block → Cell
numbered b = record { statements = (block_from 1 b).0 }
