-- Codes of the plain trees, by which proofs tell them apart: each plain tree is what one of the program's own trees stands for, whose nodes
-- all have the number 0.
use Rattle.std.specs.Prelude.{◌≡◌, ℕ, List, [], ◌∷◌, Option, Some, None, option_map, map}
use Rattle.std.specs.Coded.{Coded, code_by, coded_list}
use mathlib.Core.Path.{refl, ap, ◌∙◌}
use Rattle.py_ast.specs.Tree as t
use Rattle.py_ast.specs.Tree.{Tree, Trees}
use Rattle.py_ast.specs.View.{view, views, view_step}
use Rattle.py_ast.specs.Statement as p
use Rattle.py_ast.specs.Statement.{Statement, Block, Branches, Handlers, block_of, branches_of, handlers_of, view_stmt, view_stmt_step, view_branch_step, view_handler_step}
use Rattle.py_ast.specs.declared.expr.Expr.{Expr, roll-Expr}
use Rattle.py_ast.specs.declared.expr.Expr.TheOpen as e
use Rattle.py_ast.specs.declared.expr.Expr.TheFolds.{fold-roll-Expr, map-Expr}
use Rattle.py_ast.specs.contracts.expr.Expr as coded_expr
use Rattle.py_ast.specs.declared.stmt.Stmt.{Stmt, roll-Stmt}
use Rattle.py_ast.specs.declared.stmt.Branch.{Branch, roll-Branch}
use Rattle.py_ast.specs.declared.stmt.Handler.{Handler, roll-Handler}
use Rattle.py_ast.specs.declared.stmt.Stmt.TheOpen as s
use Rattle.py_ast.specs.declared.stmt.Stmt.TheOpen.{Stmt-F, Branch-F, Handler-F}
use Rattle.py_ast.specs.declared.stmt.Stmt.TheFolds.{map-Stmt, map-Branch, map-Handler, fold-Branch, fold-Handler, fold-roll-Stmt, fold-roll-Branch, fold-roll-Handler}
use Rattle.py_ast.specs.contracts.stmt.Stmt as coded_stmt

-- ---- expressions

abbrev mutual
  pub made : Tree → Expr
  made (t.name x) = roll-Expr (e.Name 0 x)
  made (t.number n) = roll-Expr (e.Number 0 n)
  made (t.text x) = roll-Expr (e.Text 0 x)
  made t.nil = roll-Expr (e.Nil 0)
  made (t.truth b) = roll-Expr (e.Truth 0 b)
  made (t.tuple xs) = roll-Expr (e.Tuple 0 (made_all xs))
  made (t.list xs) = roll-Expr (e.List 0 (made_all xs))
  made (t.dict xs) = roll-Expr (e.Dict 0 (made_all xs))
  made (t.lambda names defaults body) = roll-Expr (e.Lambda 0 names (made_all defaults) (made body))
  made (t.choice a test b) = roll-Expr (e.Choice 0 (made a) (made test) (made b))
  made (t.and a b) = roll-Expr (e.And 0 (made a) (made b))
  made (t.or a b) = roll-Expr (e.Or 0 (made a) (made b))
  made (t.not a) = roll-Expr (e.Not 0 (made a))
  made (t.compare ops xs) = roll-Expr (e.Compare 0 ops (made_all xs))
  made (t.binary a o b) = roll-Expr (e.Binary 0 (made a) o (made b))
  made (t.sign o a) = roll-Expr (e.Sign 0 o (made a))
  made (t.attr a x) = roll-Expr (e.Attr 0 (made a) x)
  made (t.item a b) = roll-Expr (e.Item 0 (made a) (made b))
  made (t.call f xs) = roll-Expr (e.Call 0 (made f) (made_all xs))

  pub made_all : Trees → List Expr
  made_all t.none = []
  made_all (t.more x xs) = made x ∷ made_all xs

abbrev seen : (f : e.Expr-F Expr) → view (roll-Expr f) ≡ view_step (map-Expr Expr Tree view f)
seen f = fold-roll-Expr Tree view_step f

mutual
  pub seen_again : (x : Tree) → view (made x) ≡ x
  seen_again (t.name x) = seen (e.Name 0 x)
  seen_again (t.number n) = seen (e.Number 0 n)
  seen_again (t.text x) = seen (e.Text 0 x)
  seen_again t.nil = seen (e.Nil 0)
  seen_again (t.truth b) = seen (e.Truth 0 b)
  seen_again (t.tuple xs) = seen (e.Tuple 0 (made_all xs)) ∙ ap t.tuple (all_seen_again xs)
  seen_again (t.list xs) = seen (e.List 0 (made_all xs)) ∙ ap t.list (all_seen_again xs)
  seen_again (t.dict xs) = seen (e.Dict 0 (made_all xs)) ∙ ap t.dict (all_seen_again xs)
  seen_again (t.lambda names defaults body) =
      seen (e.Lambda 0 names (made_all defaults) (made body)) ∙ (λ i. t.lambda names (all_seen_again defaults i) (seen_again body i))
  seen_again (t.choice a test b) =
      seen (e.Choice 0 (made a) (made test) (made b)) ∙ (λ i. t.choice (seen_again a i) (seen_again test i) (seen_again b i))
  seen_again (t.and a b) = seen (e.And 0 (made a) (made b)) ∙ (λ i. t.and (seen_again a i) (seen_again b i))
  seen_again (t.or a b) = seen (e.Or 0 (made a) (made b)) ∙ (λ i. t.or (seen_again a i) (seen_again b i))
  seen_again (t.not a) = seen (e.Not 0 (made a)) ∙ ap t.not (seen_again a)
  seen_again (t.compare ops xs) = seen (e.Compare 0 ops (made_all xs)) ∙ ap (t.compare ops) (all_seen_again xs)
  seen_again (t.binary a o b) = seen (e.Binary 0 (made a) o (made b)) ∙ (λ i. t.binary (seen_again a i) o (seen_again b i))
  seen_again (t.sign o a) = seen (e.Sign 0 o (made a)) ∙ ap (t.sign o) (seen_again a)
  seen_again (t.attr a x) = seen (e.Attr 0 (made a) x) ∙ (λ i. t.attr (seen_again a i) x)
  seen_again (t.item a b) = seen (e.Item 0 (made a) (made b)) ∙ (λ i. t.item (seen_again a i) (seen_again b i))
  seen_again (t.call f xs) = seen (e.Call 0 (made f) (made_all xs)) ∙ (λ i. t.call (seen_again f i) (all_seen_again xs i))

  pub all_seen_again : (xs : Trees) → views (made_all xs) ≡ xs
  all_seen_again t.none = refl
  all_seen_again (t.more x xs) = λ i. t.more (seen_again x i) (all_seen_again xs i)

pub maybe_seen_again : (x : Option Tree) → option_map view (option_map made x) ≡ x
maybe_seen_again None = refl
maybe_seen_again (Some x) = ap Some (seen_again x)

abbrev pub tree_code : Coded Tree
tree_code = code_by Expr coded_expr.the_row.coded made view seen_again

abbrev pub trees_code : Coded Trees
trees_code = code_by (List Expr) (coded_list coded_expr.the_row.coded) made_all views all_seen_again

-- ---- statements

abbrev BranchParts : Type 0
BranchParts = Tree × Block

abbrev HandlerParts : Type 0
HandlerParts = Option Tree × Option (List ℕ) × Block

abbrev view_branch : Branch → BranchParts
view_branch = fold-Branch Statement BranchParts HandlerParts view_stmt_step view_branch_step view_handler_step

abbrev view_handler : Handler → HandlerParts
view_handler = fold-Handler Statement BranchParts HandlerParts view_stmt_step view_branch_step view_handler_step

abbrev mutual
  pub made_stmt : Statement → Stmt
  made_stmt (p.expression a) = roll-Stmt (s.Expr 0 (made a))
  made_stmt (p.assign ts a) = roll-Stmt (s.Assign 0 (made_all ts) (made a))
  made_stmt (p.augment q o a) = roll-Stmt (s.Augment 0 (made q) o (made a))
  made_stmt p.pass = roll-Stmt (s.Pass 0)
  made_stmt p.break = roll-Stmt (s.Break 0)
  made_stmt p.continue = roll-Stmt (s.Continue 0)
  made_stmt (p.return a) = roll-Stmt (s.Return 0 (option_map made a))
  made_stmt (p.raise a) = roll-Stmt (s.Raise 0 (option_map made a))
  made_stmt (p.global names) = roll-Stmt (s.Global 0 names)
  made_stmt (p.nonlocal names) = roll-Stmt (s.Nonlocal 0 names)
  made_stmt (p.delete a) = roll-Stmt (s.Del 0 (made a))
  made_stmt (p.assert a m) = roll-Stmt (s.Assert 0 (made a) (option_map made m))
  made_stmt (p.choose bs b) = roll-Stmt (s.If 0 (made_branches bs) (made_block b))
  made_stmt (p.while a b c) = roll-Stmt (s.While 0 (made a) (made_block b) (made_block c))
  made_stmt (p.for q a b c) = roll-Stmt (s.For 0 (made q) (made a) (made_block b) (made_block c))
  made_stmt (p.try b hs c d) = roll-Stmt (s.Try 0 (made_block b) (made_handlers hs) (made_block c) (made_block d))
  made_stmt (p.define x names ds b) = roll-Stmt (s.Def 0 x names (made_all ds) (made_block b))
  made_stmt (p.class x base b) = roll-Stmt (s.Class 0 x (option_map made base) (made_block b))

  pub made_block : Block → List Stmt
  made_block p.empty = []
  made_block (p.then x b) = made_stmt x ∷ made_block b

  pub made_branches : Branches → List Branch
  made_branches p.no_branches = []
  made_branches (p.branch a b bs) = roll-Branch (record { test = made a; body = made_block b }) ∷ made_branches bs

  pub made_handlers : Handlers → List Handler
  made_handlers p.no_handlers = []
  made_handlers (p.handler a x b hs) =
      roll-Handler (record { node = 0; class = option_map made a; name = x; body = made_block b }) ∷ made_handlers hs

stmt_seen : (f : Stmt-F Stmt Branch Handler) → view_stmt (roll-Stmt f) ≡ view_stmt_step (map-Stmt Stmt Branch Handler Statement BranchParts HandlerParts view_stmt view_branch view_handler f)
stmt_seen f = fold-roll-Stmt Statement BranchParts HandlerParts view_stmt_step view_branch_step view_handler_step f

branch_seen : (f : Branch-F Stmt Branch Handler) → view_branch (roll-Branch f) ≡ view_branch_step (map-Branch Stmt Branch Handler Statement BranchParts HandlerParts view_stmt view_branch view_handler f)
branch_seen f = fold-roll-Branch Statement BranchParts HandlerParts view_stmt_step view_branch_step view_handler_step f

handler_seen : (f : Handler-F Stmt Branch Handler) → view_handler (roll-Handler f) ≡ view_handler_step (map-Handler Stmt Branch Handler Statement BranchParts HandlerParts view_stmt view_branch view_handler f)
handler_seen f = fold-roll-Handler Statement BranchParts HandlerParts view_stmt_step view_branch_step view_handler_step f

mutual
  pub stmt_again : (x : Statement) → view_stmt (made_stmt x) ≡ x
  stmt_again (p.expression a) = stmt_seen (s.Expr 0 (made a)) ∙ ap p.expression (seen_again a)
  stmt_again (p.assign ts a) = stmt_seen (s.Assign 0 (made_all ts) (made a)) ∙ (λ i. p.assign (all_seen_again ts i) (seen_again a i))
  stmt_again (p.augment q o a) = stmt_seen (s.Augment 0 (made q) o (made a)) ∙ (λ i. p.augment (seen_again q i) o (seen_again a i))
  stmt_again p.pass = stmt_seen (s.Pass 0)
  stmt_again p.break = stmt_seen (s.Break 0)
  stmt_again p.continue = stmt_seen (s.Continue 0)
  stmt_again (p.return a) = stmt_seen (s.Return 0 (option_map made a)) ∙ ap p.return (maybe_seen_again a)
  stmt_again (p.raise a) = stmt_seen (s.Raise 0 (option_map made a)) ∙ ap p.raise (maybe_seen_again a)
  stmt_again (p.global names) = stmt_seen (s.Global 0 names)
  stmt_again (p.nonlocal names) = stmt_seen (s.Nonlocal 0 names)
  stmt_again (p.delete a) = stmt_seen (s.Del 0 (made a)) ∙ ap p.delete (seen_again a)
  stmt_again (p.assert a m) = stmt_seen (s.Assert 0 (made a) (option_map made m)) ∙ (λ i. p.assert (seen_again a i) (maybe_seen_again m i))
  stmt_again (p.choose bs b) = stmt_seen (s.If 0 (made_branches bs) (made_block b)) ∙ (λ i. p.choose (branches_again bs i) (block_again b i))
  stmt_again (p.while a b c) =
      stmt_seen (s.While 0 (made a) (made_block b) (made_block c)) ∙ (λ i. p.while (seen_again a i) (block_again b i) (block_again c i))
  stmt_again (p.for q a b c) =
      stmt_seen (s.For 0 (made q) (made a) (made_block b) (made_block c))
      ∙ (λ i. p.for (seen_again q i) (seen_again a i) (block_again b i) (block_again c i))
  stmt_again (p.try b hs c d) =
      stmt_seen (s.Try 0 (made_block b) (made_handlers hs) (made_block c) (made_block d))
      ∙ (λ i. p.try (block_again b i) (handlers_again hs i) (block_again c i) (block_again d i))
  stmt_again (p.define x names ds b) =
      stmt_seen (s.Def 0 x names (made_all ds) (made_block b)) ∙ (λ i. p.define x names (all_seen_again ds i) (block_again b i))
  stmt_again (p.class x base b) =
      stmt_seen (s.Class 0 x (option_map made base) (made_block b)) ∙ (λ i. p.class x (maybe_seen_again base i) (block_again b i))

  pub block_again : (b : Block) → block_of (map view_stmt (made_block b)) ≡ b
  block_again p.empty = refl
  block_again (p.then x b) = λ i. p.then (stmt_again x i) (block_again b i)

  pub branches_again : (bs : Branches) → branches_of (map view_branch (made_branches bs)) ≡ bs
  branches_again p.no_branches = refl
  branches_again (p.branch a b bs) =
      ap (λ (z : BranchParts). p.branch z.0 z.1 (branches_of (map view_branch (made_branches bs)))) (branch_seen (record { test = made a; body = made_block b }))
      ∙ (λ i. p.branch (seen_again a i) (block_again b i) (branches_again bs i))

  pub handlers_again : (hs : Handlers) → handlers_of (map view_handler (made_handlers hs)) ≡ hs
  handlers_again p.no_handlers = refl
  handlers_again (p.handler a x b hs) =
      ap (λ (z : HandlerParts). p.handler z.0 z.1 z.2 (handlers_of (map view_handler (made_handlers hs))))
      (handler_seen (record { node = 0; class = option_map made a; name = x; body = made_block b }))
      ∙ (λ i. p.handler (maybe_seen_again a i) x (block_again b i) (handlers_again hs i))

abbrev pub statement_code : Coded Statement
statement_code = code_by Stmt coded_stmt.the_row.coded made_stmt view_stmt stmt_again

abbrev pub block_code : Coded Block
block_code = code_by (List Stmt) (coded_list coded_stmt.the_row.coded) made_block (λ xs. block_of (map view_stmt xs)) block_again
