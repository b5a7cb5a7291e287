-- Statements and lists of them with the numbers of their nodes.
use Rattle.std.proofs.Common.{◌≡◌, ℕ, ◌+◌, List, [], ◌++◌, Option, option_map, refl, sym, ap, ◌∙◌}
use Rattle.py_ast.specs.Tree.{Tree, Trees}
use Rattle.py_ast.specs.View.{view}
use Rattle.py_ast.specs.Statement as t
use Rattle.py_ast.specs.Statement.{Statement, Block, view_branch_step, view_handler_step, view_stmt, view_stmt_step}
use Rattle.py_ast.specs.Nodes.{Node, below_stmt, count_from, nodes, nodes_of_all, nodes_of_maybe, stmt_number, stmt_number_in}
use Rattle.py_ast.proofs.Below.{below_stmt_Assert, below_stmt_Assign, below_stmt_Augment, below_stmt_Break, below_stmt_Continue, below_stmt_Del, below_stmt_Expr, below_stmt_Global, below_stmt_Nonlocal, below_stmt_Pass, below_stmt_Raise, below_stmt_Return}
use Rattle.py_ast.specs.declared.expr.BinaryOp.{BinaryOp}
use Rattle.py_ast.specs.declared.expr.Expr.{Expr}
use Rattle.py_ast.specs.declared.stmt.Stmt.{Stmt, roll-Stmt}
use Rattle.py_ast.specs.declared.stmt.Branch.{Branch}
use Rattle.py_ast.specs.declared.stmt.Handler.{Handler}
use Rattle.py_ast.specs.declared.stmt.Stmt.TheVariants as w
use Rattle.py_ast.specs.declared.stmt.Stmt.TheOpen as s
use Rattle.py_ast.specs.declared.stmt.Stmt.TheOpen.{Stmt-F}
use Rattle.py_ast.specs.declared.stmt.Stmt.TheFolds.{fold-roll-Stmt}
use Rattle.py_ast.specs.declared.stmt.Stmt.TheViews.{out-roll-Stmt}
use Rattle.py_line.specs.Numbers.{size, size_of_all, size_of_maybe, size_of_statement}
use Rattle.py_line.specs.Form.{Numbered, NumberedAll, NumberedMaybe, NumberedStatement, numbers}
use Rattle.py_line.proofs.NumberRuns.{both_counted, node_counted}

abbrev BranchParts : Type 0
BranchParts = Tree × Block

abbrev HandlerParts : Type 0
HandlerParts = Option Tree × Option (List ℕ) × Block

level : (n k : ℕ) (u : Stmt-F Stmt Branch Handler) (x : Stmt) (a : Statement) (ns : List Node) → roll-Stmt u ≡ x → view_stmt x ≡ a → size_of_statement a ≡ 1 + k
    → stmt_number_in u ≡ n → below_stmt x ≡ ns → numbers ns ≡ count_from (n + 1) k → NumberedStatement n a x
level n k u x a ns is_new same sized own below_is counted =
    let i : stmt_number x ≡ n = ap stmt_number (sym is_new) ∙ ap stmt_number_in (out-roll-Stmt u) ∙ own in
    record {
      same = same;
      in_order = node_counted n k (stmt_number x) (below_stmt x) ns i below_is counted ∙ ap (λ (z : ℕ). count_from n z) (sym sized);
    }

pub numbered_Expr : (n : ℕ) (a : Tree) (x : Expr) → Numbered (n + 1) a x → NumberedStatement n (t.expression a) (w.Expr n x)
numbered_Expr n a x p =
    level n (size a) (s.Expr n x) (w.Expr n x) (t.expression a) (nodes x) (w.rolls-Expr n x)
    (ap view_stmt (sym (w.rolls-Expr n x)) ∙ fold-roll-Stmt Statement BranchParts HandlerParts view_stmt_step view_branch_step view_handler_step (s.Expr n x) ∙ ap t.expression p.same)
    refl refl (below_stmt_Expr n x) p.in_order

pub numbered_Del : (n : ℕ) (a : Tree) (x : Expr) → Numbered (n + 1) a x → NumberedStatement n (t.delete a) (w.Del n x)
numbered_Del n a x p =
    level n (size a) (s.Del n x) (w.Del n x) (t.delete a) (nodes x) (w.rolls-Del n x)
    (ap view_stmt (sym (w.rolls-Del n x)) ∙ fold-roll-Stmt Statement BranchParts HandlerParts view_stmt_step view_branch_step view_handler_step (s.Del n x) ∙ ap t.delete p.same)
    refl refl (below_stmt_Del n x) p.in_order

pub numbered_Return : (n : ℕ) (a : Option Tree) (x : Option Expr) → NumberedMaybe (n + 1) a x → NumberedStatement n (t.return a) (w.Return n x)
numbered_Return n a x p =
    level n (size_of_maybe a) (s.Return n x) (w.Return n x) (t.return a) (nodes_of_maybe x) (w.rolls-Return n x)
    (ap view_stmt (sym (w.rolls-Return n x)) ∙ fold-roll-Stmt Statement BranchParts HandlerParts view_stmt_step view_branch_step view_handler_step (s.Return n x) ∙ ap t.return p.same)
    refl refl (below_stmt_Return n x) p.in_order

pub numbered_Raise : (n : ℕ) (a : Option Tree) (x : Option Expr) → NumberedMaybe (n + 1) a x → NumberedStatement n (t.raise a) (w.Raise n x)
numbered_Raise n a x p =
    level n (size_of_maybe a) (s.Raise n x) (w.Raise n x) (t.raise a) (nodes_of_maybe x) (w.rolls-Raise n x)
    (ap view_stmt (sym (w.rolls-Raise n x)) ∙ fold-roll-Stmt Statement BranchParts HandlerParts view_stmt_step view_branch_step view_handler_step (s.Raise n x) ∙ ap t.raise p.same)
    refl refl (below_stmt_Raise n x) p.in_order

pub numbered_Pass : (n : ℕ) → NumberedStatement n (t.pass) (w.Pass n)
numbered_Pass n =
    level n 0 (s.Pass n) (w.Pass n) (t.pass) [] (w.rolls-Pass n)
    (ap view_stmt (sym (w.rolls-Pass n)) ∙ fold-roll-Stmt Statement BranchParts HandlerParts view_stmt_step view_branch_step view_handler_step (s.Pass n))
    refl refl (below_stmt_Pass n) refl

pub numbered_Break : (n : ℕ) → NumberedStatement n (t.break) (w.Break n)
numbered_Break n =
    level n 0 (s.Break n) (w.Break n) (t.break) [] (w.rolls-Break n)
    (ap view_stmt (sym (w.rolls-Break n)) ∙ fold-roll-Stmt Statement BranchParts HandlerParts view_stmt_step view_branch_step view_handler_step (s.Break n))
    refl refl (below_stmt_Break n) refl

pub numbered_Continue : (n : ℕ) → NumberedStatement n (t.continue) (w.Continue n)
numbered_Continue n =
    level n 0 (s.Continue n) (w.Continue n) (t.continue) [] (w.rolls-Continue n)
    (ap view_stmt (sym (w.rolls-Continue n)) ∙ fold-roll-Stmt Statement BranchParts HandlerParts view_stmt_step view_branch_step view_handler_step (s.Continue n))
    refl refl (below_stmt_Continue n) refl

pub numbered_Global : (n : ℕ) (names copied : List (List ℕ)) → copied ≡ names → NumberedStatement n (t.global names) (w.Global n copied)
numbered_Global n names copied h =
    level n 0 (s.Global n copied) (w.Global n copied) (t.global names) [] (w.rolls-Global n copied)
    (ap view_stmt (sym (w.rolls-Global n copied)) ∙ fold-roll-Stmt Statement BranchParts HandlerParts view_stmt_step view_branch_step view_handler_step (s.Global n copied) ∙ ap t.global h)
    refl refl (below_stmt_Global n copied) refl

pub numbered_Nonlocal : (n : ℕ) (names copied : List (List ℕ)) → copied ≡ names → NumberedStatement n (t.nonlocal names) (w.Nonlocal n copied)
numbered_Nonlocal n names copied h =
    level n 0 (s.Nonlocal n copied) (w.Nonlocal n copied) (t.nonlocal names) [] (w.rolls-Nonlocal n copied)
    (ap view_stmt (sym (w.rolls-Nonlocal n copied)) ∙ fold-roll-Stmt Statement BranchParts HandlerParts view_stmt_step view_branch_step view_handler_step (s.Nonlocal n copied) ∙ ap t.nonlocal h)
    refl refl (below_stmt_Nonlocal n copied) refl

pub numbered_Assign : (n m : ℕ) (ts : Trees) (a : Tree) (xs : List Expr) (x : Expr) → NumberedAll (n + 1) ts xs → m ≡ n + 1 + size_of_all ts → Numbered m a x → NumberedStatement n (t.assign ts a) (w.Assign n xs x)
numbered_Assign n m ts a xs x p h q =
    level n (size_of_all ts + size a) (s.Assign n xs x) (w.Assign n xs x) (t.assign ts a) (nodes_of_all xs ++ nodes x) (w.rolls-Assign n xs x)
    (ap view_stmt (sym (w.rolls-Assign n xs x)) ∙ fold-roll-Stmt Statement BranchParts HandlerParts view_stmt_step view_branch_step view_handler_step (s.Assign n xs x) ∙ ap (λ (z : Trees). t.assign z (view x)) p.same ∙ ap (t.assign ts) q.same)
    refl refl (below_stmt_Assign n xs x) (both_counted (n + 1) m (size_of_all ts) (size a) (nodes_of_all xs) (nodes x) p.in_order h q.in_order)

pub numbered_Augment : (n m : ℕ) (a b : Tree) (o : BinaryOp) (x y : Expr) → Numbered (n + 1) a x → m ≡ n + 1 + size a → Numbered m b y → NumberedStatement n (t.augment a o b) (w.Augment n x o y)
numbered_Augment n m a b o x y p h q =
    level n (size a + size b) (s.Augment n x o y) (w.Augment n x o y) (t.augment a o b) (nodes x ++ nodes y) (w.rolls-Augment n x o y)
    (ap view_stmt (sym (w.rolls-Augment n x o y)) ∙ fold-roll-Stmt Statement BranchParts HandlerParts view_stmt_step view_branch_step view_handler_step (s.Augment n x o y) ∙ ap (λ (z : Tree). t.augment z o (view y)) p.same ∙ ap (t.augment a o) q.same)
    refl refl (below_stmt_Augment n x o y) (both_counted (n + 1) m (size a) (size b) (nodes x) (nodes y) p.in_order h q.in_order)

pub numbered_Assert : (n m : ℕ) (a : Tree) (b : Option Tree) (x : Expr) (y : Option Expr) → Numbered (n + 1) a x → m ≡ n + 1 + size a → NumberedMaybe m b y → NumberedStatement n (t.assert a b) (w.Assert n x y)
numbered_Assert n m a b x y p h q =
    level n (size a + size_of_maybe b) (s.Assert n x y) (w.Assert n x y) (t.assert a b) (nodes x ++ nodes_of_maybe y) (w.rolls-Assert n x y)
    (ap view_stmt (sym (w.rolls-Assert n x y)) ∙ fold-roll-Stmt Statement BranchParts HandlerParts view_stmt_step view_branch_step view_handler_step (s.Assert n x y) ∙ ap (λ (z : Tree). t.assert z (option_map view y)) p.same ∙ ap (t.assert a) q.same)
    refl refl (below_stmt_Assert n x y) (both_counted (n + 1) m (size a) (size_of_maybe b) (nodes x) (nodes_of_maybe y) p.in_order h q.in_order)
