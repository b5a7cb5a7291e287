-- What each form of target and statement binds and declares.
use Rattle.std.proofs.Common.{◌≡◌, ℕ, List, ◌++◌, sym, ap, ◌∙◌}
use Rattle.py_ast.specs.declared.expr.Expr.{Expr}
use Rattle.py_ast.specs.declared.expr.Expr.TheVariants as v
use Rattle.py_ast.specs.declared.expr.Expr.TheOpen as e
use Rattle.py_ast.specs.declared.expr.Expr.TheFolds.{fold-roll-Expr}
use Rattle.py_ast.specs.declared.stmt.Stmt.{Stmt}
use Rattle.py_ast.specs.declared.stmt.Branch.{Branch, out-Branch}
use Rattle.py_ast.specs.declared.stmt.Handler.{Handler, out-Handler}
use Rattle.py_ast.specs.declared.stmt.Stmt.TheVariants as w
use Rattle.py_ast.specs.declared.stmt.Stmt.TheOpen as s
use Rattle.py_ast.specs.declared.stmt.Stmt.TheFolds.{fold-roll-Stmt, fold-roll-Branch, fold-roll-Handler}
use Rattle.py_ast.specs.declared.stmt.Stmt.TheViews.{roll-out-Branch, roll-out-Handler}
use Rattle.py_scope.specs.declared.mark.Mark.{Mark}
use Rattle.py_scope.specs.Marks.{branch_step, handler_step, marks_of_as, marks_of_block, marks_of_branch, marks_of_branches, marks_of_handler, marks_of_handlers, marks_of_stmt, marks_of_target, marks_of_targets, stmt_step, target_step}
use Rattle.py_scope.proofs.Going.{in_order_map}

both_same : {a b c d : List Mark} → a ≡ b → c ≡ d → a ++ c ≡ b ++ d
both_same {b = b} {c = c} e f = ap (λ (z : List Mark). z ++ c) e ∙ ap (λ (z : List Mark). b ++ z) f

pub target_Tuple : (i : ℕ) (xs : List Expr) → marks_of_target (v.Tuple i xs) ≡ marks_of_targets xs
target_Tuple i xs = ap marks_of_target (sym (v.rolls-Tuple i xs)) ∙ fold-roll-Expr (List Mark) target_step (e.Tuple i xs)
    ∙ in_order_map marks_of_target xs

pub stmt_If : (i : ℕ) (bs : List Branch) (o : List Stmt) → marks_of_stmt (w.If i bs o) ≡ marks_of_branches bs ++ marks_of_block o
stmt_If i bs o = ap marks_of_stmt (sym (w.rolls-If i bs o))
    ∙ fold-roll-Stmt (List Mark) (List Mark) (List Mark) stmt_step branch_step handler_step (s.If i bs o)
    ∙ both_same (in_order_map marks_of_branch bs) (in_order_map marks_of_stmt o)

pub stmt_While : (i : ℕ) (x : Expr) (b o : List Stmt) → marks_of_stmt (w.While i x b o) ≡ marks_of_block b ++ marks_of_block o
stmt_While i x b o = ap marks_of_stmt (sym (w.rolls-While i x b o))
    ∙ fold-roll-Stmt (List Mark) (List Mark) (List Mark) stmt_step branch_step handler_step (s.While i x b o)
    ∙ both_same (in_order_map marks_of_stmt b) (in_order_map marks_of_stmt o)

pub stmt_For : (i : ℕ) (t x : Expr) (b o : List Stmt)
    → marks_of_stmt (w.For i t x b o) ≡ marks_of_target t ++ (marks_of_block b ++ marks_of_block o)
stmt_For i t x b o = ap marks_of_stmt (sym (w.rolls-For i t x b o))
    ∙ fold-roll-Stmt (List Mark) (List Mark) (List Mark) stmt_step branch_step handler_step (s.For i t x b o)
    ∙ ap (λ (z : List Mark). marks_of_target t ++ z) (both_same (in_order_map marks_of_stmt b) (in_order_map marks_of_stmt o))

pub stmt_Try : (i : ℕ) (b : List Stmt) (hs : List Handler) (o f : List Stmt)
    → marks_of_stmt (w.Try i b hs o f) ≡ marks_of_block b ++ (marks_of_handlers hs ++ (marks_of_block o ++ marks_of_block f))
stmt_Try i b hs o f = ap marks_of_stmt (sym (w.rolls-Try i b hs o f))
    ∙ fold-roll-Stmt (List Mark) (List Mark) (List Mark) stmt_step branch_step handler_step (s.Try i b hs o f)
    ∙ both_same (in_order_map marks_of_stmt b) (both_same (in_order_map marks_of_handler hs)
    (both_same (in_order_map marks_of_stmt o) (in_order_map marks_of_stmt f)))

pub branch_marks : (b : Branch) → marks_of_branch b ≡ marks_of_block (out-Branch b).body
branch_marks b = ap marks_of_branch (sym (roll-out-Branch b))
    ∙ fold-roll-Branch (List Mark) (List Mark) (List Mark) stmt_step branch_step handler_step (out-Branch b)
    ∙ in_order_map marks_of_stmt (out-Branch b).body

pub handler_marks : (h : Handler) → marks_of_handler h ≡ marks_of_as (out-Handler h).name ++ marks_of_block (out-Handler h).body
handler_marks h = ap marks_of_handler (sym (roll-out-Handler h))
    ∙ fold-roll-Handler (List Mark) (List Mark) (List Mark) stmt_step branch_step handler_step (out-Handler h)
    ∙ ap (λ (z : List Mark). marks_of_as (out-Handler h).name ++ z) (in_order_map marks_of_stmt (out-Handler h).body)
