-- The nodes below each form of expression and statement.
use Rattle.std.proofs.Common.{◌≡◌, ℕ, ℤ, Bool, List, [], ◌∷◌, ◌++◌, map, refl, sym, ap, ◌∙◌, Option}
use Rattle.py_ast.specs.Nodes.{Node, from_parts, from_stmts, from_branches, from_handlers, below, below_step, nodes, nodes_of_all, nodes_of_maybe, below_stmt, nodes_of_branch, below_handler, stmt_step, branch_step, handler_step, nodes_of_block, nodes_of_branches, nodes_of_handlers, nodes_of_stmt, nodes_of_handler}
use Rattle.py_ast.specs.declared.expr.BinaryOp.{BinaryOp}
use Rattle.py_ast.specs.declared.expr.SignOp.{SignOp}
use Rattle.py_ast.specs.declared.expr.CompareOp.{CompareOp}
use Rattle.py_ast.specs.declared.expr.Expr.{Expr}
use Rattle.py_ast.specs.declared.expr.Expr.TheVariants as v
use Rattle.py_ast.specs.declared.expr.Expr.TheOpen as e
use Rattle.py_ast.specs.declared.expr.Expr.TheFolds.{para-roll-Expr}
use Rattle.py_ast.specs.declared.stmt.Stmt.{Stmt}
use Rattle.py_ast.specs.declared.stmt.Branch.{Branch, out-Branch}
use Rattle.py_ast.specs.declared.stmt.Handler.{Handler, out-Handler}
use Rattle.py_ast.specs.declared.stmt.Stmt.TheVariants as w
use Rattle.py_ast.specs.declared.stmt.Stmt.TheOpen as s
use Rattle.py_ast.specs.declared.stmt.Stmt.TheFolds.{para-roll-Stmt, para-roll-Branch, para-roll-Handler}
use Rattle.py_ast.specs.declared.stmt.Stmt.TheViews.{roll-out-Branch, roll-out-Handler}

parts_joined : (xs : List Expr) → from_parts (map (λ (y : Expr). (y, below y)) xs) ≡ nodes_of_all xs
parts_joined [] = refl
parts_joined (x ∷ xs) = ap (λ (z : List Node). nodes x ++ z) (parts_joined xs)

stmts_joined : (xs : List Stmt) → from_stmts (map (λ (y : Stmt). (y, below_stmt y)) xs) ≡ nodes_of_block xs
stmts_joined [] = refl
stmts_joined (x ∷ xs) = ap (λ (z : List Node). nodes_of_stmt x ++ z) (stmts_joined xs)

branches_joined : (xs : List Branch) → from_branches (map (λ (y : Branch). (y, nodes_of_branch y)) xs) ≡ nodes_of_branches xs
branches_joined [] = refl
branches_joined (x ∷ xs) = ap (λ (z : List Node). nodes_of_branch x ++ z) (branches_joined xs)

handlers_joined : (xs : List Handler) → from_handlers (map (λ (y : Handler). (y, below_handler y)) xs) ≡ nodes_of_handlers xs
handlers_joined [] = refl
handlers_joined (x ∷ xs) = ap (λ (z : List Node). nodes_of_handler x ++ z) (handlers_joined xs)

both_same : {a b c d : List Node} → a ≡ b → c ≡ d → a ++ c ≡ b ++ d
both_same {b = b} {c = c} e f = ap (λ (z : List Node). z ++ c) e ∙ ap (λ (z : List Node). b ++ z) f

pub below_Name : (i : ℕ) (t : List ℕ) → below (v.Name i t) ≡ []
below_Name i t = ap below (sym (v.rolls-Name i t)) ∙ para-roll-Expr (List Node) below_step (e.Name i t)

pub below_Number : (i : ℕ) (n : ℤ) → below (v.Number i n) ≡ []
below_Number i n = ap below (sym (v.rolls-Number i n)) ∙ para-roll-Expr (List Node) below_step (e.Number i n)

pub below_Text : (i : ℕ) (t : List ℕ) → below (v.Text i t) ≡ []
below_Text i t = ap below (sym (v.rolls-Text i t)) ∙ para-roll-Expr (List Node) below_step (e.Text i t)

pub below_Nil : (i : ℕ) → below (v.Nil i) ≡ []
below_Nil i = ap below (sym (v.rolls-Nil i)) ∙ para-roll-Expr (List Node) below_step (e.Nil i)

pub below_Truth : (i : ℕ) (b : Bool) → below (v.Truth i b) ≡ []
below_Truth i b = ap below (sym (v.rolls-Truth i b)) ∙ para-roll-Expr (List Node) below_step (e.Truth i b)

pub below_Tuple : (i : ℕ) (xs : List Expr) → below (v.Tuple i xs) ≡ nodes_of_all xs
below_Tuple i xs = ap below (sym (v.rolls-Tuple i xs)) ∙ para-roll-Expr (List Node) below_step (e.Tuple i xs) ∙ parts_joined xs

pub below_List : (i : ℕ) (xs : List Expr) → below (v.List i xs) ≡ nodes_of_all xs
below_List i xs = ap below (sym (v.rolls-List i xs)) ∙ para-roll-Expr (List Node) below_step (e.List i xs) ∙ parts_joined xs

pub below_Dict : (i : ℕ) (xs : List Expr) → below (v.Dict i xs) ≡ nodes_of_all xs
below_Dict i xs = ap below (sym (v.rolls-Dict i xs)) ∙ para-roll-Expr (List Node) below_step (e.Dict i xs) ∙ parts_joined xs

pub below_Lambda : (i : ℕ) (names : List (List ℕ)) (ds : List Expr) (b : Expr) → below (v.Lambda i names ds b) ≡ nodes_of_all ds ++ nodes b
below_Lambda i names ds b = ap below (sym (v.rolls-Lambda i names ds b)) ∙ para-roll-Expr (List Node) below_step (e.Lambda i names ds b) ∙ ap (λ (z : List Node). z ++ nodes b) (parts_joined ds)

pub below_Choice : (i : ℕ) (a t b : Expr) → below (v.Choice i a t b) ≡ nodes a ++ (nodes t ++ nodes b)
below_Choice i a t b = ap below (sym (v.rolls-Choice i a t b)) ∙ para-roll-Expr (List Node) below_step (e.Choice i a t b)

pub below_And : (i : ℕ) (a b : Expr) → below (v.And i a b) ≡ nodes a ++ nodes b
below_And i a b = ap below (sym (v.rolls-And i a b)) ∙ para-roll-Expr (List Node) below_step (e.And i a b)

pub below_Or : (i : ℕ) (a b : Expr) → below (v.Or i a b) ≡ nodes a ++ nodes b
below_Or i a b = ap below (sym (v.rolls-Or i a b)) ∙ para-roll-Expr (List Node) below_step (e.Or i a b)

pub below_Not : (i : ℕ) (a : Expr) → below (v.Not i a) ≡ nodes a
below_Not i a = ap below (sym (v.rolls-Not i a)) ∙ para-roll-Expr (List Node) below_step (e.Not i a)

pub below_Compare : (i : ℕ) (ops : List CompareOp) (xs : List Expr) → below (v.Compare i ops xs) ≡ nodes_of_all xs
below_Compare i ops xs = ap below (sym (v.rolls-Compare i ops xs)) ∙ para-roll-Expr (List Node) below_step (e.Compare i ops xs) ∙ parts_joined xs

pub below_Binary : (i : ℕ) (a : Expr) (o : BinaryOp) (b : Expr) → below (v.Binary i a o b) ≡ nodes a ++ nodes b
below_Binary i a o b = ap below (sym (v.rolls-Binary i a o b)) ∙ para-roll-Expr (List Node) below_step (e.Binary i a o b)

pub below_Sign : (i : ℕ) (o : SignOp) (a : Expr) → below (v.Sign i o a) ≡ nodes a
below_Sign i o a = ap below (sym (v.rolls-Sign i o a)) ∙ para-roll-Expr (List Node) below_step (e.Sign i o a)

pub below_Attr : (i : ℕ) (a : Expr) (t : List ℕ) → below (v.Attr i a t) ≡ nodes a
below_Attr i a t = ap below (sym (v.rolls-Attr i a t)) ∙ para-roll-Expr (List Node) below_step (e.Attr i a t)

pub below_Item : (i : ℕ) (a b : Expr) → below (v.Item i a b) ≡ nodes a ++ nodes b
below_Item i a b = ap below (sym (v.rolls-Item i a b)) ∙ para-roll-Expr (List Node) below_step (e.Item i a b)

pub below_Call : (i : ℕ) (f : Expr) (xs : List Expr) → below (v.Call i f xs) ≡ nodes f ++ nodes_of_all xs
below_Call i f xs = ap below (sym (v.rolls-Call i f xs)) ∙ para-roll-Expr (List Node) below_step (e.Call i f xs) ∙ ap (λ (z : List Node). nodes f ++ z) (parts_joined xs)

pub below_stmt_Expr : (i : ℕ) (x : Expr) → below_stmt (w.Expr i x) ≡ nodes x
below_stmt_Expr i x = ap below_stmt (sym (w.rolls-Expr i x)) ∙ para-roll-Stmt (List Node) (List Node) (List Node) stmt_step branch_step handler_step (s.Expr i x)

pub below_stmt_Assign : (i : ℕ) (ts : List Expr) (x : Expr) → below_stmt (w.Assign i ts x) ≡ nodes_of_all ts ++ nodes x
below_stmt_Assign i ts x = ap below_stmt (sym (w.rolls-Assign i ts x)) ∙ para-roll-Stmt (List Node) (List Node) (List Node) stmt_step branch_step handler_step (s.Assign i ts x)

pub below_stmt_Augment : (i : ℕ) (p : Expr) (o : BinaryOp) (x : Expr) → below_stmt (w.Augment i p o x) ≡ nodes p ++ nodes x
below_stmt_Augment i p o x = ap below_stmt (sym (w.rolls-Augment i p o x)) ∙ para-roll-Stmt (List Node) (List Node) (List Node) stmt_step branch_step handler_step (s.Augment i p o x)

pub below_stmt_Pass : (i : ℕ) → below_stmt (w.Pass i) ≡ []
below_stmt_Pass i = ap below_stmt (sym (w.rolls-Pass i)) ∙ para-roll-Stmt (List Node) (List Node) (List Node) stmt_step branch_step handler_step (s.Pass i)

pub below_stmt_Break : (i : ℕ) → below_stmt (w.Break i) ≡ []
below_stmt_Break i = ap below_stmt (sym (w.rolls-Break i)) ∙ para-roll-Stmt (List Node) (List Node) (List Node) stmt_step branch_step handler_step (s.Break i)

pub below_stmt_Continue : (i : ℕ) → below_stmt (w.Continue i) ≡ []
below_stmt_Continue i = ap below_stmt (sym (w.rolls-Continue i)) ∙ para-roll-Stmt (List Node) (List Node) (List Node) stmt_step branch_step handler_step (s.Continue i)

pub below_stmt_Return : (i : ℕ) (x : Option Expr) → below_stmt (w.Return i x) ≡ nodes_of_maybe x
below_stmt_Return i x = ap below_stmt (sym (w.rolls-Return i x)) ∙ para-roll-Stmt (List Node) (List Node) (List Node) stmt_step branch_step handler_step (s.Return i x)

pub below_stmt_Raise : (i : ℕ) (x : Option Expr) → below_stmt (w.Raise i x) ≡ nodes_of_maybe x
below_stmt_Raise i x = ap below_stmt (sym (w.rolls-Raise i x)) ∙ para-roll-Stmt (List Node) (List Node) (List Node) stmt_step branch_step handler_step (s.Raise i x)

pub below_stmt_Global : (i : ℕ) (names : List (List ℕ)) → below_stmt (w.Global i names) ≡ []
below_stmt_Global i names = ap below_stmt (sym (w.rolls-Global i names)) ∙ para-roll-Stmt (List Node) (List Node) (List Node) stmt_step branch_step handler_step (s.Global i names)

pub below_stmt_Nonlocal : (i : ℕ) (names : List (List ℕ)) → below_stmt (w.Nonlocal i names) ≡ []
below_stmt_Nonlocal i names = ap below_stmt (sym (w.rolls-Nonlocal i names)) ∙ para-roll-Stmt (List Node) (List Node) (List Node) stmt_step branch_step handler_step (s.Nonlocal i names)

pub below_stmt_Del : (i : ℕ) (x : Expr) → below_stmt (w.Del i x) ≡ nodes x
below_stmt_Del i x = ap below_stmt (sym (w.rolls-Del i x)) ∙ para-roll-Stmt (List Node) (List Node) (List Node) stmt_step branch_step handler_step (s.Del i x)

pub below_stmt_Assert : (i : ℕ) (x : Expr) (m : Option Expr) → below_stmt (w.Assert i x m) ≡ nodes x ++ nodes_of_maybe m
below_stmt_Assert i x m = ap below_stmt (sym (w.rolls-Assert i x m)) ∙ para-roll-Stmt (List Node) (List Node) (List Node) stmt_step branch_step handler_step (s.Assert i x m)

pub below_stmt_If : (i : ℕ) (bs : List Branch) (b : List Stmt) → below_stmt (w.If i bs b) ≡ nodes_of_branches bs ++ nodes_of_block b
below_stmt_If i bs b = ap below_stmt (sym (w.rolls-If i bs b)) ∙ para-roll-Stmt (List Node) (List Node) (List Node) stmt_step branch_step handler_step (s.If i bs b) ∙ both_same (branches_joined bs) (stmts_joined b)

pub below_stmt_While : (i : ℕ) (x : Expr) (b c : List Stmt) → below_stmt (w.While i x b c) ≡ nodes x ++ (nodes_of_block b ++ nodes_of_block c)
below_stmt_While i x b c = ap below_stmt (sym (w.rolls-While i x b c)) ∙ para-roll-Stmt (List Node) (List Node) (List Node) stmt_step branch_step handler_step (s.While i x b c) ∙ ap (λ (z : List Node). nodes x ++ z) (both_same (stmts_joined b) (stmts_joined c))

pub below_stmt_For : (i : ℕ) (t x : Expr) (b c : List Stmt) → below_stmt (w.For i t x b c) ≡ nodes t ++ (nodes x ++ (nodes_of_block b ++ nodes_of_block c))
below_stmt_For i t x b c = ap below_stmt (sym (w.rolls-For i t x b c)) ∙ para-roll-Stmt (List Node) (List Node) (List Node) stmt_step branch_step handler_step (s.For i t x b c) ∙ ap (λ (z : List Node). nodes t ++ (nodes x ++ z)) (both_same (stmts_joined b) (stmts_joined c))

pub below_stmt_Try : (i : ℕ) (b : List Stmt) (hs : List Handler) (c d : List Stmt) → below_stmt (w.Try i b hs c d) ≡ nodes_of_block b ++ (nodes_of_handlers hs ++ (nodes_of_block c ++ nodes_of_block d))
below_stmt_Try i b hs c d = ap below_stmt (sym (w.rolls-Try i b hs c d)) ∙ para-roll-Stmt (List Node) (List Node) (List Node) stmt_step branch_step handler_step (s.Try i b hs c d) ∙ both_same (stmts_joined b) (both_same (handlers_joined hs) (both_same (stmts_joined c) (stmts_joined d)))

pub below_stmt_Def : (i : ℕ) (t : List ℕ) (names : List (List ℕ)) (ds : List Expr) (b : List Stmt) → below_stmt (w.Def i t names ds b) ≡ nodes_of_all ds ++ nodes_of_block b
below_stmt_Def i t names ds b = ap below_stmt (sym (w.rolls-Def i t names ds b)) ∙ para-roll-Stmt (List Node) (List Node) (List Node) stmt_step branch_step handler_step (s.Def i t names ds b) ∙ ap (λ (z : List Node). nodes_of_all ds ++ z) (stmts_joined b)

pub below_stmt_Class : (i : ℕ) (t : List ℕ) (x : Option Expr) (b : List Stmt) → below_stmt (w.Class i t x b) ≡ nodes_of_maybe x ++ nodes_of_block b
below_stmt_Class i t x b = ap below_stmt (sym (w.rolls-Class i t x b)) ∙ para-roll-Stmt (List Node) (List Node) (List Node) stmt_step branch_step handler_step (s.Class i t x b) ∙ ap (λ (z : List Node). nodes_of_maybe x ++ z) (stmts_joined b)

pub nodes_in_branch : (b : Branch) → nodes_of_branch b ≡ nodes (out-Branch b).test ++ nodes_of_block (out-Branch b).body
nodes_in_branch b = ap nodes_of_branch (sym (roll-out-Branch b))
    ∙ para-roll-Branch (List Node) (List Node) (List Node) stmt_step branch_step handler_step (out-Branch b)
    ∙ ap (λ (z : List Node). nodes (out-Branch b).test ++ z) (stmts_joined (out-Branch b).body)

pub nodes_below_handler : (h : Handler) → below_handler h ≡ nodes_of_maybe (out-Handler h).class ++ nodes_of_block (out-Handler h).body
nodes_below_handler h = ap below_handler (sym (roll-out-Handler h))
    ∙ para-roll-Handler (List Node) (List Node) (List Node) stmt_step branch_step handler_step (out-Handler h)
    ∙ ap (λ (z : List Node). nodes_of_maybe (out-Handler h).class ++ z) (stmts_joined (out-Handler h).body)
