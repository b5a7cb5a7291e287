-- What is known of the nodes of each form of expression and statement.
use Rattle.std.proofs.Common.{◌≡◌, ℕ, ℤ, Bool, List, [], ◌∷◌, ◌++◌, map, refl, sym, ap, subst, ◌∙◌, Option, Result, OnOk}
use Rattle.py_ast.specs.declared.expr.BinaryOp.{BinaryOp}
use Rattle.py_ast.specs.declared.expr.SignOp.{SignOp}
use Rattle.py_ast.specs.declared.expr.CompareOp.{CompareOp}
use Rattle.py_ast.specs.declared.expr.Expr.{Expr}
use Rattle.py_ast.specs.declared.expr.Expr.TheVariants as v
use Rattle.py_ast.specs.declared.expr.Expr.TheOpen as e
use Rattle.py_ast.specs.declared.expr.Expr.TheFolds.{fold-roll-Expr}
use Rattle.py_ast.specs.declared.stmt.Stmt.{Stmt}
use Rattle.py_ast.specs.declared.stmt.Branch.{Branch, out-Branch}
use Rattle.py_ast.specs.declared.stmt.Handler.{Handler, out-Handler}
use Rattle.py_ast.specs.declared.stmt.Stmt.TheVariants as w
use Rattle.py_ast.specs.declared.stmt.Stmt.TheOpen as s
use Rattle.py_ast.specs.declared.stmt.Stmt.TheFolds.{para-roll-Stmt, para-roll-Branch, para-roll-Handler}
use Rattle.py_ast.specs.declared.stmt.Stmt.TheViews.{roll-out-Branch, roll-out-Handler}
use Rattle.py_scope.specs.declared.scope.Scope.{Scope}
use Rattle.flow_base.specs.declared.no_memory.NoMemory.{NoMemory}
use Rattle.py_scope.specs.Building.{Built, with_spots}
use Rattle.py_scope.specs.Scopes.{scope_of}
use Rattle.py_scope.proofs.Going.{with_spots_append}
use Rattle.py_scope.specs.Chart.{Spot, Spots, branch_step, class_code, coded, def_code, each, expr_step, from_branches, from_handlers, from_stmts, handler_step, lambda_code, plain, spots_of_block, spots_of_branch, spots_of_branches, spots_of_expr, spots_of_exprs, spots_of_handler, spots_of_handlers, spots_of_maybe, spots_of_stmt, statements, stmt_step}

each_map : (xs : List Expr) (r : List Scope) → each (map spots_of_expr xs) r ≡ spots_of_exprs xs r
each_map [] r = refl
each_map (x ∷ xs) r = ap (λ (z : List Spot). spots_of_expr x r ++ z) (each_map xs r)

stmts_map : (xs : List Stmt) (r : List Scope) → from_stmts (map (λ (y : Stmt). (y, spots_of_stmt y)) xs) r ≡ spots_of_block xs r
stmts_map [] r = refl
stmts_map (x ∷ xs) r = ap (λ (z : List Spot). spots_of_stmt x r ++ z) (stmts_map xs r)

branches_map : (xs : List Branch) (r : List Scope)
    → from_branches (map (λ (y : Branch). (y, spots_of_branch y)) xs) r ≡ spots_of_branches xs r
branches_map [] r = refl
branches_map (x ∷ xs) r = ap (λ (z : List Spot). spots_of_branch x r ++ z) (branches_map xs r)

handlers_map : (xs : List Handler) (r : List Scope)
    → from_handlers (map (λ (y : Handler). (y, spots_of_handler y)) xs) r ≡ spots_of_handlers xs r
handlers_map [] r = refl
handlers_map (x ∷ xs) r = ap (λ (z : List Spot). spots_of_handler x r ++ z) (handlers_map xs r)

pub statements_map : (xs : List Stmt) → statements (map (λ (y : Stmt). (y, spots_of_stmt y)) xs) ≡ xs
statements_map [] = refl
statements_map (x ∷ xs) = ap (λ (z : List Stmt). x ∷ z) (statements_map xs)

both : {a b c d : List Spot} → a ≡ b → c ≡ d → a ++ c ≡ b ++ d
both {b = b} {c = c} e f = ap (λ (z : List Spot). z ++ c) e ∙ ap (λ (z : List Spot). b ++ z) f

behind : {a b : List Spot} (p : Spot) → a ≡ b → (p ∷ a) ≡ (p ∷ b)
behind p e = ap (λ (z : List Spot). p ∷ z) e

after : {b c : List Spot} (a : List Spot) → b ≡ c → a ++ b ≡ a ++ c
after a e = ap (λ (z : List Spot). a ++ z) e

pub expr_Name : (i : ℕ) (t : List ℕ) (r : List Scope) → spots_of_expr (v.Name i t) r ≡ plain r ∷ []
expr_Name i t r =
    ap (λ (f : Spots). f r) (ap spots_of_expr (sym (v.rolls-Name i t)) ∙ fold-roll-Expr Spots expr_step (e.Name i t))

pub expr_Number : (i : ℕ) (n : ℤ) (r : List Scope) → spots_of_expr (v.Number i n) r ≡ plain r ∷ []
expr_Number i n r =
    ap (λ (f : Spots). f r) (ap spots_of_expr (sym (v.rolls-Number i n)) ∙ fold-roll-Expr Spots expr_step (e.Number i n))

pub expr_Text : (i : ℕ) (t : List ℕ) (r : List Scope) → spots_of_expr (v.Text i t) r ≡ plain r ∷ []
expr_Text i t r =
    ap (λ (f : Spots). f r) (ap spots_of_expr (sym (v.rolls-Text i t)) ∙ fold-roll-Expr Spots expr_step (e.Text i t))

pub expr_Nil : (i : ℕ) (r : List Scope) → spots_of_expr (v.Nil i) r ≡ plain r ∷ []
expr_Nil i r =
    ap (λ (f : Spots). f r) (ap spots_of_expr (sym (v.rolls-Nil i)) ∙ fold-roll-Expr Spots expr_step (e.Nil i))

pub expr_Truth : (i : ℕ) (b : Bool) (r : List Scope) → spots_of_expr (v.Truth i b) r ≡ plain r ∷ []
expr_Truth i b r =
    ap (λ (f : Spots). f r) (ap spots_of_expr (sym (v.rolls-Truth i b)) ∙ fold-roll-Expr Spots expr_step (e.Truth i b))

pub expr_Tuple : (i : ℕ) (xs : List Expr) (r : List Scope) → spots_of_expr (v.Tuple i xs) r ≡ plain r ∷ spots_of_exprs xs r
expr_Tuple i xs r =
    ap (λ (f : Spots). f r) (ap spots_of_expr (sym (v.rolls-Tuple i xs)) ∙ fold-roll-Expr Spots expr_step (e.Tuple i xs))
    ∙ behind (plain r) (each_map xs r)

pub expr_List : (i : ℕ) (xs : List Expr) (r : List Scope) → spots_of_expr (v.List i xs) r ≡ plain r ∷ spots_of_exprs xs r
expr_List i xs r =
    ap (λ (f : Spots). f r) (ap spots_of_expr (sym (v.rolls-List i xs)) ∙ fold-roll-Expr Spots expr_step (e.List i xs))
    ∙ behind (plain r) (each_map xs r)

pub expr_Dict : (i : ℕ) (xs : List Expr) (r : List Scope) → spots_of_expr (v.Dict i xs) r ≡ plain r ∷ spots_of_exprs xs r
expr_Dict i xs r =
    ap (λ (f : Spots). f r) (ap spots_of_expr (sym (v.rolls-Dict i xs)) ∙ fold-roll-Expr Spots expr_step (e.Dict i xs))
    ∙ behind (plain r) (each_map xs r)

pub expr_Lambda : (i : ℕ) (names : List (List ℕ)) (ds : List Expr) (x : Expr) (r : List Scope)
    → spots_of_expr (v.Lambda i names ds x) r ≡ coded r (lambda_code names) ∷
    (spots_of_exprs ds r ++ spots_of_expr x (scope_of (lambda_code names) ∷ r))
expr_Lambda i names ds x r =
    ap (λ (f : Spots). f r) (ap spots_of_expr (sym (v.rolls-Lambda i names ds x)) ∙ fold-roll-Expr Spots expr_step (e.Lambda i names ds x))
    ∙ behind (coded r (lambda_code names)) (both (each_map ds r) refl)

pub expr_Choice : (i : ℕ) (a t b : Expr) (r : List Scope)
    → spots_of_expr (v.Choice i a t b) r ≡ plain r ∷ (spots_of_expr a r ++ (spots_of_expr t r ++ spots_of_expr b r))
expr_Choice i a t b r =
    ap (λ (f : Spots). f r) (ap spots_of_expr (sym (v.rolls-Choice i a t b)) ∙ fold-roll-Expr Spots expr_step (e.Choice i a t b))

pub expr_And : (i : ℕ) (a b : Expr) (r : List Scope) → spots_of_expr (v.And i a b) r ≡ plain r ∷ (spots_of_expr a r ++ spots_of_expr b r)
expr_And i a b r =
    ap (λ (f : Spots). f r) (ap spots_of_expr (sym (v.rolls-And i a b)) ∙ fold-roll-Expr Spots expr_step (e.And i a b))

pub expr_Or : (i : ℕ) (a b : Expr) (r : List Scope) → spots_of_expr (v.Or i a b) r ≡ plain r ∷ (spots_of_expr a r ++ spots_of_expr b r)
expr_Or i a b r =
    ap (λ (f : Spots). f r) (ap spots_of_expr (sym (v.rolls-Or i a b)) ∙ fold-roll-Expr Spots expr_step (e.Or i a b))

pub expr_Not : (i : ℕ) (a : Expr) (r : List Scope) → spots_of_expr (v.Not i a) r ≡ plain r ∷ spots_of_expr a r
expr_Not i a r =
    ap (λ (f : Spots). f r) (ap spots_of_expr (sym (v.rolls-Not i a)) ∙ fold-roll-Expr Spots expr_step (e.Not i a))

pub expr_Compare : (i : ℕ) (ops : List CompareOp) (xs : List Expr) (r : List Scope)
    → spots_of_expr (v.Compare i ops xs) r ≡ plain r ∷ spots_of_exprs xs r
expr_Compare i ops xs r =
    ap (λ (f : Spots). f r) (ap spots_of_expr (sym (v.rolls-Compare i ops xs)) ∙ fold-roll-Expr Spots expr_step (e.Compare i ops xs))
    ∙ behind (plain r) (each_map xs r)

pub expr_Binary : (i : ℕ) (a : Expr) (o : BinaryOp) (b : Expr) (r : List Scope)
    → spots_of_expr (v.Binary i a o b) r ≡ plain r ∷ (spots_of_expr a r ++ spots_of_expr b r)
expr_Binary i a o b r =
    ap (λ (f : Spots). f r) (ap spots_of_expr (sym (v.rolls-Binary i a o b)) ∙ fold-roll-Expr Spots expr_step (e.Binary i a o b))

pub expr_Sign : (i : ℕ) (o : SignOp) (a : Expr) (r : List Scope) → spots_of_expr (v.Sign i o a) r ≡ plain r ∷ spots_of_expr a r
expr_Sign i o a r =
    ap (λ (f : Spots). f r) (ap spots_of_expr (sym (v.rolls-Sign i o a)) ∙ fold-roll-Expr Spots expr_step (e.Sign i o a))

pub expr_Attr : (i : ℕ) (a : Expr) (t : List ℕ) (r : List Scope) → spots_of_expr (v.Attr i a t) r ≡ plain r ∷ spots_of_expr a r
expr_Attr i a t r =
    ap (λ (f : Spots). f r) (ap spots_of_expr (sym (v.rolls-Attr i a t)) ∙ fold-roll-Expr Spots expr_step (e.Attr i a t))

pub expr_Item : (i : ℕ) (a b : Expr) (r : List Scope) → spots_of_expr (v.Item i a b) r ≡ plain r ∷ (spots_of_expr a r ++ spots_of_expr b r)
expr_Item i a b r =
    ap (λ (f : Spots). f r) (ap spots_of_expr (sym (v.rolls-Item i a b)) ∙ fold-roll-Expr Spots expr_step (e.Item i a b))

pub expr_Call : (i : ℕ) (f : Expr) (xs : List Expr) (r : List Scope)
    → spots_of_expr (v.Call i f xs) r ≡ plain r ∷ (spots_of_expr f r ++ spots_of_exprs xs r)
expr_Call i f xs r =
    ap (λ (f : Spots). f r) (ap spots_of_expr (sym (v.rolls-Call i f xs)) ∙ fold-roll-Expr Spots expr_step (e.Call i f xs))
    ∙ behind (plain r) (after (spots_of_expr f r) (each_map xs r))

pub stmt_Expr : (i : ℕ) (x : Expr) (r : List Scope) → spots_of_stmt (w.Expr i x) r ≡ plain r ∷ spots_of_expr x r
stmt_Expr i x r =
    ap (λ (f : Spots). f r) (ap spots_of_stmt (sym (w.rolls-Expr i x))
    ∙ para-roll-Stmt Spots Spots Spots stmt_step branch_step handler_step (s.Expr i x))

pub stmt_Assign : (i : ℕ) (ts : List Expr) (x : Expr) (r : List Scope)
    → spots_of_stmt (w.Assign i ts x) r ≡ plain r ∷ (spots_of_exprs ts r ++ spots_of_expr x r)
stmt_Assign i ts x r =
    ap (λ (f : Spots). f r) (ap spots_of_stmt (sym (w.rolls-Assign i ts x))
    ∙ para-roll-Stmt Spots Spots Spots stmt_step branch_step handler_step (s.Assign i ts x))

pub stmt_Augment : (i : ℕ) (p : Expr) (o : BinaryOp) (x : Expr) (r : List Scope)
    → spots_of_stmt (w.Augment i p o x) r ≡ plain r ∷ (spots_of_expr p r ++ spots_of_expr x r)
stmt_Augment i p o x r =
    ap (λ (f : Spots). f r) (ap spots_of_stmt (sym (w.rolls-Augment i p o x))
    ∙ para-roll-Stmt Spots Spots Spots stmt_step branch_step handler_step (s.Augment i p o x))

pub stmt_Pass : (i : ℕ) (r : List Scope) → spots_of_stmt (w.Pass i) r ≡ plain r ∷ []
stmt_Pass i r =
    ap (λ (f : Spots). f r) (ap spots_of_stmt (sym (w.rolls-Pass i))
    ∙ para-roll-Stmt Spots Spots Spots stmt_step branch_step handler_step (s.Pass i))

pub stmt_Break : (i : ℕ) (r : List Scope) → spots_of_stmt (w.Break i) r ≡ plain r ∷ []
stmt_Break i r =
    ap (λ (f : Spots). f r) (ap spots_of_stmt (sym (w.rolls-Break i))
    ∙ para-roll-Stmt Spots Spots Spots stmt_step branch_step handler_step (s.Break i))

pub stmt_Continue : (i : ℕ) (r : List Scope) → spots_of_stmt (w.Continue i) r ≡ plain r ∷ []
stmt_Continue i r =
    ap (λ (f : Spots). f r) (ap spots_of_stmt (sym (w.rolls-Continue i))
    ∙ para-roll-Stmt Spots Spots Spots stmt_step branch_step handler_step (s.Continue i))

pub stmt_Return : (i : ℕ) (x : Option Expr) (r : List Scope) → spots_of_stmt (w.Return i x) r ≡ plain r ∷ spots_of_maybe x r
stmt_Return i x r =
    ap (λ (f : Spots). f r) (ap spots_of_stmt (sym (w.rolls-Return i x))
    ∙ para-roll-Stmt Spots Spots Spots stmt_step branch_step handler_step (s.Return i x))

pub stmt_Raise : (i : ℕ) (x : Option Expr) (r : List Scope) → spots_of_stmt (w.Raise i x) r ≡ plain r ∷ spots_of_maybe x r
stmt_Raise i x r =
    ap (λ (f : Spots). f r) (ap spots_of_stmt (sym (w.rolls-Raise i x))
    ∙ para-roll-Stmt Spots Spots Spots stmt_step branch_step handler_step (s.Raise i x))

pub stmt_Global : (i : ℕ) (names : List (List ℕ)) (r : List Scope) → spots_of_stmt (w.Global i names) r ≡ plain r ∷ []
stmt_Global i names r =
    ap (λ (f : Spots). f r) (ap spots_of_stmt (sym (w.rolls-Global i names))
    ∙ para-roll-Stmt Spots Spots Spots stmt_step branch_step handler_step (s.Global i names))

pub stmt_Nonlocal : (i : ℕ) (names : List (List ℕ)) (r : List Scope) → spots_of_stmt (w.Nonlocal i names) r ≡ plain r ∷ []
stmt_Nonlocal i names r =
    ap (λ (f : Spots). f r) (ap spots_of_stmt (sym (w.rolls-Nonlocal i names))
    ∙ para-roll-Stmt Spots Spots Spots stmt_step branch_step handler_step (s.Nonlocal i names))

pub stmt_Del : (i : ℕ) (x : Expr) (r : List Scope) → spots_of_stmt (w.Del i x) r ≡ plain r ∷ spots_of_expr x r
stmt_Del i x r =
    ap (λ (f : Spots). f r) (ap spots_of_stmt (sym (w.rolls-Del i x))
    ∙ para-roll-Stmt Spots Spots Spots stmt_step branch_step handler_step (s.Del i x))

pub stmt_Assert : (i : ℕ) (t : Expr) (x : Option Expr) (r : List Scope)
    → spots_of_stmt (w.Assert i t x) r ≡ plain r ∷ (spots_of_expr t r ++ spots_of_maybe x r)
stmt_Assert i t x r =
    ap (λ (f : Spots). f r) (ap spots_of_stmt (sym (w.rolls-Assert i t x))
    ∙ para-roll-Stmt Spots Spots Spots stmt_step branch_step handler_step (s.Assert i t x))

pub stmt_If : (i : ℕ) (bs : List Branch) (o : List Stmt) (r : List Scope)
    → spots_of_stmt (w.If i bs o) r ≡ plain r ∷ (spots_of_branches bs r ++ spots_of_block o r)
stmt_If i bs o r =
    ap (λ (f : Spots). f r) (ap spots_of_stmt (sym (w.rolls-If i bs o))
    ∙ para-roll-Stmt Spots Spots Spots stmt_step branch_step handler_step (s.If i bs o))
    ∙ behind (plain r) (both (branches_map bs r) (stmts_map o r))

pub stmt_While : (i : ℕ) (x : Expr) (b o : List Stmt) (r : List Scope)
    → spots_of_stmt (w.While i x b o) r ≡ plain r ∷ (spots_of_expr x r ++ (spots_of_block b r ++ spots_of_block o r))
stmt_While i x b o r =
    ap (λ (f : Spots). f r) (ap spots_of_stmt (sym (w.rolls-While i x b o))
    ∙ para-roll-Stmt Spots Spots Spots stmt_step branch_step handler_step (s.While i x b o))
    ∙ behind (plain r) (after (spots_of_expr x r) (both (stmts_map b r) (stmts_map o r)))

pub stmt_For : (i : ℕ) (t x : Expr) (b o : List Stmt) (r : List Scope)
    → spots_of_stmt (w.For i t x b o) r ≡ plain r ∷
    (spots_of_expr t r ++ (spots_of_expr x r ++ (spots_of_block b r ++ spots_of_block o r)))
stmt_For i t x b o r =
    ap (λ (f : Spots). f r) (ap spots_of_stmt (sym (w.rolls-For i t x b o))
    ∙ para-roll-Stmt Spots Spots Spots stmt_step branch_step handler_step (s.For i t x b o))
    ∙ behind (plain r) (after (spots_of_expr t r) (after (spots_of_expr x r) (both (stmts_map b r) (stmts_map o r))))

pub stmt_Try : (i : ℕ) (b : List Stmt) (hs : List Handler) (o f : List Stmt) (r : List Scope)
    → spots_of_stmt (w.Try i b hs o f) r ≡ plain r ∷
    (spots_of_block b r ++ (spots_of_handlers hs r ++ (spots_of_block o r ++ spots_of_block f r)))
stmt_Try i b hs o f r =
    ap (λ (f : Spots). f r) (ap spots_of_stmt (sym (w.rolls-Try i b hs o f))
    ∙ para-roll-Stmt Spots Spots Spots stmt_step branch_step handler_step (s.Try i b hs o f))
    ∙ behind (plain r) (both (stmts_map b r) (both (handlers_map hs r) (both (stmts_map o r) (stmts_map f r))))

-- a body, once its statements are those of the tree
def_body : (params : List (List ℕ)) (ds : List Expr) (all b : List Stmt) (r : List Scope) → all ≡ b
    → (coded r (def_code params all) ∷ (spots_of_exprs ds r ++ spots_of_block b (scope_of (def_code params all) ∷ r)))
    ≡ (coded r (def_code params b) ∷ (spots_of_exprs ds r ++ spots_of_block b (scope_of (def_code params b) ∷ r)))
def_body params ds all b r e =
    ap (λ (z : List Stmt). coded r (def_code params z) ∷ (spots_of_exprs ds r ++ spots_of_block b (scope_of (def_code params z) ∷ r))) e

class_body : (base : Option Expr) (all b : List Stmt) (r : List Scope) → all ≡ b
    → (coded r (class_code all) ∷ (spots_of_maybe base r ++ spots_of_block b (scope_of (class_code all) ∷ r)))
    ≡ (coded r (class_code b) ∷ (spots_of_maybe base r ++ spots_of_block b (scope_of (class_code b) ∷ r)))
class_body base all b r e =
    ap (λ (z : List Stmt). coded r (class_code z) ∷ (spots_of_maybe base r ++ spots_of_block b (scope_of (class_code z) ∷ r))) e

pub stmt_Def : (i : ℕ) (name : List ℕ) (params : List (List ℕ)) (ds : List Expr) (b : List Stmt) (r : List Scope)
    → spots_of_stmt (w.Def i name params ds b) r
    ≡ coded r (def_code params b) ∷ (spots_of_exprs ds r ++ spots_of_block b (scope_of (def_code params b) ∷ r))
stmt_Def i name params ds b r =
    let all = statements (map (λ (y : Stmt). (y, spots_of_stmt y)) b) in
    ap (λ (f : Spots). f r) (ap spots_of_stmt (sym (w.rolls-Def i name params ds b))
    ∙ para-roll-Stmt Spots Spots Spots stmt_step branch_step handler_step (s.Def i name params ds b))
    ∙ behind (coded r (def_code params all)) (after (spots_of_exprs ds r) (stmts_map b (scope_of (def_code params all) ∷ r)))
    ∙ def_body params ds all b r (statements_map b)

pub stmt_Class : (i : ℕ) (name : List ℕ) (base : Option Expr) (b : List Stmt) (r : List Scope)
    → spots_of_stmt (w.Class i name base b) r
    ≡ coded r (class_code b) ∷ (spots_of_maybe base r ++ spots_of_block b (scope_of (class_code b) ∷ r))
stmt_Class i name base b r =
    let all = statements (map (λ (y : Stmt). (y, spots_of_stmt y)) b) in
    ap (λ (f : Spots). f r) (ap spots_of_stmt (sym (w.rolls-Class i name base b))
    ∙ para-roll-Stmt Spots Spots Spots stmt_step branch_step handler_step (s.Class i name base b))
    ∙ behind (coded r (class_code all)) (after (spots_of_maybe base r) (stmts_map b (scope_of (class_code all) ∷ r)))
    ∙ class_body base all b r (statements_map b)

pub in_branch : (b : Branch) (r : List Scope) → spots_of_branch b r
    ≡ spots_of_expr (out-Branch b).test r ++ spots_of_block (out-Branch b).body r
in_branch b r =
    ap (λ (f : Spots). f r) (ap spots_of_branch (sym (roll-out-Branch b))
    ∙ para-roll-Branch Spots Spots Spots stmt_step branch_step handler_step (out-Branch b))
    ∙ after (spots_of_expr (out-Branch b).test r) (stmts_map (out-Branch b).body r)

pub in_handler : (h : Handler) (r : List Scope)
    → spots_of_handler h r ≡ plain r ∷ (spots_of_maybe (out-Handler h).class r ++ spots_of_block (out-Handler h).body r)
in_handler h r =
    ap (λ (f : Spots). f r) (ap spots_of_handler (sym (roll-out-Handler h))
    ∙ para-roll-Handler Spots Spots Spots stmt_step branch_step handler_step (out-Handler h))
    ∙ behind (plain r) (after (spots_of_maybe (out-Handler h).class r) (stmts_map (out-Handler h).body r))

-- ---- the walk through a `def` or a `class`

pub def_walked : (x : Stmt) (i : ℕ) (name : List ℕ) (params : List (List ℕ)) (ds : List Expr) (b all : List Stmt) (r inside : List Scope)
    (first next last : Built)
    (result : Result (Unit {0}) NoMemory) → x ≡ w.Def i name params ds b
    → next ≡ with_spots first (coded r (def_code params b) ∷ spots_of_exprs ds r)
    → inside ≡ scope_of (def_code params b) ∷ r → all ≡ b → OnOk result (last ≡ with_spots next (spots_of_block all inside))
    → OnOk result (last ≡ with_spots first (spots_of_stmt x r))
def_walked x i name params ds b all r inside first next last result is is_next is_inside is_all h =
    let whole : with_spots next (spots_of_block all inside) ≡ with_spots first (spots_of_stmt x r) =
    ap (λ (z : List Stmt). with_spots next (spots_of_block z inside)) is_all
    ∙ ap (λ (z : List Scope). with_spots next (spots_of_block b z)) is_inside
    ∙ ap (λ (z : Built). with_spots z (spots_of_block b (scope_of (def_code params b) ∷ r))) is_next
    ∙ sym (with_spots_append first (coded r (def_code params b) ∷ spots_of_exprs ds r)
    (spots_of_block b (scope_of (def_code params b) ∷ r)))
    ∙ ap (with_spots first) (sym (ap (λ (z : Stmt). spots_of_stmt z r) is ∙ stmt_Def i name params ds b r)) in
    subst (λ (z : Built). OnOk result (last ≡ z)) whole h

pub class_walked : (x : Stmt) (i : ℕ) (name : List ℕ) (base : Option Expr) (b all : List Stmt) (r inside : List Scope)
    (first next last : Built)
    (result : Result (Unit {0}) NoMemory) → x ≡ w.Class i name base b
    → next ≡ with_spots first (coded r (class_code b) ∷ spots_of_maybe base r)
    → inside ≡ scope_of (class_code b) ∷ r → all ≡ b → OnOk result (last ≡ with_spots next (spots_of_block all inside))
    → OnOk result (last ≡ with_spots first (spots_of_stmt x r))
class_walked x i name base b all r inside first next last result is is_next is_inside is_all h =
    let whole : with_spots next (spots_of_block all inside) ≡ with_spots first (spots_of_stmt x r) =
    ap (λ (z : List Stmt). with_spots next (spots_of_block z inside)) is_all
    ∙ ap (λ (z : List Scope). with_spots next (spots_of_block b z)) is_inside
    ∙ ap (λ (z : Built). with_spots z (spots_of_block b (scope_of (class_code b) ∷ r))) is_next
    ∙ sym (with_spots_append first (coded r (class_code b) ∷ spots_of_maybe base r) (spots_of_block b (scope_of (class_code b) ∷ r)))
    ∙ ap (with_spots first) (sym (ap (λ (z : Stmt). spots_of_stmt z r) is ∙ stmt_Class i name base b r)) in
    subst (λ (z : Built). OnOk result (last ≡ z)) whole h
