-- What each form of statement stands for, and the numbers of its nodes.
use Rattle.std.proofs.Common.{◌≡◌, ℕ, Bool, true, List, [], ◌∷◌, ◌++◌, map, refl, sym, ap, ◌∙◌, Option, option_map}
use Rattle.py_ast.specs.Tree.{Tree}
use Rattle.py_ast.specs.Statement as t
use Rattle.std.proofs.lemmas.List.{map-append}
use Rattle.py_ast.specs.Nodes.{Node, below_stmt, nodes, nodes_of_all, nodes_of_block, nodes_of_branches, nodes_of_handlers, nodes_of_maybe, number_of, stmt_number, stmt_number_in}
use Rattle.py_ast.specs.View.{view, views}
use Rattle.py_ast.specs.declared.expr.Expr.{Expr}
use Rattle.py_ast.proofs.Below.{below_stmt_Class, below_stmt_Def, below_stmt_For, below_stmt_If, below_stmt_Try, below_stmt_While}
use Rattle.py_line.specs.Form.{numbers, statements_of}
use Rattle.py_block.specs.LevelViews.{block_numbers, branch_numbers, branch_of, expr_numbers, exprs_numbers, handler_numbers, handler_of, maybe_numbers, stmt_numbers}
use Rattle.py_ast.specs.Statement.{Statement, Block, block_of, branches_of, handlers_of, view_stmt, view_stmt_step, view_branch_step, view_handler_step}
use Rattle.py_ast.specs.Lawful.{Place}
use Rattle.py_ast.specs.declared.stmt.Stmt.{Stmt, roll-Stmt, out-Stmt}
use Rattle.py_ast.specs.declared.stmt.Stmt.TheVariants as w
use Rattle.py_ast.specs.declared.stmt.Branch.{Branch, out-Branch}
use Rattle.py_ast.specs.declared.stmt.Handler.{Handler, out-Handler}
use Rattle.py_ast.specs.declared.stmt.Stmt.TheOpen as s
use Rattle.py_ast.specs.declared.stmt.Stmt.TheOpen.{Stmt-F}
use Rattle.py_ast.specs.declared.stmt.Stmt.TheFolds.{fold-Branch, fold-Handler, map-Stmt, fold-roll-Stmt, fold-roll-Branch, fold-roll-Handler}
use Rattle.py_ast.specs.declared.stmt.Stmt.TheViews.{out-roll-Stmt, roll-out-Stmt, roll-out-Branch, roll-out-Handler}
use Rattle.py_grammar.specs.Blocks.{is_allowed}

abbrev BranchParts : Type 0
BranchParts = Tree × Block

abbrev HandlerParts : Type 0
HandlerParts = Option Tree × Option (List ℕ) × Block

abbrev view_branch : Branch → BranchParts
view_branch = fold-Branch Statement BranchParts HandlerParts view_stmt_step view_branch_step view_handler_step

abbrev view_handler : Handler → HandlerParts
view_handler = fold-Handler Statement BranchParts HandlerParts view_stmt_step view_branch_step view_handler_step

abbrev rolled : (f : Stmt-F Stmt Branch Handler) → view_stmt (roll-Stmt f) ≡ view_stmt_step (map-Stmt Stmt Branch Handler Statement BranchParts HandlerParts view_stmt view_branch view_handler f)
rolled f = fold-roll-Stmt Statement BranchParts HandlerParts view_stmt_step view_branch_step view_handler_step f

-- whether a form of statement may stand at a place
abbrev pub form_allowed : {A B C : Type 0} → Place → Stmt-F A B C → Bool
form_allowed p (s.Return i x) = p.in_def
form_allowed p (s.Break i) = p.in_loop
form_allowed p (s.Continue i) = p.in_loop
form_allowed p _ = true

allowed_rolled : (p : Place) (f : Stmt-F Stmt Branch Handler) → is_allowed p (view_stmt (roll-Stmt f)) ≡ form_allowed p f
allowed_rolled p (s.Expr i x) = ap (is_allowed p) (rolled (s.Expr i x))
allowed_rolled p (s.Assign i ts x) = ap (is_allowed p) (rolled (s.Assign i ts x))
allowed_rolled p (s.Augment i q o x) = ap (is_allowed p) (rolled (s.Augment i q o x))
allowed_rolled p (s.Pass i) = ap (is_allowed p) (rolled (s.Pass i))
allowed_rolled p (s.Break i) = ap (is_allowed p) (rolled (s.Break i))
allowed_rolled p (s.Continue i) = ap (is_allowed p) (rolled (s.Continue i))
allowed_rolled p (s.Return i x) = ap (is_allowed p) (rolled (s.Return i x))
allowed_rolled p (s.Raise i x) = ap (is_allowed p) (rolled (s.Raise i x))
allowed_rolled p (s.Global i names) = ap (is_allowed p) (rolled (s.Global i names))
allowed_rolled p (s.Nonlocal i names) = ap (is_allowed p) (rolled (s.Nonlocal i names))
allowed_rolled p (s.Del i x) = ap (is_allowed p) (rolled (s.Del i x))
allowed_rolled p (s.Assert i x m) = ap (is_allowed p) (rolled (s.Assert i x m))
allowed_rolled p (s.If i bs o) = ap (is_allowed p) (rolled (s.If i bs o))
allowed_rolled p (s.While i x b o) = ap (is_allowed p) (rolled (s.While i x b o))
allowed_rolled p (s.For i t x b o) = ap (is_allowed p) (rolled (s.For i t x b o))
allowed_rolled p (s.Try i b hs o f) = ap (is_allowed p) (rolled (s.Try i b hs o f))
allowed_rolled p (s.Def i name ps ds b) = ap (is_allowed p) (rolled (s.Def i name ps ds b))
allowed_rolled p (s.Class i name base b) = ap (is_allowed p) (rolled (s.Class i name base b))

pub allowed_form : (p : Place) (x : Stmt) → is_allowed p (view_stmt x) ≡ form_allowed p (out-Stmt x)
allowed_form p x = ap (λ (y : Stmt). is_allowed p (view_stmt y)) (sym (roll-out-Stmt x)) ∙ allowed_rolled p (out-Stmt x)

-- ---- what compound statements stand for

branch_again : (b : Branch) → view_branch b ≡ branch_of b
branch_again b =
    ap view_branch (sym (roll-out-Branch b)) ∙ fold-roll-Branch Statement BranchParts HandlerParts view_stmt_step view_branch_step view_handler_step (out-Branch b)

handler_again : (h : Handler) → view_handler h ≡ handler_of h
handler_again h =
    ap view_handler (sym (roll-out-Handler h)) ∙ fold-roll-Handler Statement BranchParts HandlerParts view_stmt_step view_branch_step view_handler_step (out-Handler h)

branches_again : (bs : List Branch) → map view_branch bs ≡ map branch_of bs
branches_again [] = refl
branches_again (b ∷ bs) = λ i. branch_again b i ∷ branches_again bs i

handlers_again : (hs : List Handler) → map view_handler hs ≡ map handler_of hs
handlers_again [] = refl
handlers_again (h ∷ hs) = λ i. handler_again h i ∷ handlers_again hs i

pub seen_If : (i : ℕ) (bs : List Branch) (b : List Stmt)
    → view_stmt (w.If i bs b) ≡ t.choose (branches_of (map branch_of bs)) (block_of (statements_of b))
seen_If i bs b =
    ap view_stmt (sym (w.rolls-If i bs b)) ∙ rolled (s.If i bs b) ∙ ap (λ z. t.choose (branches_of z) (block_of (statements_of b))) (branches_again bs)

pub seen_While : (i : ℕ) (x : Expr) (b c : List Stmt)
    → view_stmt (w.While i x b c) ≡ t.while (view x) (block_of (statements_of b)) (block_of (statements_of c))
seen_While i x b c = ap view_stmt (sym (w.rolls-While i x b c)) ∙ rolled (s.While i x b c)

pub seen_For : (i : ℕ) (target x : Expr) (b c : List Stmt)
    → view_stmt (w.For i target x b c) ≡ t.for (view target) (view x) (block_of (statements_of b)) (block_of (statements_of c))
seen_For i target x b c = ap view_stmt (sym (w.rolls-For i target x b c)) ∙ rolled (s.For i target x b c)

pub seen_Try : (i : ℕ) (b : List Stmt) (hs : List Handler) (c d : List Stmt)
    → view_stmt (w.Try i b hs c d)
    ≡ t.try (block_of (statements_of b)) (handlers_of (map handler_of hs)) (block_of (statements_of c)) (block_of (statements_of d))
seen_Try i b hs c d =
    ap view_stmt (sym (w.rolls-Try i b hs c d)) ∙ rolled (s.Try i b hs c d)
    ∙ ap (λ z. t.try (block_of (statements_of b)) (handlers_of z) (block_of (statements_of c)) (block_of (statements_of d))) (handlers_again hs)

pub seen_Def : (i : ℕ) (x : List ℕ) (names : List (List ℕ)) (ds : List Expr) (b : List Stmt)
    → view_stmt (w.Def i x names ds b) ≡ t.define x names (views ds) (block_of (statements_of b))
seen_Def i x names ds b = ap view_stmt (sym (w.rolls-Def i x names ds b)) ∙ rolled (s.Def i x names ds b)

pub seen_Class : (i : ℕ) (x : List ℕ) (base : Option Expr) (b : List Stmt)
    → view_stmt (w.Class i x base b) ≡ t.class x (option_map view base) (block_of (statements_of b))
seen_Class i x base b = ap view_stmt (sym (w.rolls-Class i x base b)) ∙ rolled (s.Class i x base b)

-- ---- the numbers of their nodes

plus : (xs ys : List Node) → numbers (xs ++ ys) ≡ numbers xs ++ numbers ys
plus xs ys = map-append number_of xs ys

plus_two : (xs ys zs : List Node) → numbers (xs ++ (ys ++ zs)) ≡ numbers xs ++ (numbers ys ++ numbers zs)
plus_two xs ys zs = plus xs (ys ++ zs) ∙ ap (λ z. numbers xs ++ z) (plus ys zs)

plus_three : (xs ys zs us : List Node) → numbers (xs ++ (ys ++ (zs ++ us))) ≡ numbers xs ++ (numbers ys ++ (numbers zs ++ numbers us))
plus_three xs ys zs us = plus xs (ys ++ (zs ++ us)) ∙ ap (λ z. numbers xs ++ z) (plus_two ys zs us)

-- the number of a statement, and the numbers below it
first_and_below : (x : Stmt) (i : ℕ) (ns : List ℕ) (below : List Node) → stmt_number x ≡ i → below_stmt x ≡ below → numbers below ≡ ns
    → stmt_numbers x ≡ i ∷ ns
unfolding stmt_numbers
first_and_below x i ns below e f g = λ k. e k ∷ (ap numbers f ∙ g) k

number_rolled : (f : Stmt-F Stmt Branch Handler) → stmt_number (roll-Stmt f) ≡ stmt_number_in f
number_rolled f = ap stmt_number_in (out-roll-Stmt f)

pub numbers_If : (i : ℕ) (bs : List Branch) (b : List Stmt) → stmt_numbers (w.If i bs b) ≡ i ∷ (branch_numbers bs ++ block_numbers b)
unfolding branch_numbers block_numbers
numbers_If i bs b =
    first_and_below (w.If i bs b) i (numbers (nodes_of_branches bs) ++ numbers (nodes_of_block b)) (nodes_of_branches bs ++ nodes_of_block b) (ap stmt_number (sym (w.rolls-If i bs b)) ∙ number_rolled (s.If i bs b))
    (below_stmt_If i bs b) (plus (nodes_of_branches bs) (nodes_of_block b))

pub numbers_While : (i : ℕ) (x : Expr) (b c : List Stmt) → stmt_numbers (w.While i x b c) ≡ i ∷ (expr_numbers x ++ (block_numbers b ++ block_numbers c))
unfolding expr_numbers block_numbers
numbers_While i x b c =
    first_and_below (w.While i x b c) i (numbers (nodes x) ++ (numbers (nodes_of_block b) ++ numbers (nodes_of_block c)))
    (nodes x ++ (nodes_of_block b ++ nodes_of_block c)) (ap stmt_number (sym (w.rolls-While i x b c)) ∙ number_rolled (s.While i x b c)) (below_stmt_While i x b c) (plus_two (nodes x) (nodes_of_block b) (nodes_of_block c))

pub numbers_For : (i : ℕ) (target x : Expr) (b c : List Stmt)
    → stmt_numbers (w.For i target x b c) ≡ i ∷ (expr_numbers target ++ (expr_numbers x ++ (block_numbers b ++ block_numbers c)))
unfolding expr_numbers block_numbers
numbers_For i target x b c =
    first_and_below (w.For i target x b c) i
    (numbers (nodes target) ++ (numbers (nodes x) ++ (numbers (nodes_of_block b) ++ numbers (nodes_of_block c))))
    (nodes target ++ (nodes x ++ (nodes_of_block b ++ nodes_of_block c))) (ap stmt_number (sym (w.rolls-For i target x b c)) ∙ number_rolled (s.For i target x b c)) (below_stmt_For i target x b c)
    (plus_three (nodes target) (nodes x) (nodes_of_block b) (nodes_of_block c))

pub numbers_Try : (i : ℕ) (b : List Stmt) (hs : List Handler) (c d : List Stmt)
    → stmt_numbers (w.Try i b hs c d) ≡ i ∷ (block_numbers b ++ (handler_numbers hs ++ (block_numbers c ++ block_numbers d)))
unfolding block_numbers handler_numbers
numbers_Try i b hs c d =
    first_and_below (w.Try i b hs c d) i
    (numbers (nodes_of_block b) ++ (numbers (nodes_of_handlers hs) ++ (numbers (nodes_of_block c) ++ numbers (nodes_of_block d))))
    (nodes_of_block b ++ (nodes_of_handlers hs ++ (nodes_of_block c ++ nodes_of_block d))) (ap stmt_number (sym (w.rolls-Try i b hs c d)) ∙ number_rolled (s.Try i b hs c d)) (below_stmt_Try i b hs c d)
    (plus_three (nodes_of_block b) (nodes_of_handlers hs) (nodes_of_block c) (nodes_of_block d))

pub numbers_Def : (i : ℕ) (x : List ℕ) (names : List (List ℕ)) (ds : List Expr) (b : List Stmt)
    → stmt_numbers (w.Def i x names ds b) ≡ i ∷ (exprs_numbers ds ++ block_numbers b)
unfolding exprs_numbers block_numbers
numbers_Def i x names ds b =
    first_and_below (w.Def i x names ds b) i (numbers (nodes_of_all ds) ++ numbers (nodes_of_block b)) (nodes_of_all ds ++ nodes_of_block b) (ap stmt_number (sym (w.rolls-Def i x names ds b)) ∙ number_rolled (s.Def i x names ds b))
    (below_stmt_Def i x names ds b) (plus (nodes_of_all ds) (nodes_of_block b))

pub numbers_Class : (i : ℕ) (x : List ℕ) (base : Option Expr) (b : List Stmt)
    → stmt_numbers (w.Class i x base b) ≡ i ∷ (maybe_numbers base ++ block_numbers b)
unfolding maybe_numbers block_numbers
numbers_Class i x base b =
    first_and_below (w.Class i x base b) i (numbers (nodes_of_maybe base) ++ numbers (nodes_of_block b)) (nodes_of_maybe base ++ nodes_of_block b) (ap stmt_number (sym (w.rolls-Class i x base b)) ∙ number_rolled (s.Class i x base b))
    (below_stmt_Class i x base b) (plus (nodes_of_maybe base) (nodes_of_block b))
