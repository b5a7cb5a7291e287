-- The plain levels that the program's own levels stand for, and the numbers of the nodes in them, in the order of the text.
use Rattle.std.specs.Prelude.{◌≡◌, ℕ, ◌+◌, List, [], ◌∷◌, ◌++◌, map, Option, option_map}
use Rattle.py_ast.specs.View.{view, views}
use Rattle.py_ast.specs.Statement.{view_stmt, block_of}
use Rattle.py_ast.specs.Nodes.{nodes, nodes_of_all, nodes_of_maybe, nodes_of_block, nodes_of_stmt, nodes_of_branches, nodes_of_handlers}
use Rattle.py_ast.specs.Lawful as lawful
use Rattle.py_ast.specs.declared.expr.Expr.{Expr}
use Rattle.py_ast.specs.declared.stmt.Stmt.{Stmt}
use Rattle.py_ast.specs.declared.stmt.Branch.{Branch, out-Branch}
use Rattle.py_ast.specs.declared.stmt.Handler.{Handler, out-Handler}
use Rattle.py_line.specs.Form.{statements_of, numbers}
use Rattle.py_block.specs.Machine as m
use Rattle.py_block.specs.Opened.{Opened}
use Rattle.py_block.specs.declared.level_parts.Body.{Body}
use Rattle.py_block.specs.declared.level_parts.Place.{Place}
use Rattle.py_block.specs.declared.level_parts.Waiting.{Waiting}
use Rattle.py_block.specs.declared.level_parts.Waiting.TheVariants as w
use Rattle.py_block.specs.declared.level_parts.After.{After}
use Rattle.py_block.specs.declared.level_parts.After.TheVariants as a
use Rattle.py_block.specs.declared.level_parts.Last.{Last}
use Rattle.py_block.specs.declared.level_parts.Last.TheVariants as l
use Rattle.py_block.specs.declared.level_parts.Row.{Row}
use Rattle.py_block.specs.declared.level_parts.Outer.{Outer}
use Rattle.py_block.specs.declared.level_parts.Open.{Open}

-- ---- plain parts

abbrev pub branch_of : Branch → m.Branch
branch_of b = (view (out-Branch b).test, block_of (statements_of (out-Branch b).body))

abbrev pub handler_of : Handler → m.Clause
handler_of h = (option_map view (out-Handler h).class, (out-Handler h).name, block_of (statements_of (out-Handler h).body))

abbrev pub place_at : ℕ → Body → lawful.Place
place_at deep body = record { deep = deep; in_def = body.in_def; in_loop = body.in_loop }

abbrev pub place_of : Place → lawful.Place
place_of p = place_at p.deep p.body

abbrev pub waiting_of : Waiting → m.Waiting
waiting_of (w.IfBody i bs test) = m.if_body (map branch_of bs.items) (view test)
waiting_of (w.IfElse i bs) = m.if_else (map branch_of bs.items)
waiting_of (w.WhileBody i test) = m.while_body (view test)
waiting_of (w.WhileElse i test body) = m.while_else (view test) (block_of (statements_of body))
waiting_of (w.ForBody i target a) = m.for_body (view target) (view a)
waiting_of (w.ForElse i target a body) = m.for_else (view target) (view a) (block_of (statements_of body))
waiting_of (w.TryBody i) = m.try_body
waiting_of (w.ExceptBody i body hs c) =
    m.except_body (block_of (statements_of body)) (map handler_of hs.items) (option_map view c.class) c.name
waiting_of (w.TryElse i body hs) = m.try_else (block_of (statements_of body)) (map handler_of hs.items)
waiting_of (w.FinallyBody i body hs otherwise) =
    m.finally_body (block_of (statements_of body)) (map handler_of hs.items) (block_of (statements_of otherwise))
waiting_of (w.DefBody i x names defaults) = m.def_body x names (views defaults)
waiting_of (w.ClassBody i x base) = m.class_body x (option_map view base)

abbrev pub after_of : After → m.Last
after_of (a.If i bs) = m.after_if (map branch_of bs.items)
after_of (a.While i test body) = m.after_while (view test) (block_of (statements_of body))
after_of (a.For i target x body) = m.after_for (view target) (view x) (block_of (statements_of body))
after_of (a.Try i body) = m.after_try (block_of (statements_of body))
after_of (a.Except i body hs more) = m.after_except (block_of (statements_of body)) (map handler_of hs.items) more
after_of (a.Else i body hs otherwise) =
    m.after_else (block_of (statements_of body)) (map handler_of hs.items) (block_of (statements_of otherwise))

abbrev pub last_of : Last → m.Last
last_of l.Nothing = m.nothing
last_of (l.Whole x) = m.whole (view_stmt x)
last_of (l.After x) = after_of x
last_of (l.Waits w) = m.waits (waiting_of w)

abbrev pub row_of : Row → m.Row
row_of r = (statements_of r.done.items, last_of r.last)

abbrev pub outer_of : Outer → m.Outer
outer_of o = record { place = place_of o.place; done = statements_of o.done.items; waiting = waiting_of o.waiting }

-- the levels round the innermost, which are kept from the outside, from within
abbrev pub outers_onto : List m.Outer → List Outer → List m.Outer
outers_onto found [] = found
outers_onto found (o ∷ os) = outers_onto (outer_of o ∷ found) os

unfoldable pub outers_of : List Outer → List m.Outer
outers_of os = outers_onto [] os

abbrev pub state_of : Open → m.State
state_of o = record { outers = outers_of o.outers.items; place = place_of o.place; done = statements_of o.row.done.items; last = last_of o.row.last }

-- ---- numbers

unfoldable pub expr_numbers : Expr → List ℕ
expr_numbers x = numbers (nodes x)

unfoldable pub exprs_numbers : List Expr → List ℕ
exprs_numbers xs = numbers (nodes_of_all xs)

unfoldable pub maybe_numbers : Option Expr → List ℕ
maybe_numbers x = numbers (nodes_of_maybe x)

unfoldable pub stmt_numbers : Stmt → List ℕ
stmt_numbers x = numbers (nodes_of_stmt x)

unfoldable pub block_numbers : List Stmt → List ℕ
block_numbers xs = numbers (nodes_of_block xs)

unfoldable pub branch_numbers : List Branch → List ℕ
branch_numbers bs = numbers (nodes_of_branches bs)

unfoldable pub handler_numbers : List Handler → List ℕ
handler_numbers hs = numbers (nodes_of_handlers hs)

abbrev pub waiting_numbers : Waiting → List ℕ
waiting_numbers (w.IfBody i bs test) = i ∷ (branch_numbers bs.items ++ expr_numbers test)
waiting_numbers (w.IfElse i bs) = i ∷ branch_numbers bs.items
waiting_numbers (w.WhileBody i test) = i ∷ expr_numbers test
waiting_numbers (w.WhileElse i test body) = i ∷ (expr_numbers test ++ block_numbers body)
waiting_numbers (w.ForBody i target a) = i ∷ (expr_numbers target ++ expr_numbers a)
waiting_numbers (w.ForElse i target a body) = i ∷ (expr_numbers target ++ (expr_numbers a ++ block_numbers body))
waiting_numbers (w.TryBody i) = i ∷ []
waiting_numbers (w.ExceptBody i body hs c) = i ∷ (block_numbers body ++ (handler_numbers hs.items ++ c.node ∷ maybe_numbers c.class))
waiting_numbers (w.TryElse i body hs) = i ∷ (block_numbers body ++ handler_numbers hs.items)
waiting_numbers (w.FinallyBody i body hs otherwise) = i ∷ (block_numbers body ++ (handler_numbers hs.items ++ block_numbers otherwise))
waiting_numbers (w.DefBody i x names defaults) = i ∷ exprs_numbers defaults
waiting_numbers (w.ClassBody i x base) = i ∷ maybe_numbers base

abbrev pub after_numbers : After → List ℕ
after_numbers (a.If i bs) = i ∷ branch_numbers bs.items
after_numbers (a.While i test body) = i ∷ (expr_numbers test ++ block_numbers body)
after_numbers (a.For i target x body) = i ∷ (expr_numbers target ++ (expr_numbers x ++ block_numbers body))
after_numbers (a.Try i body) = i ∷ block_numbers body
after_numbers (a.Except i body hs more) = i ∷ (block_numbers body ++ handler_numbers hs.items)
after_numbers (a.Else i body hs otherwise) = i ∷ (block_numbers body ++ (handler_numbers hs.items ++ block_numbers otherwise))

abbrev pub last_numbers : Last → List ℕ
last_numbers l.Nothing = []
last_numbers (l.Whole x) = stmt_numbers x
last_numbers (l.After x) = after_numbers x
last_numbers (l.Waits w) = waiting_numbers w

abbrev pub row_numbers : Row → List ℕ
row_numbers r = block_numbers r.done.items ++ last_numbers r.last

abbrev pub outer_numbers : Outer → List ℕ
outer_numbers o = block_numbers o.done.items ++ waiting_numbers o.waiting

unfoldable pub outers_numbers : List Outer → List ℕ
outers_numbers [] = []
outers_numbers (o ∷ os) = outer_numbers o ++ outers_numbers os

abbrev pub open_numbers : Open → List ℕ
open_numbers o = outers_numbers o.outers.items ++ row_numbers o.row

abbrev pub opened_of : Open → Opened
opened_of o = record { state = state_of o; numbers = open_numbers o }
