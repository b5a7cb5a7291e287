-- What is written of each form of statement, part by part.
use Rattle.std.proofs.Common.{◌≡◌, ◌≢◌, ℕ, ◌+◌, Bool, true, false, arith, List, [], ◌∷◌, ◌++◌, drop, length, get_or, map, Option, Some, None, option_map, refl, sym, ap, ◌∙◌, ◌<◌}
use Rattle.std.proofs.lemmas.List.{drop_more}
use Rattle.py_ast.specs.Tree.{Tree}
use Rattle.py_ast.specs.View.{view, views}
use Rattle.py_ast.specs.Statement as x
use Rattle.py_ast.specs.Statement.{Statement, Block, empty, then, branch, handler, view_stmt, view_stmt_step, view_branch_step, view_handler_step, branches_of, handlers_of, view_block}
use Rattle.py_ast.specs.declared.expr.BinaryOp.{BinaryOp}
use Rattle.py_ast.specs.declared.expr.Expr.{Expr}
use Rattle.py_ast.specs.declared.stmt.Stmt.{Stmt}
use Rattle.py_ast.specs.declared.stmt.Stmt.TheVariants as w
use Rattle.py_ast.specs.declared.stmt.Stmt.TheOpen as s
use Rattle.py_ast.specs.declared.stmt.Stmt.TheFolds.{fold-roll-Stmt, fold-roll-Branch, fold-roll-Handler}
use Rattle.py_ast.specs.declared.stmt.Stmt.TheViews.{roll-out-Branch, roll-out-Handler}
use Rattle.py_ast.specs.declared.stmt.Branch.{Branch, out-Branch}
use Rattle.py_ast.specs.declared.stmt.Handler.{Handler, out-Handler}
use Rattle.py_grammar.specs.Line as l
use Rattle.py_grammar.specs.Line.{Header}
use Rattle.py_grammar.specs.declared.mark.Mark.{Mark}
use Rattle.py_grammar.specs.declared.mark.Mark.TheVariants as m
use Rattle.py_print.specs.Pieces.{space, mark, name}
use Rattle.py_print.specs.Expressions.{printed, members}
use Rattle.py_print.specs.Forms.{message_of, word_and, test_word, view_branch, view_handler}
use Rattle.py_print.specs.Lines as lines
use Rattle.py_print.specs.Printed.{PrintedLine, head_at, if_there, lines_of, statement, tests, catches}
use Rattle.py_print.specs.Writing.{with_pieces, with_lines, with_header, with_otherwise}
use Rattle.py_print.proofs.PrintLists.{with_pieces_append, with_lines_append, header_line}
use Rattle.py_print.proofs.PrintForms.{with_between}

-- what a statement stands for, layer by layer
abbrev BranchParts : Type 0
BranchParts = Tree × Block

abbrev HandlerParts : Type 0
HandlerParts = Option Tree × Option (List ℕ) × Block

-- ---- simple statements

pub of_Assign : (text : List ℕ) (i : ℕ) (ts : List Expr) (a : Expr)
    → with_pieces text (lines.simple (view_stmt (w.Assign i ts a))) ≡ with_pieces (with_pieces text (lines.lefts (members (views ts)))) (printed (view a))
of_Assign text i ts a =
    ap (λ z. with_pieces text (lines.simple z))
    (ap view_stmt (sym (w.rolls-Assign i ts a)) ∙ fold-roll-Stmt Statement BranchParts HandlerParts view_stmt_step view_branch_step view_handler_step (s.Assign i ts a))
    ∙ with_pieces_append text (lines.lefts (members (views ts))) (printed (view a))

pub of_Augment : (text : List ℕ) (i : ℕ) (p : Expr) (o : BinaryOp) (a : Expr)
    → with_pieces text (lines.simple (view_stmt (w.Augment i p o a)))
    ≡ with_pieces (with_pieces (with_pieces text (printed (view p))) (space ∷ mark (lines.augmented o) ∷ space ∷ [])) (printed (view a))
of_Augment text i p o a =
    ap (λ z. with_pieces text (lines.simple z))
    (ap view_stmt (sym (w.rolls-Augment i p o a)) ∙ fold-roll-Stmt Statement BranchParts HandlerParts view_stmt_step view_branch_step view_handler_step (s.Augment i p o a))
    ∙ with_between text (lines.augmented o) (printed (view p)) (printed (view a))

asserted : (text : List ℕ) (a : Tree) (message : Option Tree)
    → with_pieces text (lines.simple (x.assert a message)) ≡ with_pieces (with_pieces text (word_and m.Assert a)) (message_of message)
asserted text a None = refl
asserted text a (Some b) = with_pieces_append (with_pieces text (mark m.Assert ∷ space ∷ [])) (printed a) (mark m.Comma ∷ space ∷ printed b)

pub of_Assert : (text : List ℕ) (i : ℕ) (a : Expr) (message : Option Expr)
    → with_pieces text (lines.simple (view_stmt (w.Assert i a message)))
    ≡ with_pieces (with_pieces text (word_and m.Assert (view a))) (message_of (option_map view message))
of_Assert text i a message =
    ap (λ z. with_pieces text (lines.simple z))
    (ap view_stmt (sym (w.rolls-Assert i a message)) ∙ fold-roll-Stmt Statement BranchParts HandlerParts view_stmt_step view_branch_step view_handler_step (s.Assert i a message))
    ∙ asserted text (view a) (option_map view message)

-- ---- headers and blocks

headed_alone : (text : List ℕ) (deep : ℕ) (h : Header) (xs : List PrintedLine)
    → with_lines text (head_at deep h xs) ≡ with_lines (with_header text deep (lines.header h)) xs
headed_alone text deep h xs = ap (λ z. with_lines z xs) (header_line text deep h)

headed : (text : List ℕ) (deep : ℕ) (h : Header) (xs ys : List PrintedLine)
    → with_lines text (head_at deep h xs ++ ys) ≡ with_lines (with_lines (with_header text deep (lines.header h)) xs) ys
headed text deep h xs ys = headed_alone text deep h (xs ++ ys) ∙ with_lines_append (with_header text deep (lines.header h)) xs ys

-- a block that may be missing, behind a header of one keyword
there : (text : List ℕ) (deep : ℕ) (h : Header) (k : Mark) (b : Block) → lines.header h ≡ mark k ∷ []
    → with_lines text (if_there deep h b (lines_of (deep + 1) b)) ≡ with_otherwise text deep k b
there text deep h k empty is = refl
there text deep h k (then y b) is =
    headed_alone text deep h (lines_of (deep + 1) (then y b))
    ∙ ap (λ z. with_lines (with_header text deep z) (lines_of (deep + 1) (then y b))) is

pub otherwise_there : (text : List ℕ) (deep : ℕ) (k : Mark) (all : List Stmt) → length all ≢ 0
    → with_otherwise text deep k (view_block all) ≡ with_lines (with_header text deep (mark k ∷ [])) (lines_of (deep + 1) (view_block all))
otherwise_there text deep k [] some = absurd (some refl)
otherwise_there text deep k (y ∷ all) some = refl

pub otherwise_missing : (text : List ℕ) (deep : ℕ) (k : Mark) (all : List Stmt) → length all ≡ 0 → with_otherwise text deep k (view_block all) ≡ text
otherwise_missing text deep k [] none = refl
otherwise_missing text deep k (y ∷ all) none = absurd (omega arith)

behind_else : (text : List ℕ) (deep : ℕ) (h : Header) (xs : List PrintedLine) (b : Block)
    → with_lines text (head_at deep h xs ++ if_there deep l.else b (lines_of (deep + 1) b))
    ≡ with_otherwise (with_lines (with_header text deep (lines.header h)) xs) deep m.Else b
behind_else text deep h xs b =
    headed text deep h xs (if_there deep l.else b (lines_of (deep + 1) b))
    ∙ there (with_lines (with_header text deep (lines.header h)) xs) deep l.else m.Else b refl

-- ---- statements with blocks

pub of_If : (text : List ℕ) (deep i : ℕ) (bs : List Branch) (o : List Stmt)
    → with_lines text (statement deep (view_stmt (w.If i bs o)))
    ≡ with_otherwise (with_lines text (tests l.if deep (branches_of (map view_branch bs)))) deep m.Else (view_block o)
of_If text deep i bs o =
    let first = tests l.if deep (branches_of (map view_branch bs)) in
    ap (λ z. with_lines text (statement deep z))
    (ap view_stmt (sym (w.rolls-If i bs o)) ∙ fold-roll-Stmt Statement BranchParts HandlerParts view_stmt_step view_branch_step view_handler_step (s.If i bs o))
    ∙ with_lines_append text first (if_there deep l.else (view_block o) (lines_of (deep + 1) (view_block o)))
    ∙ there (with_lines text first) deep l.else m.Else (view_block o) refl

pub of_While : (text : List ℕ) (deep i : ℕ) (a : Expr) (b o : List Stmt)
    → with_lines text (statement deep (view_stmt (w.While i a b o)))
    ≡ with_otherwise (with_lines (with_header text deep (word_and m.While (view a))) (lines_of (deep + 1) (view_block b))) deep m.Else (view_block o)
of_While text deep i a b o =
    ap (λ z. with_lines text (statement deep z))
    (ap view_stmt (sym (w.rolls-While i a b o)) ∙ fold-roll-Stmt Statement BranchParts HandlerParts view_stmt_step view_branch_step view_handler_step (s.While i a b o))
    ∙ behind_else text deep (l.while (view a)) (lines_of (deep + 1) (view_block b)) (view_block o)

pub of_For : (text : List ℕ) (deep i : ℕ) (target a : Expr) (b o : List Stmt)
    → with_lines text (statement deep (view_stmt (w.For i target a b o)))
    ≡ with_otherwise (with_lines (with_header text deep (lines.header (l.for (view target) (view a)))) (lines_of (deep + 1) (view_block b))) deep m.Else (view_block o)
of_For text deep i target a b o =
    ap (λ z. with_lines text (statement deep z))
    (ap view_stmt (sym (w.rolls-For i target a b o)) ∙ fold-roll-Stmt Statement BranchParts HandlerParts view_stmt_step view_branch_step view_handler_step (s.For i target a b o))
    ∙ behind_else text deep (l.for (view target) (view a)) (lines_of (deep + 1) (view_block b)) (view_block o)

pub of_Try : (text : List ℕ) (deep i : ℕ) (b : List Stmt) (hs : List Handler) (o f : List Stmt)
    → with_lines text (statement deep (view_stmt (w.Try i b hs o f)))
    ≡ with_otherwise (with_otherwise (with_lines (with_lines (with_header text deep (mark m.Try ∷ [])) (lines_of (deep + 1) (view_block b)))
    (catches deep (handlers_of (map view_handler hs)))) deep m.Else (view_block o)) deep m.Finally (view_block f)
of_Try text deep i b hs o f =
    let inside = lines_of (deep + 1) (view_block b) in
    let caught = catches deep (handlers_of (map view_handler hs)) in
    let second = if_there deep l.else (view_block o) (lines_of (deep + 1) (view_block o)) in
    let third = if_there deep l.finally (view_block f) (lines_of (deep + 1) (view_block f)) in
    let behind = with_lines (with_lines (with_header text deep (mark m.Try ∷ [])) inside) caught in
    ap (λ z. with_lines text (statement deep z))
    (ap view_stmt (sym (w.rolls-Try i b hs o f)) ∙ fold-roll-Stmt Statement BranchParts HandlerParts view_stmt_step view_branch_step view_handler_step (s.Try i b hs o f))
    ∙ headed text deep l.try inside (caught ++ (second ++ third))
    ∙ with_lines_append (with_lines (with_header text deep (mark m.Try ∷ [])) inside) caught (second ++ third)
    ∙ with_lines_append behind second third
    ∙ ap (λ z. with_lines z third) (there behind deep l.else m.Else (view_block o) refl)
    ∙ there (with_otherwise behind deep m.Else (view_block o)) deep l.finally m.Finally (view_block f) refl

pub of_Def : (text : List ℕ) (deep i : ℕ) (name : List ℕ) (names : List (List ℕ)) (ds : List Expr) (b : List Stmt)
    → with_lines text (statement deep (view_stmt (w.Def i name names ds b)))
    ≡ with_lines (with_header text deep (lines.header (l.define name names (views ds)))) (lines_of (deep + 1) (view_block b))
of_Def text deep i name names ds b =
    ap (λ z. with_lines text (statement deep z))
    (ap view_stmt (sym (w.rolls-Def i name names ds b)) ∙ fold-roll-Stmt Statement BranchParts HandlerParts view_stmt_step view_branch_step view_handler_step (s.Def i name names ds b))
    ∙ headed_alone text deep (l.define name names (views ds)) (lines_of (deep + 1) (view_block b))

pub of_Class : (text : List ℕ) (deep i : ℕ) (name : List ℕ) (base : Option Expr) (b : List Stmt)
    → with_lines text (statement deep (view_stmt (w.Class i name base b)))
    ≡ with_lines (with_header text deep (lines.header (l.class name (option_map view base)))) (lines_of (deep + 1) (view_block b))
of_Class text deep i name base b =
    ap (λ z. with_lines text (statement deep z))
    (ap view_stmt (sym (w.rolls-Class i name base b)) ∙ fold-roll-Stmt Statement BranchParts HandlerParts view_stmt_step view_branch_step view_handler_step (s.Class i name base b))
    ∙ headed_alone text deep (l.class name (option_map view base)) (lines_of (deep + 1) (view_block b))

-- ---- loops

pub block_step : (deep i : ℕ) (text next : List ℕ) (all : List Stmt) (y : Stmt) (goal : List ℕ) → i < length all → y ≡ get_or all i y
    → next ≡ with_lines text (statement deep (view_stmt y))
    → with_lines text (lines_of deep (view_block (drop i all))) ≡ goal
    → with_lines next (lines_of deep (view_block (drop (i + 1) all))) ≡ goal
block_step deep i text next all y goal inside is one so_far =
    let more = lines_of deep (view_block (drop (i + 1) all)) in
    ap (λ z. with_lines z more) one
    ∙ sym (with_lines_append text (statement deep (view_stmt y)) more)
    ∙ ap (λ z. with_lines text (lines_of deep (view_block z))) (sym (drop_more all i y inside ∙ ap (λ z. z ∷ drop (i + 1) all) (sym is)))
    ∙ so_far

abbrev pub test_header : Bool → Tree → Header
test_header true = l.if
test_header false = l.elif

header_of_test : (first : Bool) (a : Tree) → lines.header (test_header first a) ≡ word_and (test_word first) a
header_of_test true a = refl
header_of_test false a = refl

seen_branch : (b : Branch) → view_branch b ≡ (view (out-Branch b).test, view_block (out-Branch b).body)
seen_branch b =
    ap view_branch (sym (roll-out-Branch b)) ∙ fold-roll-Branch Statement BranchParts HandlerParts view_stmt_step view_branch_step view_handler_step (out-Branch b)

seen_handler : (h : Handler) → view_handler h ≡ (option_map view (out-Handler h).class, (out-Handler h).name, view_block (out-Handler h).body)
seen_handler h =
    ap view_handler (sym (roll-out-Handler h)) ∙ fold-roll-Handler Statement BranchParts HandlerParts view_stmt_step view_branch_step view_handler_step (out-Handler h)

pub tests_step : (deep i : ℕ) (first : Bool) (text next : List ℕ) (all : List Branch) (y : Branch) (goal : List ℕ) → i < length all → y ≡ get_or all i y
    → next ≡ with_lines (with_header text deep (word_and (test_word first) (view (out-Branch y).test))) (lines_of (deep + 1) (view_block (out-Branch y).body))
    → with_lines text (tests (test_header first) deep (branches_of (map view_branch (drop i all)))) ≡ goal
    → with_lines next (tests l.elif deep (branches_of (map view_branch (drop (i + 1) all)))) ≡ goal
tests_step deep i first text next all y goal inside is one so_far =
    let rest = branches_of (map view_branch (drop (i + 1) all)) in
    let a = view (out-Branch y).test in
    let body = lines_of (deep + 1) (view_block (out-Branch y).body) in
    ap (λ z. with_lines z (tests l.elif deep rest)) (one ∙ ap (λ z. with_lines (with_header text deep z) body) (sym (header_of_test first a)))
    ∙ sym (headed text deep (test_header first a) body (tests l.elif deep rest))
    ∙ ap (λ z. with_lines text (tests (test_header first) deep (branch z.0 z.1 rest))) (sym (seen_branch y))
    ∙ ap (λ z. with_lines text (tests (test_header first) deep (branches_of (map view_branch z))))
    (sym (drop_more all i y inside ∙ ap (λ z. z ∷ drop (i + 1) all) (sym is)))
    ∙ so_far

pub catches_step : (deep i : ℕ) (text next : List ℕ) (all : List Handler) (y : Handler) (goal : List ℕ) → i < length all → y ≡ get_or all i y
    → next ≡ with_lines (with_header text deep (lines.header (l.except (option_map view (out-Handler y).class) (out-Handler y).name)))
    (lines_of (deep + 1) (view_block (out-Handler y).body))
    → with_lines text (catches deep (handlers_of (map view_handler (drop i all)))) ≡ goal
    → with_lines next (catches deep (handlers_of (map view_handler (drop (i + 1) all)))) ≡ goal
catches_step deep i text next all y goal inside is one so_far =
    let rest = handlers_of (map view_handler (drop (i + 1) all)) in
    let class = option_map view (out-Handler y).class in
    let body = lines_of (deep + 1) (view_block (out-Handler y).body) in
    ap (λ z. with_lines z (catches deep rest)) one
    ∙ sym (headed text deep (l.except class (out-Handler y).name) body (catches deep rest))
    ∙ ap (λ z. with_lines text (catches deep (handler z.0 z.1 z.2 rest))) (sym (seen_handler y))
    ∙ ap (λ z. with_lines text (catches deep (handlers_of (map view_handler z)))) (sym (drop_more all i y inside ∙ ap (λ z. z ∷ drop (i + 1) all) (sym is)))
    ∙ so_far
