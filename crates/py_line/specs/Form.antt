-- The plain lines that the program's own lines stand for, and the numbers of their nodes.
use Rattle.std.specs.Prelude.{◌≡◌, ℕ, ◌+◌, length, List, ◌∷◌, ◌++◌, map, Option, option_map}
use Rattle.py_ast.specs.Tree.{Tree, Trees}
use Rattle.py_ast.specs.View.{view, views}
use Rattle.py_ast.specs.Statement as s
use Rattle.py_ast.specs.Statement.{Statement, view_stmt}
use Rattle.py_ast.specs.Nodes.{Node, nodes, nodes_of_all, nodes_of_maybe, nodes_of_block, nodes_of_stmt, number_of, count_from}
use Rattle.py_ast.specs.declared.expr.Expr.{Expr}
use Rattle.py_ast.specs.declared.stmt.Stmt.{Stmt}
use Rattle.py_grammar.specs.Line as l
use Rattle.py_grammar.specs.Line.{Line, Header, simples, header}
use Rattle.py_line.specs.Numbers.{size, size_of_all, size_of_line, size_of_maybe, size_of_statement, size_of_statements}
use Rattle.py_line.specs.declared.form.LineForm.{LineForm}
use Rattle.py_line.specs.declared.form.LineForm.TheVariants as f
use Rattle.py_line.specs.declared.line.LineRead.{LineRead}
use Rattle.py_line.specs.declared.raw.RawSimple.{RawSimple}
use Rattle.py_line.specs.declared.raw.RawSimple.TheVariants as q
use Rattle.py_line.specs.declared.raw.RawHeader.{RawHeader}
use Rattle.py_line.specs.declared.raw.RawHeader.TheVariants as h
use Rattle.py_line.specs.declared.raw.RawLine.{RawLine}
use Rattle.py_line.specs.declared.raw.RawLine.TheVariants as r

-- ---- the plain line

abbrev pub statements_of : List Stmt → List Statement
statements_of xs = map view_stmt xs

abbrev pub line_of : LineForm → Line
line_of (f.Simples xs) = simples (statements_of xs.items)
line_of (f.If i a xs) = header (l.if (view a)) (statements_of xs.items)
line_of (f.Elif a xs) = header (l.elif (view a)) (statements_of xs.items)
line_of (f.Else xs) = header l.else (statements_of xs.items)
line_of (f.While i a xs) = header (l.while (view a)) (statements_of xs.items)
line_of (f.For i target a xs) = header (l.for (view target) (view a)) (statements_of xs.items)
line_of (f.Try i xs) = header l.try (statements_of xs.items)
line_of (f.Finally xs) = header l.finally (statements_of xs.items)
line_of (f.Except i class x xs) = header (l.except (option_map view class) x) (statements_of xs.items)
line_of (f.Def i x names defaults xs) = header (l.define x names (views defaults)) (statements_of xs.items)
line_of (f.Class i x base xs) = header (l.class x (option_map view base)) (statements_of xs.items)

-- ---- numbers

abbrev pub numbers : List Node → List ℕ
numbers ns = map number_of ns

-- the numbers that the nodes of a line hold, in the order in which they begin in the text, a parent before its parts
abbrev pub numbers_of_form : LineForm → List ℕ
numbers_of_form (f.Simples xs) = numbers (nodes_of_block xs.items)
numbers_of_form (f.If i a xs) = i ∷ numbers (nodes a ++ nodes_of_block xs.items)
numbers_of_form (f.Elif a xs) = numbers (nodes a ++ nodes_of_block xs.items)
numbers_of_form (f.Else xs) = numbers (nodes_of_block xs.items)
numbers_of_form (f.While i a xs) = i ∷ numbers (nodes a ++ nodes_of_block xs.items)
numbers_of_form (f.For i target a xs) = i ∷ numbers (nodes target ++ (nodes a ++ nodes_of_block xs.items))
numbers_of_form (f.Try i xs) = i ∷ numbers (nodes_of_block xs.items)
numbers_of_form (f.Finally xs) = numbers (nodes_of_block xs.items)
numbers_of_form (f.Except i class x xs) = i ∷ numbers (nodes_of_maybe class ++ nodes_of_block xs.items)
numbers_of_form (f.Def i x names defaults xs) = i ∷ numbers (nodes_of_all defaults ++ nodes_of_block xs.items)
numbers_of_form (f.Class i x base xs) = i ∷ numbers (nodes_of_maybe base ++ nodes_of_block xs.items)

-- the nodes hold the numbers from the first on
abbrev pub IsNumberedFrom : ℕ → LineForm → Type 0
IsNumberedFrom first form = numbers_of_form form ≡ count_from first (length (numbers_of_form form))

-- the same tree, and its nodes hold the numbers from the first on
pub record Numbered (first : ℕ) (a : Tree) (x : Expr) : Type 0 where
  pub same : view x ≡ a
  pub in_order : numbers (nodes x) ≡ count_from first (size a)

pub record NumberedAll (first : ℕ) (ts : Trees) (xs : List Expr) : Type 0 where
  pub same : views xs ≡ ts
  pub in_order : numbers (nodes_of_all xs) ≡ count_from first (size_of_all ts)

pub record NumberedMaybe (first : ℕ) (a : Option Tree) (x : Option Expr) : Type 0 where
  pub same : option_map view x ≡ a
  pub in_order : numbers (nodes_of_maybe x) ≡ count_from first (size_of_maybe a)

pub record NumberedStatement (first : ℕ) (a : Statement) (x : Stmt) : Type 0 where
  pub same : view_stmt x ≡ a
  pub in_order : numbers (nodes_of_stmt x) ≡ count_from first (size_of_statement a)

pub record NumberedStatements (first : ℕ) (ss : List Statement) (xs : List Stmt) : Type 0 where
  pub same : statements_of xs ≡ ss
  pub in_order : numbers (nodes_of_block xs) ≡ count_from first (size_of_statements ss)

pub record NumberedLine (first : ℕ) (line : Line) (read : LineRead) : Type 0 where
  pub same : line_of read.form ≡ line
  pub in_order : numbers_of_form read.form ≡ count_from first (size_of_line line)
  pub follows : read.next ≡ first + size_of_line line

-- ---- lines that have no numbers yet

abbrev pub raw_simple_of : RawSimple → Statement
raw_simple_of (q.Expr a) = s.expression (view a)
raw_simple_of (q.Assign targets a) = s.assign (views targets.items) (view a)
raw_simple_of (q.Augment place o a) = s.augment (view place) o (view a)
raw_simple_of q.Pass = s.pass
raw_simple_of q.Break = s.break
raw_simple_of q.Continue = s.continue
raw_simple_of (q.Return a) = s.return (option_map view a)
raw_simple_of (q.Raise a) = s.raise (option_map view a)
raw_simple_of (q.Global names) = s.global names.items
raw_simple_of (q.Nonlocal names) = s.nonlocal names.items
raw_simple_of (q.Del target) = s.delete (view target)
raw_simple_of (q.Assert test message) = s.assert (view test) (option_map view message)

abbrev pub raw_simples_of : List RawSimple → List Statement
raw_simples_of xs = map raw_simple_of xs

abbrev pub raw_header_of : RawHeader → Header
raw_header_of (h.If a) = l.if (view a)
raw_header_of (h.Elif a) = l.elif (view a)
raw_header_of h.Else = l.else
raw_header_of (h.While a) = l.while (view a)
raw_header_of (h.For target a) = l.for (view target) (view a)
raw_header_of h.Try = l.try
raw_header_of h.Finally = l.finally
raw_header_of (h.Except class x) = l.except (option_map view class) x
raw_header_of (h.Def x names defaults) = l.define x names.items (views defaults.items)
raw_header_of (h.Class x base) = l.class x (option_map view base)

abbrev pub raw_line_of : RawLine → Line
raw_line_of (r.Simples xs) = simples (raw_simples_of xs.items)
raw_line_of (r.Header head xs) = header (raw_header_of head) (raw_simples_of xs.items)
