-- How many nodes a plain line has: statements, `except` clauses and expressions.
use Rattle.std.specs.Prelude.{ℕ, ◌+◌, List, [], ◌∷◌, Option, Some, None}
use Rattle.py_ast.specs.Tree as t
use Rattle.py_ast.specs.Tree.{Tree, Trees, none, more}
use Rattle.py_ast.specs.Statement as s
use Rattle.py_ast.specs.Statement.{Statement, Block, Branches, Handlers, empty, then, no_branches, branch, no_handlers, handler}
use Rattle.py_grammar.specs.Line as l
use Rattle.py_grammar.specs.Line.{Line, Header, simples, header}

-- ---- expressions

abbrev mutual
  pub size : Tree → ℕ
  size (t.name x) = 1
  size (t.number n) = 1
  size (t.text x) = 1
  size t.nil = 1
  size (t.truth b) = 1
  size (t.tuple ts) = 1 + size_of_all ts
  size (t.list ts) = 1 + size_of_all ts
  size (t.dict ts) = 1 + size_of_all ts
  size (t.lambda names defaults a) = 1 + (size_of_all defaults + size a)
  size (t.choice a test b) = 1 + (size a + (size test + size b))
  size (t.and a b) = 1 + (size a + size b)
  size (t.or a b) = 1 + (size a + size b)
  size (t.not a) = 1 + size a
  size (t.compare ops ts) = 1 + size_of_all ts
  size (t.binary a o b) = 1 + (size a + size b)
  size (t.sign o a) = 1 + size a
  size (t.attr a x) = 1 + size a
  size (t.item a i) = 1 + (size a + size i)
  size (t.call f ts) = 1 + (size f + size_of_all ts)

  pub size_of_all : Trees → ℕ
  size_of_all none = 0
  size_of_all (more a ts) = size a + size_of_all ts

abbrev pub size_of_maybe : Option Tree → ℕ
size_of_maybe None = 0
size_of_maybe (Some a) = size a

-- ---- statements

abbrev mutual
  pub size_of_statement : Statement → ℕ
  size_of_statement (s.expression a) = 1 + size a
  size_of_statement (s.assign ts a) = 1 + (size_of_all ts + size a)
  size_of_statement (s.augment p o a) = 1 + (size p + size a)
  size_of_statement s.pass = 1
  size_of_statement s.break = 1
  size_of_statement s.continue = 1
  size_of_statement (s.return a) = 1 + size_of_maybe a
  size_of_statement (s.raise a) = 1 + size_of_maybe a
  size_of_statement (s.global names) = 1
  size_of_statement (s.nonlocal names) = 1
  size_of_statement (s.delete a) = 1 + size a
  size_of_statement (s.assert a message) = 1 + (size a + size_of_maybe message)
  size_of_statement (s.choose bs b) = 1 + (size_of_branches bs + size_of_block b)
  size_of_statement (s.while a b c) = 1 + (size a + (size_of_block b + size_of_block c))
  size_of_statement (s.for target a b c) = 1 + (size target + (size a + (size_of_block b + size_of_block c)))
  size_of_statement (s.try b hs c d) = 1 + (size_of_block b + (size_of_handlers hs + (size_of_block c + size_of_block d)))
  size_of_statement (s.define x names defaults b) = 1 + (size_of_all defaults + size_of_block b)
  size_of_statement (s.class x base b) = 1 + (size_of_maybe base + size_of_block b)

  pub size_of_block : Block → ℕ
  size_of_block empty = 0
  size_of_block (then x b) = size_of_statement x + size_of_block b

  pub size_of_branches : Branches → ℕ
  size_of_branches no_branches = 0
  size_of_branches (branch test b bs) = size test + (size_of_block b + size_of_branches bs)

  pub size_of_handlers : Handlers → ℕ
  size_of_handlers no_handlers = 0
  size_of_handlers (handler class x b hs) = 1 + (size_of_maybe class + (size_of_block b + size_of_handlers hs))

abbrev pub size_of_statements : List Statement → ℕ
size_of_statements [] = 0
size_of_statements (x ∷ xs) = size_of_statement x + size_of_statements xs

-- ---- lines

-- `elif`, `else` and `finally` are no nodes
abbrev pub size_of_header : Header → ℕ
size_of_header (l.if a) = 1 + size a
size_of_header (l.elif a) = size a
size_of_header l.else = 0
size_of_header (l.while a) = 1 + size a
size_of_header (l.for target a) = 1 + (size target + size a)
size_of_header l.try = 1
size_of_header l.finally = 0
size_of_header (l.except class x) = 1 + size_of_maybe class
size_of_header (l.define x names defaults) = 1 + size_of_all defaults
size_of_header (l.class x base) = 1 + size_of_maybe base

abbrev pub size_of_line : Line → ℕ
size_of_line (simples xs) = size_of_statements xs
size_of_line (header h xs) = size_of_header h + size_of_statements xs
