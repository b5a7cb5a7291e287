-- How cells are printed: each simple statement and each header on a line of its own, and a block one deeper than its header.
use Rattle.std.specs.Prelude.{ℕ, ◌+◌, ◌*◌, List, [], ◌∷◌, ◌++◌, replicate}
use Rattle.std.specs.List.{flat_map}
use Rattle.py_ast.specs.Tree.{Tree}
use Rattle.py_ast.specs.Statement as s
use Rattle.py_ast.specs.Statement.{Statement, Block, empty, then, Branches, no_branches, branch, Handlers, no_handlers, handler}
use Rattle.py_grammar.specs.Line as l
use Rattle.py_grammar.specs.Line.{Header, Line}
use Rattle.py_grammar.specs.Blocks.{Placed}
use Rattle.py_grammar.specs.declared.mark.Mark.TheVariants as m
use Rattle.py_print.specs.Pieces.{Piece, mark, text_of}
use Rattle.py_print.specs.Lines as lines

-- ---- lines

-- what stands on a line
pub data Row : Type 0 where
  simple : Statement → Row
  header : Header → Row

pub record PrintedLine : Type 0 where
  pub deep : ℕ
  pub row : Row

abbrev pub pieces : Row → List Piece
pieces (simple x) = lines.simple x
pieces (header h) = lines.header h ++ mark m.Colon ∷ []

-- the line of the grammar
abbrev pub line : Row → Line
line (simple x) = l.simples (x ∷ [])
line (header h) = l.header h []

abbrev pub placed : PrintedLine → Placed
placed x = record { deep = x.deep; line = line x.row }

-- ---- statements

abbrev pub simple_at : ℕ → Statement → List PrintedLine
simple_at deep x = record { deep = deep; row = simple x } ∷ []

-- a header and what follows it
abbrev pub head_at : ℕ → Header → List PrintedLine → List PrintedLine
head_at deep h more = record { deep = deep; row = header h } ∷ more

-- a header with its block, where the block is there
abbrev pub if_there : ℕ → Header → Block → List PrintedLine → List PrintedLine
if_there deep h empty lines = []
if_there deep h (then x xs) lines = head_at deep h lines

abbrev mutual
  pub lines_of : ℕ → Block → List PrintedLine
  lines_of deep empty = []
  lines_of deep (then x b) = statement deep x ++ lines_of deep b

  pub statement : ℕ → Statement → List PrintedLine
  statement deep (s.choose branches otherwise) = tests l.if deep branches ++ if_there deep l.else otherwise (lines_of (deep + 1) otherwise)
  statement deep (s.while test body otherwise) =
      head_at deep (l.while test) (lines_of (deep + 1) body) ++ if_there deep l.else otherwise (lines_of (deep + 1) otherwise)
  statement deep (s.for target a body otherwise) =
      head_at deep (l.for target a) (lines_of (deep + 1) body) ++ if_there deep l.else otherwise (lines_of (deep + 1) otherwise)
  statement deep (s.try body handlers otherwise finally) =
      head_at deep l.try (lines_of (deep + 1) body)
      ++ (catches deep handlers
      ++ (if_there deep l.else otherwise (lines_of (deep + 1) otherwise) ++ if_there deep l.finally finally (lines_of (deep + 1) finally)))
  statement deep (s.define name names defaults body) = head_at deep (l.define name names defaults) (lines_of (deep + 1) body)
  statement deep (s.class name base body) = head_at deep (l.class name base) (lines_of (deep + 1) body)
  statement deep x = simple_at deep x

  -- the first test has one header, and those behind it `elif`
  pub tests : (Tree → Header) → ℕ → Branches → List PrintedLine
  tests h deep no_branches = []
  tests h deep (branch test body branches) = head_at deep (h test) (lines_of (deep + 1) body) ++ tests l.elif deep branches

  pub catches : ℕ → Handlers → List PrintedLine
  catches deep no_handlers = []
  catches deep (handler class x body handlers) = head_at deep (l.except class x) (lines_of (deep + 1) body) ++ catches deep handlers

-- ---- texts

-- four spaces for each depth, the pieces, and a line end
abbrev pub line_text : PrintedLine → List ℕ
line_text x = replicate (4 * x.deep) 32 ++ (text_of (pieces x.row) ++ 10 ∷ [])

abbrev pub lines_text : List PrintedLine → List ℕ
lines_text xs = flat_map line_text xs

-- the text of a cell's statements
abbrev pub printed : Block → List ℕ
printed b = lines_text (lines_of 0 b)
