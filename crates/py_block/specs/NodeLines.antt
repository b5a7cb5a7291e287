-- In which logical line each node of a cell begins.
use Rattle.std.specs.Prelude.{◌≡◌, ◌≤◌, ℕ, ◌+◌, List, [], ◌∷◌, map, nat_le, if◌then◌else◌, Result, Ok, Err}
use Rattle.py_ast.specs.Nodes.{nodes_of_cell}
use Rattle.py_ast.specs.declared.cell.Cell.{Cell}
use Rattle.py_lexer.specs.declared.token.Token.{Token}
use Rattle.py_layout.specs.declared.line.LogicalLine.{LogicalLine}
use Rattle.py_line.specs.Numbers.{size_of_line}
use Rattle.py_block.specs.Answer.{IsCellOf}
use Rattle.py_block.specs.Lexing.{lexed, laid}
use Rattle.py_block.specs.Parsed.{Form, a_line, Told, told, with_line_ends}
use Rattle.std.specs.Prelude.{length}

-- how many nodes begin in a line of a form
abbrev pub nodes_in : Form → ℕ
nodes_in (a_line x) = size_of_line x
nodes_in form = 0

-- the number of the line in which a node begins, where so many nodes stand before the lines; 0 where none of them has it
abbrev pub line_from : ℕ → List Told → ℕ → ℕ
line_from before [] node = 0
line_from before (x ∷ xs) node = if nat_le node (before + nodes_in x.form) then x.number else line_from (before + nodes_in x.form) xs node

abbrev pub line_in_laid : List ℕ → List Token → Result (List LogicalLine) ℕ → ℕ → ℕ
line_in_laid text tokens (Err line) node = 0
line_in_laid text tokens (Ok lines) node = line_from 0 (map (told text tokens) lines) node

abbrev pub line_in_tokens : List ℕ → Result (List Token) ℕ → ℕ → ℕ
line_in_tokens text (Err line) node = 0
line_in_tokens text (Ok tokens) node = line_in_laid text tokens (laid text tokens) node

-- the number of the logical line of a text in which a node begins
unfoldable pub line_at : List ℕ → ℕ → ℕ
line_at text node = line_in_tokens (with_line_ends text) (lexed (with_line_ends text)) node

-- the text spells a cell with a node of this number
pub record HasNode (text : List ℕ) (node : ℕ) : Type 0 where
  pub cell : Cell
  pub spelled : IsCellOf text cell
  pub from_one : 1 ≤ node
  pub within : node ≤ length (nodes_of_cell cell)
