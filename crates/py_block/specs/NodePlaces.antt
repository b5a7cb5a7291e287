-- Where the nodes of a cell begin, by the lines that spell it.
use Rattle.std.specs.Prelude.{◌≡◌, ◌<◌, ◌≤◌, ℕ, ◌+◌, List, [], ◌∷◌, ◌++◌}
use Rattle.py_lexer.specs.declared.token.Token.{Token}
use Rattle.py_layout.specs.declared.line.LogicalLine.{LogicalLine}
use Rattle.py_grammar.specs.Line.{Line}
use Rattle.py_grammar.specs.Blocks.{Placed}
use Rattle.py_line.specs.Numbers.{size_of_line}
use Rattle.py_block.specs.Cell.{AreSpelled, Spelled}

-- how many nodes begin in lines
abbrev pub nodes_of : List Placed → ℕ
nodes_of [] = 0
nodes_of (x ∷ xs) = size_of_line x.line + nodes_of xs

-- a node begins in a logical line: fewer nodes than its number begin in the lines before, and no fewer in these and the line
pub record BeginsIn (text : List ℕ) (tokens : List Token) (lines : List LogicalLine) (node : ℕ) (line : LogicalLine) : Type 0 where
  pub before : List LogicalLine
  pub after : List LogicalLine
  pub there : lines ≡ before ++ line ∷ after
  pub these : List Placed
  pub this : Line
  pub spelled : AreSpelled text tokens before these
  pub spells : Spelled text tokens line this
  pub later : nodes_of these < node
  pub within : node ≤ nodes_of these + size_of_line this
