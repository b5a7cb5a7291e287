-- What `parse` answers to a text.
use Rattle.std.specs.Prelude.{◌≡◌, ℕ, List, Result, Ok, Err}
use Rattle.py_ast.specs.Nodes.{IsNumbered}
use Rattle.py_ast.specs.Statement.{view_cell}
use Rattle.py_ast.specs.declared.cell.Cell.{Cell}
use Rattle.py_block.specs.Parsed.{parsed}
use Rattle.py_block.specs.declared.fault.SyntaxFault.{SyntaxFault}
use Rattle.py_block.specs.declared.fault.SyntaxFault.TheVariants.{At, NoMemory}

-- the cell has the statements that the text spells, and its nodes hold their numbers
pub record IsCellOf (text : List ℕ) (c : Cell) : Type 0 where
  pub spelled : parsed text ≡ Ok (view_cell c)
  pub numbered : IsNumbered c

-- the first fault of a text that spells no cell
abbrev pub IsFaultOf : List ℕ → SyntaxFault → Type 0
IsFaultOf text (At line kind) = parsed text ≡ Err (line, kind)
IsFaultOf text NoMemory = Unit {0}

abbrev pub IsAnswer : List ℕ → Result Cell SyntaxFault → Type 0
IsAnswer text (Ok c) = IsCellOf text c
IsAnswer text (Err fault) = IsFaultOf text fault
