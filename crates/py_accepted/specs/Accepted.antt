-- Which cell a text is accepted as: the one that it spells, unless a declaration in it has a scope fault.
use Rattle.std.specs.Prelude.{◌≡◌, ℕ, List, Option, Some, None, Result, Ok, Err}
use Rattle.flow_base.specs.declared.kinds.SyntaxKind.TheVariants.{Scope}
use Rattle.py_ast.specs.Nodes.{IsNumbered}
use Rattle.py_ast.specs.Statement.{Block, view_cell}
use Rattle.py_block.specs.NodeLines.{line_at}
use Rattle.py_block.specs.Parsed.{Fault, parsed}
use Rattle.py_block.specs.declared.fault.SyntaxFault.{SyntaxFault}
use Rattle.py_block.specs.declared.fault.SyntaxFault.TheVariants.{At, NoMemory}
use Rattle.py_numbered.specs.Numbered.{numbered}
use Rattle.py_scope.specs.Chart.{first_fault, seats_of_cell}
use Rattle.py_scope.specs.declared.codes.Coded.{Coded}

-- a scope fault is told at the line of the first declaration that has one
abbrev pub without_fault : List ℕ → Block → Option ℕ → Result Block Fault
without_fault text b None = Ok b
without_fault text b (Some node) = Err (line_at text node, Scope)

-- scopes are looked at last, where the text spells a cell
abbrev pub with_scopes : List ℕ → Result Block Fault → Result Block Fault
with_scopes text (Ok b) = without_fault text b (first_fault (numbered b))
with_scopes text (Err fault) = Err fault

-- the block of the cell as which a text is accepted, or its first fault by the order of the kinds: the number of a line, and the kind
unfoldable pub cell_of : List ℕ → Result Block Fault
cell_of text = with_scopes text (parsed text)

-- ---- what `accept` answers

-- the cell has the statements of the text, its nodes hold their numbers, and its scopes are what is known of each of its nodes
pub record IsCodedOf (text : List ℕ) (c : Coded) : Type 0 where
  pub accepted : cell_of text ≡ Ok (view_cell c.cell)
  pub numbered : IsNumbered c.cell
  pub scopes : c.scopes ≡ seats_of_cell c.cell

abbrev pub IsFaultOf : List ℕ → SyntaxFault → Type 0
IsFaultOf text (At line kind) = cell_of text ≡ Err (line, kind)
IsFaultOf text NoMemory = Unit {0}

abbrev pub IsAnswer : List ℕ → Result Coded SyntaxFault → Type 0
IsAnswer text (Ok c) = IsCodedOf text c
IsAnswer text (Err fault) = IsFaultOf text fault
