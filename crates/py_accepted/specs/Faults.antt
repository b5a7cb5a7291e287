-- The texts that spell a cell in which a declaration has a scope fault.
use Rattle.std.specs.Prelude.{◌≡◌, ◌≤◌, ℕ, List, All, Contains}
use Rattle.py_ast.specs.Statement.{Block}
use Rattle.py_block.specs.Cell.{SpellsText}
use Rattle.py_block.specs.NodeLines.{line_at}
use Rattle.py_numbered.specs.Numbered.{numbered}
use Rattle.py_scope.specs.Chart.{faults_of_cell}

-- the first declaration of a cell that has a scope fault, by the numbers of the nodes
pub record IsFirstFault (b : Block) (node : ℕ) : Type 0 where
  pub faulty : Contains (faults_of_cell (numbered b)) node
  pub first : All (λ other. node ≤ other) (faults_of_cell (numbered b))

-- the text spells a cell, and the first of its declarations that has a scope fault begins in this line
pub record HasScopeFault (text : List ℕ) (line : ℕ) : Type 0 where
  pub block : Block
  pub spells : SpellsText text block
  pub node : ℕ
  pub first : IsFirstFault block node
  pub begins : line ≡ line_at text node
