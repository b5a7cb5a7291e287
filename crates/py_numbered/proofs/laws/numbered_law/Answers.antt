use Rattle.py_numbered.proofs.Back.{cell_back}
use Rattle.py_numbered.proofs.InOrder.{cell_in_order}
use Rattle.py_numbered.proofs.SameStmt.{same_cell}
use Rattle.py_numbered.proofs.laws.numbered_law.Goals as goal

pub returns-clause-same : goal.returns-clause-same
returns-clause-same c = same_cell

pub returns-clause-tree : goal.returns-clause-tree
returns-clause-tree c = cell_back

pub returns-clause-in_order : goal.returns-clause-in_order
returns-clause-in_order c = cell_in_order
