use Rattle.py_accepted.proofs.AcceptedLaws.{cell_where, has_node, other_where, scope_where}
use Rattle.py_accepted.proofs.laws.accepted_law.Goals as goal

pub returns-clause-cell : goal.returns-clause-cell
returns-clause-cell c = cell_where

pub returns-clause-scope : goal.returns-clause-scope
returns-clause-scope c = scope_where c.cell_law.ensures.sound c.cell_law.ensures.complete

pub returns-clause-other : goal.returns-clause-other
returns-clause-other c = other_where

pub returns-clause-node : goal.returns-clause-node
returns-clause-node c = has_node
