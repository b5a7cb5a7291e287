use Rattle.py_scope.proofs.NodeLaws.{as_many, cell_aligned, own_of_node}
use Rattle.py_scope.proofs.laws.nodes_law.Goals as goal

pub returns-clause-in_order : goal.returns-clause-in_order
returns-clause-in_order c = cell_aligned

pub returns-clause-as_many : goal.returns-clause-as_many
returns-clause-as_many c = as_many

pub returns-clause-own : goal.returns-clause-own
returns-clause-own c = own_of_node
