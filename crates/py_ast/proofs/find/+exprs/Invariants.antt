use Rattle.std.proofs.Common.{◌≡◌, drop}
use Rattle.py_ast.specs.Nodes.{nodes_of_all}
use Rattle.py_ast.specs.Walks.{with_number}
use Rattle.py_ast.proofs.find.+exprs.Given as goal

abbrev pub invariant-in_exprs-loop-e : goal.invariant-in_exprs-loop-e
invariant-in_exprs-loop-e l = with_number l.i (nodes_of_all (drop l.e-index l.all)) ≡ with_number l.i (nodes_of_all l.all)
