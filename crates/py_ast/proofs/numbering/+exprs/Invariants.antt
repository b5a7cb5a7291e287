use Rattle.std.proofs.Common.{◌≡◌, drop}
use Rattle.py_ast.specs.Nodes.{nodes_of_all}
use Rattle.py_ast.specs.Walks.{counted}
use Rattle.py_ast.proofs.numbering.+exprs.Given as goal

abbrev pub invariant-counted_exprs-loop-e : goal.invariant-counted_exprs-loop-e
invariant-counted_exprs-loop-e l = counted l.at (nodes_of_all (drop l.e-index l.all)) ≡ counted l.last (nodes_of_all l.all)
