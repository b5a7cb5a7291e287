use Rattle.py_ast.specs.Nodes.{nodes}
use Rattle.py_ast.proofs.NodeLists.{found_here, found_later}
use Rattle.py_ast.proofs.find.+exprs.Goals as goal

pub in_exprs-returns-in-Some : goal.in_exprs-returns-in-Some
in_exprs-returns-in-Some t c = found_here nodes c.loop-e.e-index c.args.i c.args.all.now c.e-item.result c.in_expr.result c.in-Some.found c.loop-e-test.true c.e-item.is c.in_expr.ensures c.loop-e.invariant c.in-Some.is

pub in_exprs-loop-e-preserved : goal.in_exprs-loop-e-preserved
in_exprs-loop-e-preserved t c = found_later nodes c.loop-e.e-index c.args.i c.args.all.now c.e-item.result c.in_expr.result c.loop-e-test.true c.e-item.is c.in_expr.ensures c.loop-e.invariant c.in-None.is
