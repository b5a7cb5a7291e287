use Rattle.py_ast.specs.Nodes.{nodes}
use Rattle.py_ast.proofs.NodeLists.{counted_stops, counted_goes_on}
use Rattle.py_ast.proofs.numbering.+exprs.Goals as goal

pub counted_exprs-returns-in-None : goal.counted_exprs-returns-in-None
counted_exprs-returns-in-None t c = counted_stops nodes c.loop-e.e-index c.loop-e.at c.args.last c.args.all.now c.e-item.result c.counted_expr.result c.loop-e-test.true c.e-item.is c.counted_expr.ensures c.loop-e.invariant c.in-None.is

pub counted_exprs-loop-e-preserved : goal.counted_exprs-loop-e-preserved
counted_exprs-loop-e-preserved t c = counted_goes_on nodes c.loop-e.e-index c.loop-e.at c.args.last c.in-Some.next c.args.all.now c.e-item.result c.counted_expr.result c.loop-e-test.true c.e-item.is c.counted_expr.ensures c.loop-e.invariant c.in-Some.is
