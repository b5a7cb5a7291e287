use Rattle.py_ast.specs.Nodes.{nodes_of_branch, nodes_of_handler, nodes_of_stmt}
use Rattle.py_ast.proofs.NodeLists.{counted_stops, counted_goes_on}
use Rattle.py_ast.proofs.numbering.+stmts.Goals as goal

pub counted_block-returns-in-None : goal.counted_block-returns-in-None
counted_block-returns-in-None t c = counted_stops nodes_of_stmt c.loop-s.s-index c.loop-s.at c.args.last c.args.all.now c.s-item.result c.counted_stmt.result c.loop-s-test.true c.s-item.is c.counted_stmt.ensures c.loop-s.invariant c.in-None.is

pub counted_block-loop-s-preserved : goal.counted_block-loop-s-preserved
counted_block-loop-s-preserved t c = counted_goes_on nodes_of_stmt c.loop-s.s-index c.loop-s.at c.args.last c.in-Some.next c.args.all.now c.s-item.result c.counted_stmt.result c.loop-s-test.true c.s-item.is c.counted_stmt.ensures c.loop-s.invariant c.in-Some.is

pub counted_branches-returns-in-None : goal.counted_branches-returns-in-None
counted_branches-returns-in-None t c = counted_stops nodes_of_branch c.loop-b.b-index c.loop-b.at c.args.last c.args.all.now c.b-item.result c.counted_branch.result c.loop-b-test.true c.b-item.is c.counted_branch.ensures c.loop-b.invariant c.in-None.is

pub counted_branches-loop-b-preserved : goal.counted_branches-loop-b-preserved
counted_branches-loop-b-preserved t c = counted_goes_on nodes_of_branch c.loop-b.b-index c.loop-b.at c.args.last c.in-Some.next c.args.all.now c.b-item.result c.counted_branch.result c.loop-b-test.true c.b-item.is c.counted_branch.ensures c.loop-b.invariant c.in-Some.is

pub counted_handlers-returns-in-None : goal.counted_handlers-returns-in-None
counted_handlers-returns-in-None t c = counted_stops nodes_of_handler c.loop-h.h-index c.loop-h.at c.args.last c.args.all.now c.h-item.result c.counted_handler.result c.loop-h-test.true c.h-item.is c.counted_handler.ensures c.loop-h.invariant c.in-None.is

pub counted_handlers-loop-h-preserved : goal.counted_handlers-loop-h-preserved
counted_handlers-loop-h-preserved t c = counted_goes_on nodes_of_handler c.loop-h.h-index c.loop-h.at c.args.last c.in-Some.next c.args.all.now c.h-item.result c.counted_handler.result c.loop-h-test.true c.h-item.is c.counted_handler.ensures c.loop-h.invariant c.in-Some.is
