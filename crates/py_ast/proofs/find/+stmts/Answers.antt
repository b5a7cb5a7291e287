use Rattle.py_ast.specs.Nodes.{nodes_of_branch, nodes_of_handler, nodes_of_stmt}
use Rattle.py_ast.proofs.NodeLists.{found_here, found_later}
use Rattle.py_ast.proofs.find.+stmts.Goals as goal

pub in_block-returns-in-Some : goal.in_block-returns-in-Some
in_block-returns-in-Some t c = found_here nodes_of_stmt c.loop-s.s-index c.args.i c.args.all.now c.s-item.result c.in_stmt.result c.in-Some.found c.loop-s-test.true c.s-item.is c.in_stmt.ensures c.loop-s.invariant c.in-Some.is

pub in_block-loop-s-preserved : goal.in_block-loop-s-preserved
in_block-loop-s-preserved t c = found_later nodes_of_stmt c.loop-s.s-index c.args.i c.args.all.now c.s-item.result c.in_stmt.result c.loop-s-test.true c.s-item.is c.in_stmt.ensures c.loop-s.invariant c.in-None.is

pub in_branches-returns-in-Some : goal.in_branches-returns-in-Some
in_branches-returns-in-Some t c = found_here nodes_of_branch c.loop-b.b-index c.args.i c.args.all.now c.b-item.result c.in_branch.result c.in-Some.found c.loop-b-test.true c.b-item.is c.in_branch.ensures c.loop-b.invariant c.in-Some.is

pub in_branches-loop-b-preserved : goal.in_branches-loop-b-preserved
in_branches-loop-b-preserved t c = found_later nodes_of_branch c.loop-b.b-index c.args.i c.args.all.now c.b-item.result c.in_branch.result c.loop-b-test.true c.b-item.is c.in_branch.ensures c.loop-b.invariant c.in-None.is

pub in_handlers-returns-in-Some : goal.in_handlers-returns-in-Some
in_handlers-returns-in-Some t c = found_here nodes_of_handler c.loop-h.h-index c.args.i c.args.all.now c.h-item.result c.in_handler.result c.in-Some.found c.loop-h-test.true c.h-item.is c.in_handler.ensures c.loop-h.invariant c.in-Some.is

pub in_handlers-loop-h-preserved : goal.in_handlers-loop-h-preserved
in_handlers-loop-h-preserved t c = found_later nodes_of_handler c.loop-h.h-index c.args.i c.args.all.now c.h-item.result c.in_handler.result c.loop-h-test.true c.h-item.is c.in_handler.ensures c.loop-h.invariant c.in-None.is
