use Rattle.std.proofs.Common.{◌≡◌, drop}
use Rattle.py_ast.specs.Nodes.{nodes_of_block, nodes_of_branches, nodes_of_handlers}
use Rattle.py_ast.specs.Walks.{with_number}
use Rattle.py_ast.proofs.find.+stmts.Given as goal

abbrev pub invariant-in_block-loop-s : goal.invariant-in_block-loop-s
invariant-in_block-loop-s l = with_number l.i (nodes_of_block (drop l.s-index l.all)) ≡ with_number l.i (nodes_of_block l.all)

abbrev pub invariant-in_branches-loop-b : goal.invariant-in_branches-loop-b
invariant-in_branches-loop-b l = with_number l.i (nodes_of_branches (drop l.b-index l.all)) ≡ with_number l.i (nodes_of_branches l.all)

abbrev pub invariant-in_handlers-loop-h : goal.invariant-in_handlers-loop-h
invariant-in_handlers-loop-h l = with_number l.i (nodes_of_handlers (drop l.h-index l.all)) ≡ with_number l.i (nodes_of_handlers l.all)
