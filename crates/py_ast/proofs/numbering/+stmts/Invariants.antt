use Rattle.std.proofs.Common.{◌≡◌, drop}
use Rattle.py_ast.specs.Nodes.{nodes_of_block, nodes_of_branches, nodes_of_handlers}
use Rattle.py_ast.specs.Walks.{counted}
use Rattle.py_ast.proofs.numbering.+stmts.Given as goal

abbrev pub invariant-counted_block-loop-s : goal.invariant-counted_block-loop-s
invariant-counted_block-loop-s l = counted l.at (nodes_of_block (drop l.s-index l.all)) ≡ counted l.last (nodes_of_block l.all)

abbrev pub invariant-counted_branches-loop-b : goal.invariant-counted_branches-loop-b
invariant-counted_branches-loop-b l = counted l.at (nodes_of_branches (drop l.b-index l.all)) ≡ counted l.last (nodes_of_branches l.all)

abbrev pub invariant-counted_handlers-loop-h : goal.invariant-counted_handlers-loop-h
invariant-counted_handlers-loop-h l = counted l.at (nodes_of_handlers (drop l.h-index l.all)) ≡ counted l.last (nodes_of_handlers l.all)
