use Rattle.std.proofs.Common.{◌∙◌}
use Rattle.py_ast.specs.Nodes.{nodes_of_cell}
use Rattle.py_ast.proofs.NodeLists.{numbered_found, outside_law}
use Rattle.py_ast.proofs.find.node.Goals as goal

pub returns-clause-value : goal.returns-clause-value
returns-clause-value c = (rw c.as_slice.ensures at c.in_block.ensures) ∙ numbered_found c.args.c.now c.args.i c.requires

pub returns-clause-outside : goal.returns-clause-outside
returns-clause-outside c =
    outside_law (nodes_of_cell c.args.c.now) c.args.i c.in_block.result
    ((rw c.as_slice.ensures at c.in_block.ensures) ∙ numbered_found c.args.c.now c.args.i c.requires)
